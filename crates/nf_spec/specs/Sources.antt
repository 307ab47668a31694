-- The sources of a specification, in order: how many bytes they have, and their modules.
use Rattle.std.specs.Prelude.{ℕ, suc, ◌+◌, ◌<◌, ◌≤◌, List, [], ◌∷◌, ◌++◌, length, map, sum, take, Result, Ok, Err}
use Rattle.nf_core.specs.declared.trees.Module.{Module}
use Rattle.nf_parse.specs.declared.fault.ParseFault.{ParseFault}
use Rattle.nf_parse.specs.Parses.{Parses}
use Rattle.nf_spec.specs.declared.limits.TheConstants.{SPECIFICATION_LIMIT}

-- the most bytes of all sources of a specification together
abbrev pub specification_limit : ℕ
specification_limit = SPECIFICATION_LIMIT

-- how many bytes sources have together
abbrev pub total : List (List ℕ) → ℕ
total sources = sum (map length sources)

-- the first place at which the sources up to it have more bytes together than a limit; places are counted from 0
pub record IsPassedAt (limit : ℕ) (sources : List (List ℕ)) (place : ℕ) : Type 0 where
  pub before : total (take place sources) ≤ limit
  pub past : limit < total (take (place + 1) sources)

-- the modules of all sources, in order, or the place of the first source that is refused, with its fault. The sources before it are in the grammar
pub data AreParsed : List (List ℕ) → Result (List Module) (ℕ × ParseFault) → Type 0 where
  none : AreParsed [] (Ok [])
  more : {source : List ℕ} {sources : List (List ℕ)} {modules rest : List Module} → Parses source (Ok modules) → AreParsed sources (Ok rest) → AreParsed (source ∷ sources) (Ok (modules ++ rest))
  refused : {source : List ℕ} {sources : List (List ℕ)} {fault : ParseFault} → Parses source (Err fault) → AreParsed (source ∷ sources) (Err (0, fault))
  later : {source : List ℕ} {sources : List (List ℕ)} {modules : List Module} {place : ℕ} {fault : ParseFault} → Parses source (Ok modules) → AreParsed sources (Err (place, fault)) → AreParsed (source ∷ sources) (Err (suc place, fault))
