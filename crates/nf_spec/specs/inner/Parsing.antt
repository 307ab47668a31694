-- Sources that were parsed one after the other.
use Rattle.std.specs.Prelude.{◌≡◌, ◌⊎◌, ℕ, ◌+◌, List, ◌++◌, drop, Result, Ok, Err}
use Rattle.nf_core.specs.declared.trees.Module.{Module}
use Rattle.nf_parse.specs.declared.fault.ParseFault.{ParseFault}
use Rattle.nf_spec.specs.Sources.{AreParsed}
use Rattle.nf_spec.specs.Specification.{refused_at}
use Rattle.nf_spec.specs.declared.fault.SpecFault.{SpecFault}
use Rattle.nf_spec.specs.declared.fault.SpecFault.TheVariants as fault

-- the answer to all sources, from the modules of those before a place and the answer to the others
abbrev pub joined : List Module → ℕ → Result (List Module) (ℕ × ParseFault) → Result (List Module) (ℕ × ParseFault)
joined done place (Ok modules) = Ok (done ++ modules)
joined done place (Err (later, why)) = Err (place + later, why)

-- the sources before a place were parsed, and have these modules: what the others are says what all are
pub record AreParsedTo (sources : List (List ℕ)) (place : ℕ) (done : List Module) : Type 0 where
  pub leads : (rest : Result (List Module) (ℕ × ParseFault)) → AreParsed (drop place sources) rest → AreParsed sources (joined done place rest)

-- the fault of a refused source, or want of memory
abbrev pub IsRefusal : List (List ℕ) → SpecFault → Type 0
IsRefusal sources found = (found ≡ fault.NoMemory) ⊎ ((place : ℕ) × (why : ParseFault) × AreParsed sources (Err (place, why)) × (found ≡ refused_at place why))
