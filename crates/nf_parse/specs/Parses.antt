-- The answer to a source: its modules, or why it has none.
use Rattle.std.specs.Prelude.{◌≡◌, ◌-◌, ℕ, List, length, slice_get, Option, Some, None, Result, Ok, Err}
use Rattle.nf_core.specs.declared.trees.Module.{Module}
use Rattle.nf_lex.specs.declared.fault.LexFault.{LexFault}
use Rattle.nf_lex.specs.declared.token.Token.{Token}
use Rattle.nf_lex.specs.Division.{Divides}
use Rattle.nf_lex.specs.Faults.{line_at}
use Rattle.nf_grammar.specs.Places.{Answers}
use Rattle.nf_grammar.specs.declared.fault.Fault.{Fault}
use Rattle.nf_grammar.specs.declared.fault.Fault.TheVariants as stop
use Rattle.nf_parse.specs.declared.fault.ParseFault.{ParseFault}
use Rattle.nf_parse.specs.declared.fault.ParseFault.TheVariants as fault
use Rattle.nf_parse.specs.State.{words_of}
use Rattle.nf_parse.specs.Grammar.{file}
use Rattle.nf_parse.specs.Answers.{Spells, limits}

-- the answer to a source: its modules, or why it has none
abbrev pub Answer : Type 0
Answer = Result (List Module) ParseFault

-- the place of a token of which so many are left, itself counted, or the end of the source, where none is
abbrev pub place_of : List ℕ → Option Token → ℕ
place_of source None = length source
place_of source (Some token) = token.span.start

-- the line of the place where so many tokens are left
abbrev pub line_left : List ℕ → List Token → ℕ → ℕ
line_left source tokens left =
    line_at source (place_of source (slice_get tokens (length tokens - left)))

-- a fault with the line of its token
abbrev pub fault_at : List ℕ → List Token → Fault → ParseFault
fault_at source tokens (stop.Grammar left) = fault.Grammar (line_left source tokens left)
fault_at source tokens (stop.TooDeep left) = fault.TooDeep (line_left source tokens left)

-- a source has tokens, and their words are no file within the limits: they stop being one at this fault, told by its line
pub record IsRefused (source : List ℕ) (found : ParseFault) : Type 0 where
  pub tokens : List Token
  pub at : Fault
  pub divides : Divides source 0 (Ok tokens)
  pub answer : Answers file limits (words_of source tokens) (Err at)
  pub is : found ≡ fault_at source tokens at

-- the modules that a source spells; its first lexical fault, where it has no tokens; or the fault at the token where its tokens stop being a file
pub data Parses (source : List ℕ) : Answer → Type 0 where
  modules : {found : List Module} → Spells source found → Parses source (Ok found)
  lexical : {first : LexFault} → Divides source 0 (Err first)
      → Parses source (Err (fault.Lex first))
  refused : {found : ParseFault} → IsRefused source found → Parses source (Err found)
