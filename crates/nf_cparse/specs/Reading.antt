-- The answer to a C text: its program, or why it has none.
use Rattle.std.specs.Prelude.{◌≡◌, ℕ, ◌-◌, List, length, map, slice_get, Option, Some, None, Result, Ok, Err}
use Rattle.nf_grammar.specs.Places.{Limits, IsText, Answers}
use Rattle.nf_grammar.specs.declared.fault.Fault.{Fault}
use Rattle.nf_grammar.specs.declared.fault.Fault.TheVariants as stop
use Rattle.nf_cast.specs.declared.limits.TheConstants.{MOST_OPEN, MOST_OPERATORS}
use Rattle.nf_cast.specs.declared.manifests.CManifest.{CManifest}
use Rattle.nf_cast.specs.declared.placed.PlacedItem.{PlacedItem}
use Rattle.nf_cast.specs.declared.rules.Breach.{Breach}
use Rattle.nf_cast.specs.Placed.{strip_item}
use Rattle.nf_cast.specs.Program.{Program, program_from, needs_of}
use Rattle.nf_cast.specs.Rules.{breach_of}
use Rattle.nf_cast.specs.Text.{manifest_text}
use Rattle.nf_cparse.specs.declared.fault.CFault.{CFault}
use Rattle.nf_cparse.specs.declared.fault.CFault.TheVariants as fault
use Rattle.nf_cparse.specs.Manifests.{BeginsWith}
use Rattle.nf_cparse.specs.Lexing.{Word, LexesText, line_behind}
use Rattle.nf_cparse.specs.Grammar.{c_text_grammar}

-- the limits of a text: blocks of a function, or parentheses and brackets of an expression, that are open at once, and operators of an expression
abbrev pub limits : Limits
limits = record { depth = MOST_OPEN; room = MOST_OPERATORS }

-- the line of the end of a source
abbrev pub last_line : List ℕ → ℕ
last_line source = line_behind 1 source

-- the line of the token where so many are left, or of the end where none is
abbrev pub line_of : ℕ → Option Word → ℕ
line_of last None = last
line_of last (Some word) = word.line

abbrev pub line_left : ℕ → List Word → ℕ → ℕ
line_left last words left = line_of last (slice_get words (length words - left))

-- a fault of the grammar with its line
abbrev pub fault_at : ℕ → List Word → Fault → CFault
fault_at last words (stop.Grammar left) = fault.Grammar (line_left last words left)
fault_at last words (stop.TooDeep left) = fault.TooDeep (line_left last words left)

-- a source begins with a manifest, and this is lexed of what stands behind it
pub record HasWords (source : List ℕ) (m : CManifest) (answer : Result (List Word) ℕ) : Type 0 where
  pub rest : List ℕ
  pub manifest : BeginsWith source m rest
  pub lexed : LexesText (line_behind 1 (manifest_text m)) rest answer

-- a source has a manifest and tokens, and these are a text within the limits
pub record HasItems (source : List ℕ) (m : CManifest) (items : List PlacedItem) : Type 0 where
  pub words : List Word
  pub tokens : HasWords source m (Ok words)
  pub text : IsText c_text_grammar limits words items

-- the answer to a source, in the order of refusals: no manifest, a lexical fault, a fault of the grammar, a broken rule; else its program
pub data Reads (source : List ℕ) : Result Program CFault → Type 0 where
  no_manifest : ((m : CManifest) (rest : List ℕ) → BeginsWith source m rest → ⊥) → Reads source (Err fault.Manifest)
  lexical : {m : CManifest} {line : ℕ} → HasWords source m (Err line) → Reads source (Err (fault.Lex line))
  refused : {m : CManifest} {words : List Word} {at : Fault} → HasWords source m (Ok words)
      → Answers c_text_grammar limits words (Err at) → Reads source (Err (fault_at (last_line source) words at))
  broken : {m : CManifest} {items : List PlacedItem} {breach : Breach} → HasItems source m items
      → breach_of (needs_of m) (last_line source) items ≡ Some breach → Reads source (Err (fault.Rule breach.line breach.rule))
  program : {m : CManifest} {items : List PlacedItem} → HasItems source m items
      → breach_of (needs_of m) (last_line source) items ≡ None → Reads source (Ok (program_from m (map strip_item items)))
