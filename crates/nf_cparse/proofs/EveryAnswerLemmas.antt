-- Every source has an answer.
use Rattle.std.proofs.Common.{◌≡◌, ℕ, List, refl, true, Option, Some, None, Result, Ok, Err}
use Rattle.std.specs.Prelude.{◌↔◌}
use Rattle.nf_core.specs.Texts.{IsPlain}
use Rattle.nf_text.specs.Value.{is_plain}
use Rattle.nf_grammar.specs.Places.{Answers}
use Rattle.nf_grammar.specs.declared.fault.Fault.{Fault}
use Rattle.nf_grammar.specs.declared.fault.Fault.TheVariants as stop
use Rattle.nf_cast.specs.declared.manifests.CManifest.{CManifest}
use Rattle.nf_cast.specs.declared.placed.PlacedItem.{PlacedItem}
use Rattle.nf_cast.specs.declared.rules.Breach.{Breach}
use Rattle.nf_cast.specs.Program.{needs_of}
use Rattle.nf_cast.specs.Rules.{breach_of}
use Rattle.nf_cast.specs.Text.{manifest_text}
use Rattle.nf_cparse.specs.declared.fault.CFault.{CFault}
use Rattle.nf_cparse.specs.declared.fault.CFault.TheVariants as fault
use Rattle.nf_cparse.specs.Manifests.{BeginsWith}
use Rattle.nf_cparse.specs.Lexing as lexing
use Rattle.nf_cparse.specs.Lexing.{Word, LexesText, line_behind}
use Rattle.nf_cparse.specs.Grammar.{c_text_grammar}
use Rattle.nf_cparse.specs.Reading.{Reads, no_manifest, lexical, refused, broken, program, HasWords, HasItems, limits, last_line, fault_at}
use Rattle.nf_cparse.proofs.AnswerLemmas.{some_answer}
use Rattle.nf_cparse.proofs.TokenLemmas.{text_some}
use Rattle.nf_cparse.proofs.SourceLemmas.{Answer, has_items}
use Rattle.nf_cparse.proofs.DecidedLemmas.{IsDecided, there, absent}
use Rattle.nf_cparse.proofs.DecidedManifestLemmas.{manifest_decided}

-- an answer to a source
abbrev pub HasAnswer : List ℕ → Type 0
HasAnswer source = (answer : Answer) × Reads source answer

module _ (source : List ℕ) where
  by_rules : {m : CManifest} {items : List PlacedItem} → HasItems source m items → (b : Option Breach) → breach_of (needs_of m) (last_line source) items ≡ b → HasAnswer source
  by_rules h (Some breach) e = (Err (fault.Rule breach.line breach.rule), broken h e)
  by_rules h None e = (_, program h e)

  by_grammar : (m : CManifest) (words : List Word) → HasWords source m (Ok words) → (r : Result (List PlacedItem) Fault) → Answers c_text_grammar limits words r → HasAnswer source
  by_grammar m words h (Err at) a = (Err (fault_at (last_line source) words at), refused h a)
  by_grammar m words h (Ok items) a = by_rules (has_items source m words h items a) (breach_of (needs_of m) (last_line source) items) refl

  by_tokens : (m : CManifest) (answer : lexing.Answer) → HasWords source m answer → HasAnswer source
  by_tokens m (Err line) h = (Err (fault.Lex line), lexical h)
  by_tokens m (Ok words) h = let a = some_answer words in by_grammar m words h a.0 a.1

  by_manifest : IsDecided (BeginsWith source) → HasAnswer source
  by_manifest (absent f) = (Err fault.Manifest, no_manifest f)
  by_manifest (there m rest h) =
      let l = text_some (line_behind 1 (manifest_text m)) rest in
      by_tokens m l.0 (record { rest = rest; manifest = h; lexed = l.1 })

  pub every_answer : ((text : List ℕ) → (is_plain text ≡ true) ↔ IsPlain text) → HasAnswer source
  every_answer plain = by_manifest (manifest_decided plain source)

-- want of memory is no answer
fault_not_memory : (last : ℕ) (words : List Word) (at : Fault) → fault_at last words at ≡ fault.NoMemory → ⊥
fault_not_memory last words (stop.Grammar left) e = cc
fault_not_memory last words (stop.TooDeep left) e = cc

fault_is : (a b : CFault) → ◌≡◌ {A = Answer} (Err a) (Err b) → a ≡ b
fault_is a b e = cc

pub not_memory : (source : List ℕ) (answer : Answer) → Reads source answer → answer ≡ Err fault.NoMemory → ⊥
not_memory source _ (no_manifest f) e = cc
not_memory source _ (lexical w) e = cc
not_memory source _ (refused {words} {at} w a) e = fault_not_memory (last_line source) words at (fault_is (fault_at (last_line source) words at) fault.NoMemory e)
not_memory source _ (broken i b) e = cc
not_memory source _ (program i b) e = cc
