-- What the reader of a whole text answers.
use Rattle.std.proofs.Common.{◌≡◌, List, refl, sym, ap, ◌∙◌, subst, Option, Some, None, is_some, Result, Ok, Err, IfOk}
use Rattle.nf_cast.specs.declared.limits.TheConstants.{MOST_OPEN, MOST_OPERATORS}
use Rattle.nf_cast.specs.declared.placed.PlacedItem.{PlacedItem}
use Rattle.nf_grammar.specs.State.{state}
use Rattle.nf_grammar.specs.Places.{Answers}
use Rattle.nf_grammar.specs.declared.fault.Fault.{Fault}
use Rattle.nf_grammar.specs.declared.fault.Halt.{Halt}
use Rattle.nf_grammar.specs.declared.fault.Halt.TheVariants as halt
use Rattle.nf_grammar.specs.inner.Parsers.{Reads}
use Rattle.nf_grammar.proofs.Public.PlaceLemmas.{result_of, answered, one_answer}
use Rattle.nf_cparse.specs.Lexing.{Word}
use Rattle.nf_cparse.specs.Grammar.{c_text_grammar}
use Rattle.nf_cparse.specs.Reading.{limits}
use Rattle.nf_cparse.specs.inner.Parsers.{State, Outcome, kind_of_next}
use Rattle.nf_cparse.specs.inner.ItemReading.{text}
use Rattle.nf_cparse.proofs.ItemReaderLemmas.{text_readers}

-- there is a next word where it has a kind
pub some_kind : (n : Option Word) → is_some (kind_of_next n) ≡ is_some n
some_kind None = refl
some_kind (Some w) = refl

module _ (words : List Word) (s : State) (at : s ≡ state MOST_OPERATORS words) where
  outcome_answers : (o : Outcome (List PlacedItem)) → text MOST_OPEN s ≡ o → Answers c_text_grammar limits words (result_of o)
  outcome_answers o e = subst (λ o. Answers c_text_grammar limits words (result_of o)) (ap (text MOST_OPEN) (sym at) ∙ e) (answered text_readers limits words)

  pub items_answer : (r : Result (List PlacedItem) Halt) (new : State) → Reads (text MOST_OPEN s) r new
      → IfOk r (λ items. Answers c_text_grammar limits words (Ok items))
  items_answer (Ok items) new h = outcome_answers (Ok (items, new)) h
  items_answer (Err e) new h = tt

  pub items_refused : (r : Result (List PlacedItem) Halt) (new : State) → Reads (text MOST_OPEN s) r new
      → (f : Fault) → r ≡ Err (halt.At f) → Answers c_text_grammar limits words (Err f)
  items_refused r new h f e = outcome_answers (Err f) (subst (λ r. Reads (text MOST_OPEN s) r new) e h)

-- tokens have one answer
pub some_answer : (words : List Word) → (answer : Result (List PlacedItem) Fault) × Answers c_text_grammar limits words answer
some_answer words = (result_of (text MOST_OPEN (state MOST_OPERATORS words)), answered text_readers limits words)

pub answered_once : (words : List Word) (a b : Result (List PlacedItem) Fault) → Answers c_text_grammar limits words a → Answers c_text_grammar limits words b → a ≡ b
answered_once words a b v w = one_answer text_readers limits words a b v w
