-- Parsers over the words of a C text, with the names that the reader of C texts has for them.
use Rattle.std.specs.Prelude.{◌≡◌, ◌<◌, ◌≤◌, ◌+◌, ℕ, Bool, false, List, [], ◌∷◌, length, Option, Some, None, Ok, if◌then◌else◌}
use denote.Enum.Bare.{sameb}
use Rattle.nf_grammar.specs.declared.fault.Fault.{Fault}
use Rattle.nf_grammar.specs.declared.fault.Fault.TheVariants as fault
use Rattle.nf_grammar.specs.State as grammar
use Rattle.nf_grammar.specs.State.{next}
use Rattle.nf_grammar.specs.inner.Parsers as parser
use Rattle.nf_grammar.specs.inner.Parsers.{and_then, done, choose, repeated}
use Rattle.nf_cparse.specs.contracts.symbol.Sym.{the_type}
use Rattle.nf_cparse.specs.declared.symbol.Sym.{Sym}
use Rattle.nf_cparse.specs.Lexing.{Word}
use Rattle.nf_cparse.specs.Grammar.{of_kind}

-- where a reading stands among words: those that are left, and how many operators may still stand in the expression there
abbrev pub State : Type 0
State = grammar.State Word

abbrev pub Outcome : Type 0 → Type 0
Outcome A = parser.Outcome Word A

abbrev pub Parser : Type 0 → Type 0
Parser A = parser.Parser Word A

-- what the next word is, if there is one
abbrev pub kind_of_next : Option Word → Option Sym
kind_of_next None = None
kind_of_next (Some word) = Some word.sym

-- the line of the next word, if there is one
abbrev pub line_of_next : Option Word → Option ℕ
line_of_next None = None
line_of_next (Some word) = Some word.line

-- whether a word is of this kind
abbrev pub is_kind : Sym → Option Word → Bool
is_kind k None = false
is_kind k (Some word) = sameb the_type word.sym k

abbrev pub is_at : Sym → State → Bool
is_at k s = is_kind k (next s)

-- the fault of a word where what begins with a word of this kind may go no deeper
abbrev pub fault_nowhere : Sym → State → Fault
fault_nowhere k s = if is_at k s then fault.TooDeep (length s.words) else fault.Grammar (length s.words)

-- one word of a kind
abbrev pub token : Sym → Parser Word
token k = parser.token (of_kind k)

-- a word of a kind, and then what is given
abbrev pub after : {A : Type 0} → Sym → Parser A → Parser A
after k p = and_then (token k) (λ word. p)

-- a parser between two words
abbrev pub enclosed : {A : Type 0} → Sym → Parser A → Sym → Parser A
enclosed opening p closing = after opening (and_then p (λ x. after closing (done x)))

-- a part where the next word passes a test, else nothing
abbrev pub optional : {A : Type 0} → (Option Word → Bool) → Parser A → Parser (Option A)
optional test p = choose test (and_then p (λ x. done (Some x))) (done None)

-- a part, and then separators with parts as long as a separator stands there
abbrev pub separated : {A : Type 0} → Sym → Parser A → Parser (List A)
separated separator p = and_then p (λ x.
    and_then (repeated (is_kind separator) (after separator p)) (λ xs. done (x ∷ xs)))

-- a word was gone past: it is the next one
pub record GoesPast (word : Word) (old new : State) : Type 0 where
  pub first : old.words ≡ word ∷ new.words
  pub room : new.room ≡ old.room

-- a word was gone past as one that is counted
pub record CountsPast (word : Word) (old new : State) : Type 0 where
  pub first : old.words ≡ word ∷ new.words
  pub room : old.room ≡ 1 + new.room

-- a parser of one word goes past the next one
pub record IsPast (p : Parser Word) (old new : State) : Type 0 where
  pub word : Word
  pub is : p old ≡ Ok (word, new)

-- a word was taken
abbrev pub TookWord : State → State → Type 0
TookWord old new = length new.words < length old.words

-- nothing is put back
pub record IsWithin (old new : State) : Type 0 where
  pub words : length new.words ≤ length old.words
  pub room : new.room ≤ old.room

-- the words that are left, of which the first one was taken ahead
abbrev pub with_ahead : Option Word → List Word → List Word
with_ahead None words = []
with_ahead (Some word) words = word ∷ words
