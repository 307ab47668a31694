-- Parsers over the words of a source, with the names that the reader of specifications has for them.
use Rattle.std.specs.Prelude.{◌≡◌, ◌≤◌, ◌<◌, ℕ, Bool, false, List, [], ◌∷◌, length, All, Option, Some, None, Ok}
use denote.Enum.Bare.{sameb}
use Rattle.nf_parse.specs.contracts.symbol.Sym.{the_type}
use Rattle.nf_parse.specs.declared.symbol.Sym.{Sym}
use Rattle.nf_lex.specs.declared.token.Token.{Token}
use Rattle.nf_lex.specs.declared.token.TokenKind.{TokenKind}
use Rattle.nf_lex.specs.Words.{kind_of}
use Rattle.nf_lex.specs.Faults.{fault_of}
use Rattle.nf_lex.specs.Layout.{IsTokenOf}
use Rattle.nf_grammar.specs.State.{next, next_of}
use Rattle.nf_grammar.specs.inner.Parsers as parser
use Rattle.nf_grammar.specs.inner.Parsers.{and_then, done, choose, repeated}
use Rattle.nf_parse.specs.State.{Word, State, sym_of, words_of, kind_of_next, of_kind}

abbrev pub Outcome : Type 0 → Type 0
Outcome A = parser.Outcome Word A

abbrev pub Parser : Type 0 → Type 0
Parser A = parser.Parser Word A

-- the bytes of the first word
abbrev pub bytes_of : List Word → List ℕ
bytes_of [] = []
bytes_of (word ∷ words) = word.1

-- whether a word is of this kind
abbrev pub is_kind : Sym → Option Word → Bool
is_kind k None = false
is_kind k (Some word) = sameb the_type word.0 k

abbrev pub is_at : Sym → State → Bool
is_at k s = is_kind k (next s)

-- one word of a kind
abbrev pub token : Sym → Parser (List ℕ)
token k = parser.token (of_kind k)

-- a word of a kind, and then what is given
abbrev pub after : {A : Type 0} → Sym → Parser A → Parser A
after k p = and_then (token k) (λ bytes. p)

-- a parser between two words
abbrev pub enclosed : {A : Type 0} → Sym → Parser A → Sym → Parser A
enclosed opening p closing = after opening (and_then p (λ x. after closing (done x)))

-- a part where the next word passes a test, else nothing
abbrev pub optional : {A : Type 0} → (Option Word → Bool) → Parser A → Parser (Option A)
optional test p = choose test (and_then p (λ x. done (Some x))) (done None)

-- a part, and then separators with parts as long as a separator stands there
abbrev pub separated : {A : Type 0} → Sym → Parser A → Parser (List A)
separated separator p = and_then p (λ x.
    and_then (repeated (is_kind separator) (after separator p)) (λ xs. done (x ∷ xs)))

-- the bytes of a word of a kind: those of a token without fault
pub record IsSound (k : Sym) (bytes : List ℕ) : Type 0 where
  pub kind : TokenKind
  pub is : k ≡ sym_of kind bytes
  pub form : kind_of bytes ≡ Some kind
  pub sound : (line : ℕ) → fault_of kind bytes line ≡ None

-- a parser of one word goes past the next one
abbrev pub GoesPast : Parser (List ℕ) → State → State → Type 0
GoesPast p old new = p old ≡ Ok (bytes_of old.words, new)

-- a word was taken
abbrev pub TookWord : State → State → Type 0
TookWord old new = length new.words < length old.words

-- nothing is put back
pub record IsWithin (old new : State) : Type 0 where
  pub words : length new.words ≤ length old.words
  pub room : new.room ≤ old.room

-- a reader stands before tokens of its source, and knows what the first of them is to the grammar
abbrev pub StandsBefore : List ℕ → List Token → Option Sym → Type 0
StandsBefore source tokens ahead =
    All (IsTokenOf source) tokens × (ahead ≡ kind_of_next (next_of (words_of source tokens)))
