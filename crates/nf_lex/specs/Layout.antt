-- How tokens lie in a source.
use Rattle.std.specs.Prelude.{◌≡◌, ℕ, ◌<◌, ◌≤◌, true, List, [], ◌∷◌, ◌++◌, length, drop, Some, None, slice_range}
use Rattle.nf_lex.specs.declared.token.Token.{Token}
use Rattle.nf_lex.specs.Words.{is_gap, kind_of}
use Rattle.nf_lex.specs.Faults.{fault_of}

-- bytes that are separators and comments, one after the other
pub data AreGaps : List ℕ → Type 0 where
  none : AreGaps []
  more : (gap : List ℕ) {rest : List ℕ} → is_gap gap ≡ true → AreGaps rest → AreGaps (gap ++ rest)

-- the text of a token is the slice of the source at its span
abbrev pub text_of : List ℕ → Token → List ℕ
text_of source token = slice_range source token.span.start token.span.stop

-- a token of a source stands in it with one byte at least, its text is a word of its kind, and it has no fault
pub record IsTokenOf (source : List ℕ) (token : Token) : Type 0 where
  pub some : token.span.start < token.span.stop
  pub within : token.span.stop ≤ length source
  pub kind : kind_of (text_of source token) ≡ Some token.kind
  pub sound : (line : ℕ) → fault_of token.kind (text_of source token) line ≡ None

-- from a place on the tokens lie in order in the source, each is a word of its kind, and what stands between them, before and after is gaps
pub data AreLaidOut (source : List ℕ) : ℕ → List Token → Type 0 where
  end : {place : ℕ} → AreGaps (drop place source) → AreLaidOut source place []
  next : {place : ℕ} {token : Token} {tokens : List Token} → place ≤ token.span.start → token.span.start < token.span.stop → token.span.stop ≤ length source
      → AreGaps (slice_range source place token.span.start) → kind_of (text_of source token) ≡ Some token.kind
      → AreLaidOut source token.span.stop tokens → AreLaidOut source place (token ∷ tokens)
