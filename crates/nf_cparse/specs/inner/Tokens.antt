-- Where a reading of tokens stands, and which tokens are left there.
use Rattle.std.specs.Prelude.{◌≡◌, ℕ, zero, suc, ◌+◌, ◌^◌, ◌<◌, ◌≤◌, List, [], ◌∷◌, length, take, drop, Ok, Err}
use Rattle.nf_cparse.specs.declared.symbol.Sym.{Sym}
use Rattle.nf_cparse.specs.declared.piece.Piece.{Piece}
use Rattle.nf_cparse.specs.declared.piece.Piece.TheVariants.{Gap, Token, Fault}
use Rattle.nf_cparse.specs.Pieces.{piece_of}
use Rattle.nf_cparse.specs.Lexing.{Word, word_at, Answer, in_front, line_behind, Lexes}

-- where a reading of tokens stands: the bytes that are left, and the line of the first of them
pub record Place : Type 0 where
  pub rest : List ℕ
  pub line : ℕ

abbrev pub place : List ℕ → ℕ → Place
place rest line = record { rest = rest; line = line }

-- between two places stands one token, and gaps before it: whatever stands behind the later place, the token stands in front of it
pub record IsNext (old : Place) (word : Word) (new : Place) : Type 0 where
  pub shorter : length new.rest < length old.rest
  pub goes_on : (answer : Answer) → Lexes new.line new.rest answer → Lexes old.line old.rest (in_front word answer)

-- at a place stands no token, and a reading stays there
pub record IsAtEnd (old new : Place) : Type 0 where
  pub ends : Lexes old.line old.rest (Ok [])
  pub stays : new ≡ old

-- what bytes are by their first piece, where it is given what those behind it are
abbrev pub by_piece : (ℕ → List ℕ → Answer) → ℕ → List ℕ → Piece → Answer
by_piece behind line bytes (Gap n) = behind (line_behind line (take n bytes)) (drop n bytes)
by_piece behind line bytes (Token s n) = in_front (word_at s (take n bytes) line) (behind (line_behind line (take n bytes)) (drop n bytes))
by_piece behind line bytes (Fault n) = Err (line_behind line (take n bytes))

-- what bytes are, in so many pieces at most
unfoldable pub answer_in : ℕ → ℕ → List ℕ → Answer
answer_in zero line bytes = Ok []
answer_in (suc pieces) line [] = Ok []
answer_in (suc pieces) line (b ∷ bytes) = by_piece (answer_in pieces) line (b ∷ bytes) (piece_of (b ∷ bytes))

-- what the bytes that are left are: no piece is empty
unfoldable pub answer_at : Place → Answer
answer_at at = answer_in (length at.rest) at.line at.rest

-- the tokens of an answer
abbrev pub words_in : Answer → List Word
words_in (Ok words) = words
words_in (Err line) = []

-- the tokens that are left
unfoldable pub words_at : Place → List Word
words_at at = words_in (answer_at at)

-- so many tokens are left, and no fault
pub record IsBefore (count : ℕ) (at : Place) : Type 0 where
  pub tokens : answer_at at ≡ Ok (words_at at)
  pub counted : length (words_at at) ≡ count
  pub few : count + 1 < 2 ^ 64

-- bytes are so many tokens
pub record AreTokens (line : ℕ) (bytes : List ℕ) (count : ℕ) : Type 0 where
  pub words : List Word
  pub tokens : Lexes line bytes (Ok words)
  pub counted : length words ≡ count
  pub few : count ≤ length bytes

-- a token of a kind has these bytes: it stands at the front of some
pub record IsToken (k : Sym) (text : List ℕ) : Type 0 where
  pub bytes : List ℕ
  pub count : ℕ
  pub piece : piece_of bytes ≡ Token k count
  pub is : text ≡ take count bytes
