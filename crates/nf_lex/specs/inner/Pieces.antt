-- What the reader finds at a place.
use Rattle.std.specs.Prelude.{◌≡◌, ℕ, List, take, Option, None, Result, Ok, Err, MatchOption}
use Rattle.nf_lex.specs.declared.token.TokenKind.{TokenKind}
use Rattle.nf_lex.specs.declared.fault.LexFault.{LexFault}
use Rattle.nf_lex.specs.declared.piece.Piece.{Piece}
use Rattle.nf_lex.specs.declared.piece.Piece.TheVariants as piece
use Rattle.nf_lex.specs.Words.{kind_of, IsLongest, HasNone, IsWord, HasNoWord, Gap, Token}
use Rattle.nf_lex.specs.Faults.{fault_of, IsFault}

-- the longest token at the front of the bytes, where one stands there
abbrev pub FindsToken : List ℕ → Option (TokenKind × ℕ) → Type 0
FindsToken bytes found = MatchOption found (HasNone kind_of bytes) (λ token. IsLongest kind_of bytes token.0 token.1)

-- how many bytes a piece has
abbrev pub piece_len : Piece → ℕ
piece_len (piece.Gap n) = n
piece_len (piece.Token kind n) = n

-- the longest word at the front of bytes and without fault, or the fault that stands there
abbrev pub FindsPiece : List ℕ → ℕ → Result Piece LexFault → Type 0
FindsPiece bytes line (Ok (piece.Gap n)) = IsWord bytes Gap n
FindsPiece bytes line (Ok (piece.Token kind n)) = IsWord bytes (Token kind) n × (fault_of kind (take n bytes) line ≡ None)
FindsPiece bytes line (Err fault) = IsFault bytes line fault

-- the length of the gap at the front of bytes, where a word stands there
abbrev pub FindsGap : List ℕ → Option ℕ → Type 0
FindsGap bytes found = MatchOption found (HasNoWord bytes) (λ n. IsWord bytes Gap n)
