-- The tokens of a C text, or its first lexical fault.
use Rattle.std.specs.Prelude.{◌≡◌, ℕ, ◌+◌, ◌<◌, List, [], ◌∷◌, ◌++◌, length, take, drop, count_by, Result, Ok, Err}
use Rattle.nf_lex.specs.Bytes.{is_newline}
use Rattle.nf_cast.specs.Text.{include_text}
use Rattle.nf_cparse.specs.declared.symbol.Sym.{Sym}
use Rattle.nf_cparse.specs.declared.piece.Piece.TheVariants as piece
use Rattle.nf_cparse.specs.Pieces.{piece_of}

-- a token as the grammar sees it: what it is, its bytes, and the line of its first byte
pub record Word : Type 0 where
  pub sym : Sym
  pub text : List ℕ
  pub line : ℕ

-- a token of this kind and these bytes at a line
abbrev pub word_at : Sym → List ℕ → ℕ → Word
word_at s text line = record { sym = s; text = text; line = line }

-- the tokens of bytes, or the line of their first fault
abbrev pub Answer : Type 0
Answer = Result (List Word) ℕ

-- an answer with a token in front, where it has tokens
abbrev pub in_front : Word → Answer → Answer
in_front word (Ok words) = Ok (word ∷ words)
in_front word (Err line) = Err line

-- the line behind some bytes, the first of which stands at a line
abbrev pub line_behind : ℕ → List ℕ → ℕ
line_behind line bytes = line + count_by is_newline bytes

-- what bytes are, the first of which stands at a line: piece after piece, up to the end or to the first fault; gaps leave no token
pub data Lexes : ℕ → List ℕ → Answer → Type 0 where
  ends : {line : ℕ} {bytes : List ℕ} → bytes ≡ [] → Lexes line bytes (Ok [])
  skips : {line n : ℕ} {bytes : List ℕ} {answer : Answer} → 0 < length bytes → piece_of bytes ≡ piece.Gap n
      → Lexes (line_behind line (take n bytes)) (drop n bytes) answer → Lexes line bytes answer
  takes : {line n : ℕ} {bytes : List ℕ} {s : Sym} {rest answer : Answer} → 0 < length bytes → piece_of bytes ≡ piece.Token s n
      → Lexes (line_behind line (take n bytes)) (drop n bytes) rest → answer ≡ in_front (word_at s (take n bytes) line) rest → Lexes line bytes answer
  fails : {line n : ℕ} {bytes : List ℕ} → 0 < length bytes → piece_of bytes ≡ piece.Fault n → Lexes line bytes (Err (line_behind line (take n bytes)))

-- what stands behind a manifest, from a line on: the include line and then the tokens; where the include line isn't there, the fault is at that line
pub data LexesText (line : ℕ) (bytes : List ℕ) : Answer → Type 0 where
  text : {rest : List ℕ} {answer : Answer} → bytes ≡ include_text ++ rest → Lexes (line + 1) rest answer → LexesText line bytes answer
  no_include : ((rest : List ℕ) → bytes ≡ include_text ++ rest → ⊥) → LexesText line bytes (Err line)
