-- Bytes cut into lines.
use Rattle.std.specs.Prelude.{ℕ, ◌==◌, nat_lt, Bool, not, List, [], ◌∷◌, length, count_by, if◌then◌else◌}
use Rattle.nf_text.specs.Fields.{fields_of}
use Rattle.nf_line.specs.declared.limits.TheConstants.{LINE_LIMIT}

-- a text without bytes
abbrev pub is_empty : List ℕ → Bool
is_empty text = length text == 0

-- some pieces, of which the last one counts only where it passes a test
unfoldable pub with_last : (List ℕ → Bool) → List (List ℕ) → List (List ℕ)
with_last counts [] = []
with_last counts (piece ∷ []) = if counts piece then piece ∷ [] else []
with_last counts (piece ∷ next ∷ pieces) = piece ∷ with_last counts (next ∷ pieces)

-- the pieces between LF bytes, with a last piece only where it isn't empty
abbrev pub cut : List ℕ → List (List ℕ)
cut bytes = with_last (λ piece. not (is_empty piece)) (fields_of 10 bytes)

-- the most bytes of a line before its LF
abbrev pub line_limit : ℕ
line_limit = LINE_LIMIT

-- whether a piece has more bytes than a line may have
abbrev pub is_too_long : List ℕ → Bool
is_too_long piece = nat_lt line_limit (length piece)

-- the pieces of bytes that go on where they are broken off: what stands behind the last LF is no piece, except that it is one where it has more bytes than a line may have
abbrev pub cut_off : List ℕ → List (List ℕ)
cut_off bytes = with_last is_too_long (fields_of 10 bytes)

-- how many lines ended in some bytes: as many as they have LF bytes
abbrev pub ended_lines : List ℕ → ℕ
ended_lines bytes = count_by (λ byte. byte == 10) bytes

-- the last of some pieces
abbrev pub last_of : List (List ℕ) → List ℕ
last_of [] = []
last_of (piece ∷ []) = piece
last_of (piece ∷ next ∷ pieces) = last_of (next ∷ pieces)

-- what stands behind the last LF of some bytes, or all of them where they have none
abbrev pub unended : List ℕ → List ℕ
unended bytes = last_of (fields_of 10 bytes)

-- a piece without one CR at its end
unfoldable pub without_return : List ℕ → List ℕ
without_return [] = []
without_return (byte ∷ []) = if byte == 13 then [] else byte ∷ []
without_return (byte ∷ next ∷ bytes) = byte ∷ without_return (next ∷ bytes)
