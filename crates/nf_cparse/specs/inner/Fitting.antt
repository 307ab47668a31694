-- How pieces lie in bytes.
use Rattle.std.specs.Prelude.{ℕ, ◌<◌, ◌≤◌, List, length}
use Rattle.nf_cparse.specs.declared.piece.Piece.{Piece}
use Rattle.nf_cparse.specs.declared.piece.Piece.TheVariants.{Gap, Token, Fault}

-- a gap or a token has a byte at least, and none of the pieces goes past the end
abbrev pub FitsIn : List ℕ → Piece → Type 0
FitsIn bytes (Gap n) = (0 < n) × (n ≤ length bytes)
FitsIn bytes (Token s n) = (0 < n) × (n ≤ length bytes)
FitsIn bytes (Fault n) = n ≤ length bytes
