-- The texts of a borrowed pair.
use Rattle.std.specs.Prelude.{ℕ, List}
use Rattle.std.specs.Borrow.{Bor}

-- the texts of a key and a value
abbrev pub pair_text : Bor (List ℕ) × Bor (List ℕ) → List ℕ × List ℕ
pair_text pair = (pair.0.now, pair.1.now)
