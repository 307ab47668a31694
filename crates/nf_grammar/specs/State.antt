-- Where a reading stands among words.
use Rattle.std.specs.Prelude.{ℕ, List, [], ◌∷◌, Option, Some, None}

-- the words that are left, and how many more of the words that are counted may stand in the expression there
pub record State (W : Type 0) : Type 0 where
  pub room : ℕ
  pub words : List W

abbrev pub state : {W : Type 0} → ℕ → List W → State W
state room words = record { room = room; words = words }

-- the next word, if there is one
abbrev pub next_of : {W : Type 0} → List W → Option W
next_of [] = None
next_of (word ∷ words) = Some word

abbrev pub next : {W : Type 0} → State W → Option W
next s = next_of s.words
