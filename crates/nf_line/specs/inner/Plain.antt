-- The bytes that no text of a line holds.
use Rattle.std.specs.Prelude.{◌≡◌, ℕ, ◌==◌, ℤ, ◌≤ℤ◌, Bool, false, ◌||◌, List}
use Rattle.std.specs.List.{list_any}

-- whether one of the bytes is `|`, CR or LF
abbrev pub holds_mark : List ℕ → Bool
holds_mark text = list_any (λ byte. byte == 124 || byte == 13 || byte == 10) text

-- what an accepted line keeps: it begins when it ends or before, and its values' field holds no mark
pub record IsAccepted (start stop : ℤ) (values : List ℕ) : Type 0 where
  pub within : start ≤ℤ stop
  pub unmarked : holds_mark values ≡ false
