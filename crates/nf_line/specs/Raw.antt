-- A line that was read, before its values are made.
use Rattle.std.specs.Prelude.{ℕ, ℤ, List}

-- its name, its begin and its end, and its keys and values as they are written, in their order
pub record Raw : Type 0 where
  pub name : List ℕ
  pub start : ℤ
  pub stop : ℤ
  pub texts : List (List ℕ × List ℕ)
