-- A place in a source.
use Rattle.std.specs.Prelude.{ℕ, List}

-- a list of bytes, and a place in it
pub record Place : Type 0 where
  pub source : List ℕ
  pub place : ℕ
