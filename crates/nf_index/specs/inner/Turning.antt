-- How the count of falling ends changes where an interval goes in or out.
use Rattle.std.specs.Prelude.{◌≡◌, ◌+◌, ◌≤◌, false, List}
use Rattle.nf_core.specs.Intervals.{Interval}
use Rattle.nf_core.specs.Sets.{has, inserted}
use Rattle.nf_index.specs.declared.falls.Turns.{Turns}
use Rattle.nf_index.specs.inner.Orders.{falls}

-- the turns at an interval's place: with it and without it
pub record AreTurns (is : List Interval) (i : Interval) (t : Turns) : Type 0 where
  pub changes : falls (inserted i is) + t.without ≡ falls is + t.with
  pub within : t.without ≤ falls is
  pub most : t.with ≤ 2

-- an interval is behind all of a list, and these are its turns
pub record IsBehind (is : List Interval) (i : Interval) (t : Turns) : Type 0 where
  pub absent : has is i ≡ false
  pub turns : AreTurns is i t
