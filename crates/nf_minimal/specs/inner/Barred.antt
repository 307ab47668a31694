-- Which intervals keep which other ones from being held.
use Rattle.std.specs.Prelude.{Bool, true, false, not, ◌&&◌, ◌≡◌, None, Some, Option, List}
use Rattle.std.specs.List.{list_any}
use Rattle.nf_core.specs.Intervals.{Interval, is_strictly_inside}
use Rattle.nf_core.specs.Sets.{has}

-- an interval bars those that it lies strictly inside; where all are held, none bars another one
unfoldable pub bars : Bool → Interval → Interval → Bool
bars full inner outer = not full && is_strictly_inside inner outer

-- whether one of some intervals bars another one
abbrev pub is_barred : Bool → List Interval → Interval → Bool
is_barred full is i = list_any (λ j. bars full j i) is

-- one of some intervals that another one bars, and none where it bars none of them
abbrev pub IsOneBarred : Bool → Interval → List Interval → Option Interval → Type 0
IsOneBarred full i is None = (q : Interval) → has is q ≡ true → bars full i q ≡ false
IsOneBarred full i is (Some outer) = (has is outer ≡ true) × (bars full i outer ≡ true)
