-- The times that an interval may have to stand in a relation to given ones.
use Rattle.std.specs.Prelude.{ℤ, Bool, not, ◌&&◌, int_lt, int_le}
use Rattle.std.specs.Ordering.{int_eq}
use Rattle.nf_core.specs.Intervals.{Interval}
use Rattle.nf_index.specs.declared.windows.Window.{Window}
use Rattle.nf_index.specs.declared.windows.Window.TheVariants.{BeginsAfter, BeginsAtEnd, EndsBefore, EndsAtBegin, SameBegin, SameEnd, SameTimes, Within, Around, StrictlyWithin, StrictlyAround, Overlaps}

-- whether an interval's times are in a window at given times
unfoldable pub in_window : Window → (start stop : ℤ) → Interval → Bool
in_window BeginsAfter start stop i = int_lt stop i.start
in_window BeginsAtEnd start stop i = int_eq i.start stop
in_window EndsBefore start stop i = int_lt i.stop start
in_window EndsAtBegin start stop i = int_eq i.stop start
in_window SameBegin start stop i = int_eq i.start start
in_window SameEnd start stop i = int_eq i.stop stop
in_window SameTimes start stop i = int_eq i.start start && int_eq i.stop stop
in_window Within start stop i = int_le start i.start && int_le i.stop stop
in_window Around start stop i = int_le i.start start && int_le stop i.stop
in_window StrictlyWithin start stop i = int_le start i.start && int_le i.stop stop && not (int_eq i.start start && int_eq i.stop stop)
in_window StrictlyAround start stop i = int_le i.start start && int_le stop i.stop && not (int_eq i.start start && int_eq i.stop stop)
in_window Overlaps start stop i = int_lt i.start stop && int_lt start i.stop
