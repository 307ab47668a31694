-- Intervals, their order, and when one lies strictly inside another.
use Rattle.std.specs.Prelude.{ℤ, Bool, not, ◌&&◌, int_le, List, Option}
use Rattle.std.specs.declared.cmp.Ordering.{Ordering}
use Rattle.std.specs.Ordering.{ordering_then, int_cmp, int_eq, is_eq}
use Rattle.std.specs.Cmp.{IsTotalOrder, then_total, on_total, int_cmp_total}
use Rattle.nf_core.specs.Rows.{row_cmp, row_cmp_total}
use Rattle.nf_core.specs.declared.values.Value as value

-- when it begins and when it ends, and its data
pub record Interval : Type 0 where
  pub start : ℤ
  pub stop : ℤ
  pub row : List (Option value.Value)

-- by begin, then by end, then by row
abbrev pub interval_cmp : Interval → Interval → Ordering
interval_cmp i j = ordering_then (int_cmp i.start j.start) (ordering_then (int_cmp i.stop j.stop) (row_cmp i.row j.row))

-- it is a total order
pub interval_cmp_total : IsTotalOrder interval_cmp
interval_cmp_total = then_total (on_total (λ (i : Interval). i.start) int_cmp_total)
    (then_total (on_total (λ (i : Interval). i.stop) int_cmp_total) (on_total (λ (i : Interval). i.row) row_cmp_total))

-- equal begin, end and row
abbrev pub same : Interval → Interval → Bool
same i j = is_eq (interval_cmp i j)

-- within it, and with other times
abbrev pub is_strictly_inside : Interval → Interval → Bool
is_strictly_inside i j = int_le j.start i.start && int_le i.stop j.stop && not (int_eq i.start j.start && int_eq i.stop j.stop)
