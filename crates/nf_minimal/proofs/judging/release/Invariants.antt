-- Those that are left, with those that were taken out, are the stored ones; all that aren't barred are left.
use Rattle.std.proofs.Common.{◌≡◌, ◌+◌, false, length}
use Rattle.nf_core.specs.Intervals.{Interval}
use Rattle.nf_core.specs.Sets.{IsSet, has}
use Rattle.nf_tally.specs.Numbers.{often}
use Rattle.nf_minimal.specs.inner.Barred.{bars}
use Rattle.nf_minimal.specs.inner.Judged.{once_if}
use Rattle.nf_minimal.proofs.judging.release.Given as goal

abbrev pub invariant-loop-outer : goal.invariant-loop-outer
invariant-loop-outer l = record {
  set : IsSet l.store;
  counts : (q : Interval) → often l.outer q + once_if (has l.store q) ≡ once_if (has l.fn.store q);
  kept : (q : Interval) → bars l.full l.interval q ≡ false → has l.store q ≡ has l.fn.store q;
}

abbrev pub decreases-loop-outer : goal.decreases-loop-outer
decreases-loop-outer l = length l.store
