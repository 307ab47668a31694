-- Those that are left are held ones, and all that aren't barred are left; the others are suppressed.
use Rattle.std.proofs.Common.{◌≡◌, true, false, not, ◌&&◌, ◌||◌, length}
use Rattle.nf_core.specs.Intervals.{Interval}
use Rattle.nf_core.specs.Sets.{IsSet, has}
use Rattle.nf_minimal.specs.inner.Barred.{bars}
use Rattle.nf_minimal.specs.inner.Judged.{Carries}
use Rattle.nf_minimal.proofs.judging.Judging.give_way.Given as goal

abbrev pub invariant-loop-outer : goal.invariant-loop-outer
invariant-loop-outer l = record {
  full : l.self.full ≡ l.fn.self.full;
  held_set : IsSet l.self.held;
  suppressed_set : IsSet l.self.suppressed;
  kept : (q : Interval) → bars l.fn.self.full l.interval q ≡ false → has l.self.held q ≡ has l.fn.self.held q;
  within : (q : Interval) → has l.self.held q ≡ true → has l.fn.self.held q ≡ true;
  moved : (q : Interval) → has l.self.suppressed q ≡ (has l.fn.self.suppressed q || (has l.fn.self.held q && not (has l.self.held q)));
  net : Carries l.fn.self.held l.self.held l.fn.self.net l.self.net;
}

abbrev pub decreases-loop-outer : goal.decreases-loop-outer
decreases-loop-outer l = length l.self.held
