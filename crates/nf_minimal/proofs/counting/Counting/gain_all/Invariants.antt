-- The sources so far, with those that are left, are all.
use Rattle.std.proofs.Common.{◌≡◌, ◌+◌, vec_len}
use Rattle.nf_core.specs.Intervals.{Interval}
use Rattle.nf_tally.specs.Numbers.{often}
use Rattle.nf_minimal.specs.inner.Judged.{Carries}
use Rattle.nf_minimal.specs.inner.Counts.{total, IsRight}
use Rattle.nf_minimal.proofs.counting.Counting.gain_all.Given as goal

abbrev pub invariant-loop-interval : goal.invariant-loop-interval
invariant-loop-interval l = record {
  full : l.self.judging.full ≡ l.fn.self.judging.full;
  right : IsRight l.self;
  totals : (q : Interval) → total l.self q + often l.rest.items q ≡ total l.fn.self q + often l.fn.come q;
  net : Carries l.fn.self.judging.held l.self.judging.held l.fn.self.judging.net l.self.judging.net;
}

abbrev pub decreases-loop-interval : goal.decreases-loop-interval
decreases-loop-interval l = vec_len l.rest
