-- Those that have arrived, with those that are left, are all.
use Rattle.std.proofs.Common.{◌≡◌, ◌+◌, vec_len}
use Rattle.nf_core.specs.Intervals.{Interval}
use Rattle.nf_tally.specs.Numbers.{often}
use Rattle.nf_minimal.specs.inner.Judged.{IsJudged, Carries, present}
use Rattle.nf_minimal.proofs.judging.Judging.arrive_all.Given as goal

abbrev pub invariant-loop-interval : goal.invariant-loop-interval
invariant-loop-interval l = record {
  full : l.self.full ≡ l.fn.self.full;
  judged : IsJudged l.self.full l.self.held l.self.suppressed;
  members : (q : Interval) → present l.self.held l.self.suppressed q + often l.rest.items q ≡ present l.fn.self.held l.fn.self.suppressed q + often l.fn.come q;
  net : Carries l.fn.self.held l.self.held l.fn.self.net l.self.net;
}

abbrev pub decreases-loop-interval : goal.decreases-loop-interval
decreases-loop-interval l = vec_len l.rest
