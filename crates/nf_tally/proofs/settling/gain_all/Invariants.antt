-- What was added so far, and how the delta followed it.
use Rattle.std.proofs.Common.{◌≡◌, ◌+◌}
use Rattle.nf_core.specs.Intervals.{Interval}
use Rattle.nf_tally.specs.Numbers.{number, often}
use Rattle.nf_tally.specs.inner.Carried.{Carries}
use Rattle.nf_tally.proofs.settling.gain_all.Given as goal

abbrev pub invariant-loop-interval : goal.invariant-loop-interval
invariant-loop-interval l = record {
  numbers : (q : Interval) → number l.tally q ≡ number l.fn.tally q + often l.yielded q;
  net : Carries l.fn.tally l.tally l.fn.net l.net;
}
