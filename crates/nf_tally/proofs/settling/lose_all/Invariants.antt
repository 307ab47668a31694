-- What was taken away so far, and how the delta followed it.
use Rattle.std.proofs.Common.{◌≡◌, ◌+◌, take}
use Rattle.nf_core.specs.Intervals.{Interval}
use Rattle.nf_tally.specs.Numbers.{number, often}
use Rattle.nf_tally.specs.inner.Carried.{Carries}
use Rattle.nf_tally.proofs.settling.lose_all.Given as goal

abbrev pub invariant-loop-interval : goal.invariant-loop-interval
invariant-loop-interval l = record {
  numbers : (q : Interval) → number l.tally q + often (take l.interval-index l.gone) q ≡ number l.fn.tally q;
  net : Carries l.fn.tally l.tally l.fn.net l.net;
}
