-- One more is added, and the delta follows.
use Rattle.std.proofs.Common.{arith}
use Rattle.nf_tally.proofs.Public.OftenLemmas.{often_push}
use Rattle.nf_tally.proofs.settling.gain_all.Goals as goal

pub loop-interval-preserved : goal.loop-interval-preserved
loop-interval-preserved c = record {
  numbers = λ q.
      let now = c.in_ok-gain.ensures.numbers q in
      let before = c.loop-interval.invariant.numbers q in
      let more = often_push c.loop-interval.yielded c.in-Some.interval q in
      omega arith;
  net = λ was lead. c.in_ok-gain.ensures.net was (c.loop-interval.invariant.net was lead);
}
