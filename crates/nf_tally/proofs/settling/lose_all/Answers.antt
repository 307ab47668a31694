-- One more is taken away, which is still there, and the delta follows.
use Rattle.std.proofs.Common.{arith}
use Rattle.nf_tally.proofs.Public.OftenLemmas.{often_more, often_above}
use Rattle.nf_tally.proofs.settling.lose_all.Goals as goal

pub lose-requires : goal.lose-requires
lose-requires c =
    let i = c.interval-item.result in
    let left = c.loop-interval.invariant.numbers i in
    let room = c.requires i in
    let above = often_above c.args.gone.now c.loop-interval.interval-index i (omega arith) c.interval-item.is in
    omega arith

pub loop-interval-preserved : goal.loop-interval-preserved
loop-interval-preserved c = record {
  numbers = λ q.
      let i = c.interval-item.result in
      let now = c.in_ok-lose.ensures.numbers q in
      let before = c.loop-interval.invariant.numbers q in
      let more = often_more c.args.gone.now c.loop-interval.interval-index i q (omega arith) c.interval-item.is in
      omega arith;
  net = λ was lead. c.in_ok-lose.ensures.net was (c.loop-interval.invariant.net was lead);
}
