use Rattle.std.proofs.Common.{arith}
use Rattle.nf_order.proofs.ReversedGraphLemmas.{put_more}
use Rattle.nf_order.proofs.graph.put_below.Goals as goal

pub loop-other-preserved : goal.loop-other-preserved
loop-other-preserved c =
    rw c.in_ok-push.ensures.ok
    (put_more c.args.others.now c.args.number c.args.lists.now.items c.loop-other.lists.items c.loop-other.other-index 0 c.loop-other.invariant (omega arith) (omega (arith, c.loop-other.invariant.each, c.requires c.loop-other.other-index 0 (omega arith))) c.index_mut.result.now c.index_mut.ensures.value)
