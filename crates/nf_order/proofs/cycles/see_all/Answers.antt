use Rattle.std.proofs.Common.{arith}
use Rattle.nf_order.proofs.ReachLemmas.{seen_more}
use Rattle.nf_order.proofs.cycles.see_all.Goals as goal

pub loop-number-preserved : goal.loop-number-preserved
loop-number-preserved c =
    rw c.in_ok-see.ensures.seen (seen_more c.args.numbers.now c.args.seen.now.items c.loop-number.seen.items c.args.stack.now.items c.loop-number.stack.items c.loop-number.number-index 0 c.loop-number.invariant (omega arith)
    (omega (arith, c.loop-number.invariant.each, c.requires c.loop-number.number-index 0 (omega arith))) c.see.new.stack.items c.in_ok-see.ensures.stack)
