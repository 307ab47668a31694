use Rattle.nf_order.proofs.CycleLemmas.{both_off}
use Rattle.nf_order.proofs.order.off_cycles.Goals as goal

pub returns-clause-off : goal.returns-clause-off
returns-clause-off c =
    both_off c.args.graph.now c.in_ok-turned.turned c.args.marks.now c.in_ok-above.above.items c.requires c.in_ok-above.ensures.marks_hold c.in_ok-turned.ensures c.in_ok-flags.flags.items (rw c.as_slice.ensures.value at c.in_ok-flags.ensures.either)
