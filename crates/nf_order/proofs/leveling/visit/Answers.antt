use Rattle.nf_order.proofs.SearchStepLemmas.{started}
use Rattle.nf_order.proofs.leveling.visit.Goals as goal

pub loop-frame-init : goal.loop-frame-init
loop-frame-init c =
    let first = started c.args.graph.now c.args.marks.now.items c.args.number c.requires.search c.requires.within c.index.result.now c.index.ensures c.if-not-is_new.ensures in
    rw (c.in_ok-open.ensures.stack, c.in_ok-open.ensures.marks, c.new-stack.ensures.items) (record { search = first.0; keeps = first.1; known = first.2 })
