use Rattle.std.proofs.Common.{◌<◌, length, arith}
use Rattle.nf_order.proofs.SearchLemmas.{last_within, last_frame}
use Rattle.nf_order.proofs.SearchStepLemmas.{fits, finished, child_within, cyclic, stepped}
use Rattle.nf_order.proofs.leveling.advance.Goals as goal

pub below-below-requires : goal.below-below-requires
below-below-requires c = omega (arith, last_within c.args.graph.now c.args.marks.now.items c.args.stack.now.items c.args.frame c.requires, c.requires.marks_hold.each)

pub next_unleveled-next-requires-clause-from_within : goal.next_unleveled-next-requires-clause-from_within
next_unleveled-next-requires-clause-from_within c = rw c.below-below.ensures.below (last_frame c.args.graph.now c.args.marks.now.items c.args.stack.now.items c.args.frame c.requires).0

pub next_unleveled-next-requires-clause-leveled : goal.next_unleveled-next-requires-clause-leveled
next_unleveled-next-requires-clause-leveled c =
    rw (c.below-below.ensures.below, c.as_slice.ensures.value) (last_frame c.args.graph.now c.args.marks.now.items c.args.stack.now.items c.args.frame c.requires).1

pub level_above-requires-clause-fits : goal.level_above-requires-clause-fits
level_above-requires-clause-fits c =
    rw c.as_slice-then-next-below.ensures.value (fits c.args.graph.now c.args.marks.now.items c.args.stack.now.items c.args.frame c.requires c.below-below.result.now c.below-below.ensures.below (omega (arith, c.requires.marks_hold.each, c.as_slice.type_inv)))

pub returns-then-next-below : goal.returns-then-next-below
returns-then-next-below c =
    let all = finished c.args.graph.now c.args.marks.now.items c.args.stack.now.items c.args.frame c.requires c.below-below.result.now c.below-below.ensures.below c.next_unleveled-next.result
    (rw c.as_slice.ensures.value at c.next_unleveled-next.ensures.leveled) c.if-next-below.true c.level_above.result (rw c.as_slice-then-next-below.ensures.value at c.level_above.ensures)
    in record { search = all.0; keeps = all.1; left = all.2 }

pub returns-then-not-is_new : goal.returns-then-not-is_new
returns-then-not-is_new c =
    let h : c.next_unleveled-next.result < length c.below-below.result.now = omega (arith, c.next_unleveled-next.ensures.within, c.if-next-below.false) in
    let within = child_within c.args.graph.now c.args.marks.now.items c.args.stack.now.items c.args.frame c.requires c.below-below.result.now c.below-below.ensures.below c.below-below.ensures.valid c.next_unleveled-next.result 0 h in
    let all = cyclic c.args.graph.now c.args.marks.now.items c.args.stack.now.items c.args.frame c.requires c.below-below.result.now c.below-below.ensures.below c.next_unleveled-next.result
    (rw c.as_slice.ensures.value at c.next_unleveled-next.ensures.leveled) 0 h (rw c.as_slice.ensures.value at c.next_unleveled-next.ensures.stops h) within c.index.result.now c.index.ensures c.if-not-is_new.ensures
    in record { search = all.0; keeps = all.1; left = all.2 }

pub returns : goal.returns
returns c =
    let h : c.next_unleveled-next.result < length c.below-below.result.now = omega (arith, c.next_unleveled-next.ensures.within, c.if-next-below.false) in
    let within = child_within c.args.graph.now c.args.marks.now.items c.args.stack.now.items c.args.frame c.requires c.below-below.result.now c.below-below.ensures.below c.below-below.ensures.valid c.next_unleveled-next.result 0 h in
    let all = stepped c.args.graph.now c.args.marks.now.items c.args.stack.now.items c.args.frame c.requires c.below-below.result.now c.below-below.ensures.below c.next_unleveled-next.result
    (rw c.as_slice.ensures.value at c.next_unleveled-next.ensures.leveled) 0 h within c.index.result.now c.index.ensures c.if-not-is_new.ensures
    in rw (c.in_ok-open.ensures.stack, c.in_ok-open.ensures.marks, c.in_ok-push.ensures.items) (record { search = all.0; keeps = all.1; left = all.2 })
