use Rattle.std.proofs.Common.{◌≡◌, ◌∙◌, subst, arith}
use Rattle.std.proofs.lemmas.Grind.{common_steps}
use Rattle.nf_index.specs.inner.Orders.{IsIndex}
use Rattle.nf_index.proofs.WalkLemmas.{between_is, after_it, not_at, covers_part, covers_ends, AreInOrder-part}
use Rattle.nf_index.proofs.plans.overlapping.Goals as goal

pub by_end-requires-clause-order : goal.by_end-requires-clause-order
by_end-requires-clause-order c = AreInOrder-part c.args.begins.now c.args.ends.now c.ends_after.result c.args.falls _ c.requires.index c.ends_after.ensures.part

pub returns-then-falls-ne0 : goal.returns-then-falls-ne0
returns-then-falls-ne0 c w asks =
    covers_ends w c.args.begins.now c.args.ends.now c.ends_after.result c.args.falls _ _ c.requires.index c.ends_after.ensures.sorted c.ends_after.ensures.part c.by_end.ensures
    (λ i there h. after_it c.args.times.now.start i.stop (asks i h).1)

pub returns : goal.returns
returns c w asks =
    let none : c.args.falls ≡ 0 = grind (arith, common_steps, c.if-falls-ne0.false) in
    let index : IsIndex c.args.begins.now c.args.ends.now 0 = subst (IsIndex c.args.begins.now c.args.ends.now) none c.requires.index in
    covers_part w _ c.args.begins.now _ c.part.ensures (λ i there h. between_is c.end_after-low.result c.begin_from-high.result i
    (c.end_after-low.ensures.is c.args.begins.now index i there ∙ after_it c.args.times.now.start i.stop (asks i h).1)
    (c.begin_from-high.ensures.is i (c.requires.index.stored i there) ∙ not_at c.args.times.now.stop i.start (asks i h).0))
