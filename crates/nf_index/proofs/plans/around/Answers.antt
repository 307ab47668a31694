use Rattle.std.proofs.Common.{◌≡◌, ◌∙◌, subst, arith}
use Rattle.std.proofs.lemmas.Grind.{common_steps}
use Rattle.nf_index.specs.inner.Orders.{IsIndex}
use Rattle.nf_index.proofs.WalkLemmas.{between_is, at_or_after, not_past, covers_ends, AreInOrder-part}
use Rattle.nf_index.proofs.plans.around.Goals as goal

pub by_end-requires-clause-order : goal.by_end-requires-clause-order
by_end-requires-clause-order c = AreInOrder-part c.args.begins.now c.args.ends.now c.ends_from.result c.args.falls _ c.requires.index c.ends_from.ensures.part

pub returns-then-falls-ne0 : goal.returns-then-falls-ne0
returns-then-falls-ne0 c w asks apart =
    covers_ends w c.args.begins.now c.args.ends.now c.ends_from.result c.args.falls _ _ c.requires.index c.ends_from.ensures.sorted c.ends_from.ensures.part c.by_end.ensures
    (λ i there h. at_or_after c.args.times.now.stop i.stop (asks i h).1)

pub returns : goal.returns
returns c w asks apart =
    let none : c.args.falls ≡ 0 = grind (arith, common_steps, c.if-falls-ne0.false) in
    let index : IsIndex c.args.begins.now c.args.ends.now 0 = subst (IsIndex c.args.begins.now c.args.ends.now) none c.requires.index in
    c.run.ensures w apart (λ i there h. between_is c.end_from-low.result c.begin_after-high.result i
    (c.end_from-low.ensures.is c.args.begins.now index i there ∙ at_or_after c.args.times.now.stop i.stop (asks i h).1)
    (c.begin_after-high.ensures.is i (c.requires.index.stored i there) ∙ not_past c.args.times.now.start i.start (asks i h).0))
