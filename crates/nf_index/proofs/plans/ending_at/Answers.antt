use Rattle.std.proofs.Common.{◌≡◌, ◌∙◌, not, ◌&&◌, subst, arith}
use Rattle.std.proofs.lemmas.Grind.{common_steps}
use Rattle.nf_index.specs.inner.Orders.{IsIndex}
use Rattle.nf_index.proofs.WalkLemmas.{covers_part, covers_ends, equal_between, AreInOrder-part}
use Rattle.nf_index.proofs.plans.ending_at.Goals as goal

pub by_end-requires-clause-order : goal.by_end-requires-clause-order
by_end-requires-clause-order c = AreInOrder-part c.args.begins.now c.args.ends.now c.ends_at.result c.args.falls _ c.requires.index c.ends_at.ensures.part

pub returns-then-falls-ne0 : goal.returns-then-falls-ne0
returns-then-falls-ne0 c w only =
    covers_ends w c.args.begins.now c.args.ends.now c.ends_at.result c.args.falls _ _ c.requires.index c.ends_at.ensures.sorted c.ends_at.ensures.part c.by_end.ensures (λ i there h. only i h)

pub returns : goal.returns
returns c w only =
    let none : c.args.falls ≡ 0 = grind (arith, common_steps, c.if-falls-ne0.false) in
    let index : IsIndex c.args.begins.now c.args.ends.now 0 = subst (IsIndex c.args.begins.now c.args.ends.now) none c.requires.index in
    covers_part w _ c.args.begins.now _ c.part.ensures (λ i there h.
    (λ k. c.end_from-low.ensures.is c.args.begins.now index i there k && not (c.end_after-high.ensures.is c.args.begins.now index i there k)) ∙ equal_between i.stop c.args.time.now (only i h))
