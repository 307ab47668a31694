use Rattle.std.proofs.Common.{◌≡◌, ℤ, true, false, ◌∙◌, subst, arith}
use Rattle.std.specs.Prelude.{int_lt, int_le}
use Rattle.std.proofs.lemmas.Grind.{common_steps}
use Rattle.std.proofs.lemmas.Int.{ints}
use Rattle.nf_core.specs.Texts.{int_least}
use Rattle.nf_index.specs.inner.Orders.{IsIndex}
use Rattle.nf_index.proofs.WalkLemmas.{between_is, at_or_after, covers_part, covers_ends, AreInOrder-part}
use Rattle.nf_index.proofs.plans.ending_before.Goals as goal

pub by_end-requires-clause-order : goal.by_end-requires-clause-order
by_end-requires-clause-order c = AreInOrder-part c.args.begins.now c.args.ends.now c.ends_before.result c.args.falls _ c.requires.index c.ends_before.ensures.part

pub returns-then-falls-ne0 : goal.returns-then-falls-ne0
returns-then-falls-ne0 c w only =
    covers_ends w c.args.begins.now c.args.ends.now c.ends_before.result c.args.falls _ _ c.requires.index c.ends_before.ensures.sorted c.ends_before.ensures.part c.by_end.ensures (λ i there h. only i h)

before_is_not_from : (m n : ℤ) → int_lt m n ≡ true → int_le n m ≡ false
before_is_not_from m n e = grind (arith, ints, e)

pub returns : goal.returns
returns c w only =
    let none : c.args.falls ≡ 0 = grind (arith, common_steps, c.if-falls-ne0.false) in
    let index : IsIndex c.args.begins.now c.args.ends.now 0 = subst (IsIndex c.args.begins.now c.args.ends.now) none c.requires.index in
    covers_part w _ c.args.begins.now _ c.part.ensures (λ i there h. between_is c.begin_from-low.result c.end_from-high.result i
    (c.begin_from-low.ensures.is i (c.requires.index.stored i there) ∙ at_or_after int_least i.start (c.requires.index.stored i there).least)
    (c.end_from-high.ensures.is c.args.begins.now index i there ∙ before_is_not_from i.stop c.args.time.now (only i h)))
