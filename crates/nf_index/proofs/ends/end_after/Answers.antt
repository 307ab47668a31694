use Rattle.std.proofs.Common.{◌∙◌, ap, arith}
use Rattle.std.specs.Prelude.{◌≤ℤ◌}
use Rattle.std.proofs.lemmas.Int.{ints}
use Rattle.nf_index.specs.inner.Orders.{reached}
use Rattle.nf_index.proofs.FirstEndLemmas.{IsPlace-first, first_reached, after_upward, past_after}
use Rattle.nf_index.proofs.ends.end_after.Goals as goal

pub returns-in_default-clause-place : goal.returns-in_default-clause-place
returns-in_default-clause-place c is n index = rw c.copied.ensures (IsPlace-first is c.args.ends.now c.ends_after.result _ n _ c.next.result index c.ends_after.ensures.sorted c.ends_after.ensures.part c.next.ensures.steps)

pub returns-in_default-clause-is : goal.returns-in_default-clause-is
returns-in_default-clause-is c is index i there =
    ap (λ r. reached r i) c.copied.ensures
    ∙ first_reached is c.args.ends.now c.ends_after.result _ _ c.next.result index c.ends_after.ensures.sorted c.ends_after.ensures.part c.next.ensures.steps (after_upward c.args.time.now) i there

pub returns-in-Some-clause-is : goal.returns-in-Some-clause-is
returns-in-Some-clause-is c is index i there =
    let late : c.in-Some.latest.stop ≤ℤ c.args.time.now = grind (arith, ints, c.if-latest-time.true) in
    past_after is c.args.ends.now c.args.time.now c.in-Some.latest.stop index c.in-Some.ensures late i there
