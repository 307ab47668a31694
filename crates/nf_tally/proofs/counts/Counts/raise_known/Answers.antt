-- At u128's end nothing is written; else the number is written plus one.
use Rattle.std.proofs.Common.{◌≡◌, ◌+◌, ◌<◌, Some, IsSome, unwrap_or, subst, sym, refl, ap, ◌∙◌, arith}
use Rattle.std.specs.Map.{lookup}
use Rattle.std.proofs.lemmas.Map.Steps.{set_value_same}
use Rattle.nf_core.specs.Intervals.{same}
use Rattle.nf_tally.specs.Numbers.{Numbers, number, one_at}
use Rattle.nf_tally.specs.inner.Positive.{ArePositive}
use Rattle.nf_tally.proofs.NumberLemmas.{positive_updated, number_looked_up, one_more}
use Rattle.nf_tally.proofs.counts.Counts.raise_known.Goals as goal

pub invariant_of-self-in_default-checked_add : goal.invariant_of-self-in_default-checked_add
invariant_of-self-in_default-checked_add c = subst ArePositive (sym ((c.get_mut.follows.holds c.in-Some.count.now).0 ∙ set_value_same (same c.args.interval.now) c.self.inside.numbers.entries c.in-Some.count.now (sym c.in-Some.ensures.value))) c.self.invariant

pub returns-in_default-checked_add-clause-err : goal.returns-in_default-checked_add-clause-err
returns-in_default-checked_add-clause-err c = ((c.get_mut.follows.holds c.in-Some.count.now).0 ∙ set_value_same (same c.args.interval.now) c.self.inside.numbers.entries c.in-Some.count.now (sym c.in-Some.ensures.value)) ∙ c.self.view_is

pub invariant_of-self-2 : goal.invariant_of-self-2
invariant_of-self-2 c =
    let there : IsSome (lookup (same c.args.interval.now) c.self.inside.numbers.entries) = subst IsSome c.in-Some.ensures.value refl in
    let more : c.in-Some.count.now + 1 ≡ c.in-Some-checked_add.more = sym c.in-Some-checked_add.ensures.1 in
    let above : 0 < c.in-Some-checked_add.more = omega arith in
    positive_updated c.args.interval.now (Some c.in-Some-checked_add.more) c.self.inside.numbers.entries (c.get_mut.follows.lender c.in-Some-checked_add.more).entries
    ((c.get_mut.follows.holds c.in-Some-checked_add.more).3 there).0 above c.self.invariant

pub returns-clause-raised : goal.returns-clause-raised
returns-clause-raised c = λ _ q.
    let old = c.self.inside.numbers.entries in
    let new = (c.get_mut.follows.lender c.in-Some-checked_add.more).entries in
    let there : IsSome (lookup (same c.args.interval.now) c.self.inside.numbers.entries) = subst IsSome c.in-Some.ensures.value refl in
    let more : c.in-Some.count.now + 1 ≡ c.in-Some-checked_add.more = sym c.in-Some-checked_add.ensures.1 in
    let was : c.in-Some.count.now ≡ number old c.args.interval.now = ap (λ o. unwrap_or o 0) c.in-Some.ensures.value in
    let one : number old c.args.interval.now + 1 ≡ c.in-Some-checked_add.more = omega arith in
    subst (λ (numbers : Numbers). number new q ≡ number numbers q + one_at c.args.interval.now q) c.self.view_is
    (one_more c.args.interval.now q c.in-Some-checked_add.more old new
    (number_looked_up c.args.interval.now q c.in-Some-checked_add.more old new (((c.get_mut.follows.holds c.in-Some-checked_add.more).3 there).0 q)) one)
