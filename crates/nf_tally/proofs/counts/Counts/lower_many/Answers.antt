-- Where one is left nothing is written; else the number is written less one.
use Rattle.std.proofs.Common.{◌≡◌, ◌+◌, ◌-◌, ◌<◌, Some, IsSome, unwrap_or, subst, sym, refl, ap, ◌∙◌, arith}
use Rattle.std.specs.Map.{lookup}
use Rattle.std.proofs.lemmas.Map.Steps.{set_value_same}
use Rattle.nf_core.specs.Intervals.{same}
use Rattle.nf_tally.specs.Numbers.{Numbers, number, one_at}
use Rattle.nf_tally.specs.inner.Positive.{ArePositive}
use Rattle.nf_tally.proofs.NumberLemmas.{positive_updated, number_looked_up, one_less}
use Rattle.nf_tally.proofs.counts.Counts.lower_many.Goals as goal

pub invariant_of-self-then-count-le1 : goal.invariant_of-self-then-count-le1
invariant_of-self-then-count-le1 c = subst ArePositive (sym ((c.get_mut.follows.holds c.in-Some.count.now).0 ∙ set_value_same (same c.args.interval.now) c.self.inside.numbers.entries c.in-Some.count.now (sym c.in-Some.ensures.value))) c.self.invariant

pub returns-then-count-le1-clause-few : goal.returns-then-count-le1-clause-few
returns-then-count-le1-clause-few c = λ _. ((c.get_mut.follows.holds c.in-Some.count.now).0 ∙ set_value_same (same c.args.interval.now) c.self.inside.numbers.entries c.in-Some.count.now (sym c.in-Some.ensures.value)) ∙ c.self.view_is

pub invariant_of-self-2 : goal.invariant_of-self-2
invariant_of-self-2 c =
    let there : IsSome (lookup (same c.args.interval.now) c.self.inside.numbers.entries) = subst IsSome c.in-Some.ensures.value refl in
    let above : 0 < c.in-Some.count.now - 1 = omega arith in
    positive_updated c.args.interval.now (Some (c.in-Some.count.now - 1)) c.self.inside.numbers.entries (c.get_mut.follows.lender (c.in-Some.count.now - 1)).entries
    ((c.get_mut.follows.holds (c.in-Some.count.now - 1)).3 there).0 above c.self.invariant

pub returns-clause-lowered : goal.returns-clause-lowered
returns-clause-lowered c = λ _ q.
    let old = c.self.inside.numbers.entries in
    let new = (c.get_mut.follows.lender (c.in-Some.count.now - 1)).entries in
    let there : IsSome (lookup (same c.args.interval.now) c.self.inside.numbers.entries) = subst IsSome c.in-Some.ensures.value refl in
    let was : c.in-Some.count.now ≡ number old c.args.interval.now = ap (λ o. unwrap_or o 0) c.in-Some.ensures.value in
    let less : c.in-Some.count.now - 1 + 1 ≡ number old c.args.interval.now = omega arith in
    subst (λ (numbers : Numbers). number new q + one_at c.args.interval.now q ≡ number numbers q) c.self.view_is
    (one_less c.args.interval.now q (c.in-Some.count.now - 1) old new
    (number_looked_up c.args.interval.now q (c.in-Some.count.now - 1) old new (((c.get_mut.follows.holds (c.in-Some.count.now - 1)).3 there).0 q)) less)
