-- The last one is taken away.
use Rattle.std.proofs.Common.{◌≡◌, ◌+◌, ◌<◌, refl, ap, sym, subst, ◌∙◌, arith}
use Rattle.std.proofs.lemmas.Grind.{common_steps}
use Rattle.nf_tally.specs.Numbers.{Numbers, number, one_at}
use Rattle.nf_tally.proofs.NumberLemmas.{one_less, last_is}
use Rattle.nf_tally.proofs.counts.Counts.lower.Goals as goal

pub returns-clause-lowered : goal.returns-clause-lowered
returns-clause-lowered c = λ _ q.
    let i = c.args.interval.now in
    let kept : c.lower_many.new.self ≡ c.args.self.now = c.if-lower_many.ensures.few refl in
    let was : c.number.result ≡ number c.args.self.now i = c.number.ensures ∙ ap (λ (numbers : Numbers). number numbers i) kept in
    let above : 0 < number c.args.self.now i = grind (arith, common_steps, c.if-number-eq0.false) in
    let one = last_is (number c.args.self.now i) above (sym c.if-lower_many.ensures.many) in
    subst (λ (numbers : Numbers). number c.clear.new.self q + one_at i q ≡ number numbers q) kept
    (one_less i q 0 c.lower_many.new.self c.clear.new.self (c.clear.ensures q) (sym (ap (λ (numbers : Numbers). number numbers i) kept ∙ one)))
