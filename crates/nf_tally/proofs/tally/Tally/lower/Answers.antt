-- The last one is taken away.
use Rattle.std.proofs.Common.{◌≡◌, ◌+◌, refl, ap, sym, subst, ◌∙◌}
use Rattle.nf_tally.specs.Numbers.{Numbers, number, one_at}
use Rattle.nf_tally.proofs.NumberLemmas.{one_less, last_is}
use Rattle.nf_tally.proofs.tally.Tally.lower.Goals as goal

pub returns-then-not-lower_many : goal.returns-then-not-lower_many
returns-then-not-lower_many c = λ q.
    let i = c.args.interval.now in
    let one = last_is (number c.args.self.now i) c.requires (sym c.if-not-lower_many.ensures.many) in
    let kept : c.lower_many.new.self ≡ c.args.self.now = c.if-not-lower_many.ensures.few refl in
    subst (λ (numbers : Numbers). number c.clear.new.self q + one_at i q ≡ number numbers q) kept
    (one_less i q 0 c.lower_many.new.self c.clear.new.self (c.clear.ensures q) (sym (ap (λ (numbers : Numbers). number numbers i) kept ∙ one)))
