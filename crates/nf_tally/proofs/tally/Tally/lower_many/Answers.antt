-- What is counted beyond the first is one less, or nothing is.
use Rattle.std.proofs.Common.{◌≡◌, Bool, true, false, nat_lt, refl, ap, sym, subst, ◌∙◌}
use Rattle.nf_tally.specs.Numbers.{Numbers, number, one_at}
use Rattle.nf_tally.specs.inner.Counted.{AreCounted}
use Rattle.nf_tally.proofs.CountedLemmas.{many_known, lowered_number, lowered_counted}
use Rattle.nf_tally.proofs.tally.Tally.lower_many.Goals as goal

pub invariant_of-self : goal.invariant_of-self
invariant_of-self c = by c.lower.result refl
  where
    by : (b : Bool) → c.lower.result ≡ b → AreCounted c.self.inside.known c.lower.new.self
    by true e = lowered_counted c.args.interval.now c.self.inside.known c.self.inside.beyond c.self.invariant c.lower.new.self (c.lower.ensures.lowered e)
    by false e = subst (AreCounted c.self.inside.known) (sym (c.lower.ensures.unknown e)) c.self.invariant

pub returns-clause-many : goal.returns-clause-many
returns-clause-many c =
    c.lower.ensures.known ∙ many_known c.self.inside.known c.self.inside.beyond c.args.interval.now c.self.invariant ∙ ap (λ (numbers : Numbers). nat_lt 1 (number numbers c.args.interval.now)) c.self.view_is

pub returns-clause-lowered : goal.returns-clause-lowered
returns-clause-lowered c = λ lower q.
    lowered_number c.args.interval.now c.self.inside.known c.self.inside.beyond c.self.invariant c.lower.new.self (c.lower.ensures.lowered lower) q
    ∙ ap (λ (numbers : Numbers). number numbers q) c.self.view_is
