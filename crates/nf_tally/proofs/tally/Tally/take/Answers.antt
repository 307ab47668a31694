-- The interval that was known is answered, and nothing is counted for it any more.
use Rattle.std.proofs.Common.{◌≡◌, Bool, true, false, cond, Option, Some, None, IfSome, is_some, refl, ap, sym, subst, ◌∙◌}
use Rattle.nf_core.specs.Intervals.{Interval, same}
use Rattle.nf_tally.specs.Numbers.{Numbers, number, is_on}
use Rattle.nf_tally.specs.inner.Counted.{counted, AreCounted}
use Rattle.nf_tally.proofs.CountedLemmas.{is_known, cleared_number, cleared_counted}
use Rattle.nf_tally.proofs.tally.Tally.take.Goals as goal

pub invariant_of-self : goal.invariant_of-self
invariant_of-self c =
    subst (λ known. AreCounted known c.clear.new.self) (sym c.take-kept.ensures.rest)
    (cleared_counted c.args.interval.now c.self.inside.known c.self.inside.beyond c.self.invariant c.clear.new.self c.clear.ensures)

the_kept : (found : Option Interval) (i : Interval) (b : Bool) → is_some found ≡ b → IfSome found (λ k. k ≡ i) → found ≡ cond b (Some i) None
the_kept None i true e is = absurd cc
the_kept None i false e is = refl
the_kept (Some k) i true e is = ap Some is
the_kept (Some k) i false e is = absurd cc

pub returns-clause-taken : goal.returns-clause-taken
returns-clause-taken c =
    let i = c.args.interval.now in
    the_kept c.take-kept.result i (is_on (number c.args.self.now i))
    (c.take-kept.ensures.found ∙ sym (is_known c.self.inside.known c.self.inside.beyond i) ∙ ap (λ (numbers : Numbers). is_on (number numbers i)) c.self.view_is)
    c.take-kept.ensures.itself

pub returns-clause-rest : goal.returns-clause-rest
returns-clause-rest c = λ q.
    ap (λ known. number (counted known c.clear.new.self) q) c.take-kept.ensures.rest
    ∙ cleared_number c.args.interval.now c.self.inside.known c.self.inside.beyond c.self.invariant c.clear.new.self c.clear.ensures q
    ∙ ap (λ (numbers : Numbers). cond (same c.args.interval.now q) 0 (number numbers q)) c.self.view_is
