-- The interval isn't known any more, and nothing is counted for it.
use Rattle.std.proofs.Common.{◌≡◌, cond, ap, sym, subst, ◌∙◌}
use Rattle.nf_core.specs.Intervals.{same}
use Rattle.nf_tally.specs.Numbers.{Numbers, number}
use Rattle.nf_tally.specs.inner.Counted.{counted, AreCounted}
use Rattle.nf_tally.proofs.CountedLemmas.{cleared_number, cleared_counted}
use Rattle.nf_tally.proofs.tally.Tally.clear.Goals as goal

pub invariant_of-self : goal.invariant_of-self
invariant_of-self c =
    subst (λ known. AreCounted known c.clear.new.self) (sym c.remove.ensures.rest)
    (cleared_counted c.args.interval.now c.self.inside.known c.self.inside.beyond c.self.invariant c.clear.new.self c.clear.ensures)

pub returns : goal.returns
returns c = λ q.
    ap (λ known. number (counted known c.clear.new.self) q) c.remove.ensures.rest
    ∙ cleared_number c.args.interval.now c.self.inside.known c.self.inside.beyond c.self.invariant c.clear.new.self c.clear.ensures q
    ∙ ap (λ (numbers : Numbers). cond (same c.args.interval.now q) 0 (number numbers q)) c.self.view_is
