-- The interval leaves the held ones, and so the delta.
use Rattle.std.proofs.Common.{List, refl, sym, ap, subst, ◌∙◌}
use Rattle.nf_core.specs.Intervals.{Interval}
use Rattle.nf_core.specs.Sets.{inserted}
use Rattle.nf_minimal.proofs.CarryLemmas.{carries_out}
use Rattle.nf_minimal.specs.inner.Judged.{Carries}
use Rattle.nf_minimal.proofs.judging.Judging.suppress.Goals as goal

pub returns : goal.returns
returns c = record {
  full = refl;
  held = c.take.ensures.rest;
  suppressed = c.in_ok-insert.ensures.ok ∙ ap (λ (i : Interval). inserted i c.args.self.now.suppressed) c.in-Some.ensures.itself;
  net = subst (λ (is : List Interval). Carries c.args.self.now.held is c.args.self.now.net c.leave.new.self) (sym c.take.ensures.rest)
      (carries_out c.args.outer c.args.outer c.args.self.now.held c.args.self.now.net c.leave.new.self c.requires.set c.requires.held refl c.in_ok-leave.ensures.ok);
}
