use Rattle.std.proofs.Common.{◌≡◌, ◌+◌, ◌≤◌, ℕ, IsTrue, refl, sym, ◌∙◌, ap, subst, arith, rules}
use Rattle.nf_model.specs.Changes.{Content}
use Rattle.nf_session.specs.Costs.{work_of}
use Rattle.nf_session.specs.Drill.{counted, drill_events, held_in}
use Rattle.nf_session.specs.inner.Drilling.{HasDrilled}
use Rattle.nf_session.proofs.DrillLemmas.{drilled_first, time_within, work_within}
use Rattle.nf_session.proofs.drilling.drill.Goals as goal

pub loop-line-init : goal.loop-line-init
loop-line-init g c = record {
  drilled = drilled_first c.args.plan.now (g.I.Inferer.content c.args.inferer).full (g.I.Inferer.content c.args.inferer) c.new.result c.requires c.new.ensures;
  plan = ap (λ (content : Content). content.plan) c.requires;
  thrifty = refl;
  work = λ thrifty. omega arith;
}

pub enter_next-requires-clause-plan : goal.enter_next-requires-clause-plan
enter_next-requires-clause-plan g c = c.loop-line.invariant.plan

pub enter_next-requires-clause-few : goal.enter_next-requires-clause-few
enter_next-requires-clause-few g c = omega (arith, c.loop-line.invariant.drilled.stands.time_is, time_within c.loop-line._line, c.loop-line-test.true, c.ranges.lines.fits)

pub returns-in_err-drilled-clause-work : goal.returns-in_err-drilled-clause-work
returns-in_err-drilled-clause-work g c = λ thrifty.
    let was = c.loop-line.invariant in
    let full = (g.I.Inferer.content c.args.inferer).full in
    omega (arith, was.work thrifty, c.enter_next.ensures.work full c.loop-line._line was.drilled (subst IsTrue (sym was.thrifty) thrifty), work_within c.args.plan.now full (c.loop-line._line + 1) c.args.lines (omega (arith, c.loop-line-test.true)))

pub loop-line-preserved : goal.loop-line-preserved
loop-line-preserved g c =
    let was = c.loop-line.invariant in
    let full = (g.I.Inferer.content c.args.inferer).full in
    record {
      drilled = c.in_ok-drilled.ensures.drilled full c.loop-line._line was.drilled;
      plan = c.in_ok-drilled.ensures.plan;
      thrifty = c.in_ok-drilled.ensures.thrifty ∙ was.thrifty;
      work = λ thrifty. omega (arith, was.work thrifty, c.enter_next.ensures.work full c.loop-line._line was.drilled (subst IsTrue (sym was.thrifty) thrifty));
    }

pub count_held-requires : goal.count_held-requires
count_held-requires g c = c.loop-line.invariant.plan

pub returns-clause-summary : goal.returns-clause-summary
returns-clause-summary g c =
    let was = c.loop-line.invariant in
    let all : c.loop-line._line ≡ c.args.lines = omega arith in
    let done : HasDrilled c.args.plan.now (g.I.Inferer.content c.args.inferer).full c.args.lines (g.I.Inferer.content c.loop-line.drilled.inferer) c.loop-line.drilled.maker c.loop-line.drilled.counts =
    subst (λ n. HasDrilled c.args.plan.now (g.I.Inferer.content c.args.inferer).full n (g.I.Inferer.content c.loop-line.drilled.inferer) c.loop-line.drilled.maker c.loop-line.drilled.counts) all was.drilled in
    record {
      lines_are = c.from.ensures;
      additions_are = done.additions_are;
      withdrawals_are = done.withdrawals_are;
      held_are = c.count_held.ensures ∙ ap (λ content. counted (held_in content)) done.content_is;
    }

pub returns-clause-work : goal.returns-clause-work
returns-clause-work g c = λ thrifty.
    let all : c.loop-line._line ≡ c.args.lines = omega arith in
    omega (arith, c.loop-line.invariant.work thrifty, ap (λ n. work_of c.args.plan.now (g.I.Inferer.content c.args.inferer).full (drill_events n)) all)
