use Rattle.std.proofs.Common.{◌≡◌, Some, Err, refl, sym, ap, subst, rules}
use Rattle.nf_model.specs.Changes.{Content}
use Rattle.nfer_cli.specs.Calls.{CarriesOut}
use Rattle.nfer_cli.specs.Words.{Drill}
use Rattle.nfer_cli.specs.inner.Failures.{concluded}
use Rattle.nfer_cli.specs.declared.fault.Failure.TheVariants as failure
use Rattle.nfer_cli.proofs.DrillingLemmas.{drill_counted, drill_evaluates, drill_wanted}
use Rattle.nfer_cli.proofs.drilling.run_drill.Goals as goal

pub returns-in_err-plan-clause-carries_out : goal.returns-in_err-plan-clause-carries_out
returns-in_err-plan-clause-carries_out g c = λ shelf.
    let is : c.from_residual.result ≡ Err failure.NoMemory = search rules in
    let out = g.O.Sink.tells c.args.out.now in
    subst (λ r. CarriesOut (Some (Drill c.args.lines)) (concluded r) shelf shelf out out) (sym is) (drill_wanted c.drill_has_one_plan.ensures.some c.args.lines shelf out)

pub returns-in_err-engine-clause-carries_out : goal.returns-in_err-engine-clause-carries_out
returns-in_err-engine-clause-carries_out g c = λ shelf.
    let is : c.from_residual-in_err-engine.result ≡ Err failure.NoMemory = search rules in
    let out = g.O.Sink.tells c.args.out.now in
    subst (λ r. CarriesOut (Some (Drill c.args.lines)) (concluded r) shelf shelf out out) (sym is) (drill_wanted c.drill_has_one_plan.ensures.some c.args.lines shelf out)

pub returns-in_err-summary-clause-carries_out : goal.returns-in_err-summary-clause-carries_out
returns-in_err-summary-clause-carries_out g c = λ shelf.
    let is : c.from_residual-in_err-summary.result ≡ Err failure.NoMemory = search rules in
    let out = g.O.Sink.tells c.args.out.now in
    subst (λ r. CarriesOut (Some (Drill c.args.lines)) (concluded r) shelf shelf out out) (sym is) (drill_wanted c.drill_has_one_plan.ensures.some c.args.lines shelf out)

pub returns-in_err-text-clause-carries_out : goal.returns-in_err-text-clause-carries_out
returns-in_err-text-clause-carries_out g c = λ shelf.
    let is : c.from_residual-in_err-text.result ≡ Err failure.NoMemory = search rules in
    let out = g.O.Sink.tells c.args.out.now in
    subst (λ r. CarriesOut (Some (Drill c.args.lines)) (concluded r) shelf shelf out out) (sym is) (drill_wanted c.drill_has_one_plan.ensures.some c.args.lines shelf out)

pub returns-in_err-summary-clause-evaluates : goal.returns-in_err-summary-clause-evaluates
returns-in_err-summary-clause-evaluates g c = λ files.
    drill_evaluates c.drill_has_one_plan.ensures.one c.args.lines c.in_ok-plan.plan _ (ap (λ (content : Content). content.full) c.in_ok-engine.ensures.content) c.args.steps.now c.drill.new.steps c.in_ok-plan.ensures (c.drill.ensures.work refl)

pub returns-in_err-text-clause-evaluates : goal.returns-in_err-text-clause-evaluates
returns-in_err-text-clause-evaluates g c = λ files.
    drill_evaluates c.drill_has_one_plan.ensures.one c.args.lines c.in_ok-plan.plan _ (ap (λ (content : Content). content.full) c.in_ok-engine.ensures.content) c.args.steps.now c.drill.new.steps c.in_ok-plan.ensures (c.drill.ensures.work refl)

pub returns-clause-evaluates : goal.returns-clause-evaluates
returns-clause-evaluates g c = λ files.
    drill_evaluates c.drill_has_one_plan.ensures.one c.args.lines c.in_ok-plan.plan _ (ap (λ (content : Content). content.full) c.in_ok-engine.ensures.content) c.args.steps.now c.drill.new.steps c.in_ok-plan.ensures (c.drill.ensures.work refl)

pub returns-clause-carries_out : goal.returns-clause-carries_out
returns-clause-carries_out g c = λ shelf.
    drill_counted c.args.lines c.in_ok-plan.plan _ (ap (λ (content : Content). content.full) c.in_ok-engine.ensures.content) c.in_ok-summary.summary c.as_slice.result.now c.print_text.result shelf
    (g.O.Sink.tells c.args.out.now) (g.O.Sink.tells c.print_text.new.out) c.in_ok-plan.ensures c.in_ok-summary.ensures.summary (search rules) c.print_text.ensures
