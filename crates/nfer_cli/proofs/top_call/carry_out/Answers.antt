use Rattle.std.proofs.Common.{◌≡◌, Some, Option, IfSome, subst, sym, rules}
use Rattle.nfer_cli.specs.Calls.{CarriesOut}
use Rattle.nfer_cli.specs.Evaluating.{EvaluatesWithin}
use Rattle.nfer_cli.specs.Words.{Asked, Drill}
use Rattle.nfer_cli.specs.inner.Commands.{asked_by}
use Rattle.nfer_cli.specs.inner.Failures.{concluded}
use Rattle.nfer_cli.proofs.RunningLemmas.{always}
use Rattle.nfer_cli.proofs.top_call.carry_out.Goals as goal

pub returns-in-Drill-clause-carries_out : goal.returns-in-Drill-clause-carries_out
returns-in-Drill-clause-carries_out g c =
    let is : asked_by c.args.command ≡ Drill c.in-Drill.lines = search rules in
    let shelf = g.F.Shelf.tells c.args.shelf.now in
    subst (λ (q : Asked). CarriesOut (Some q) (concluded c.run_drill.result) shelf shelf (g.O.Sink.tells c.args.out.now) (g.O.Sink.tells c.run_drill.new.out)) (sym is) (c.run_drill.ensures.carries_out shelf)

pub returns-in-Drill-clause-evaluates : goal.returns-in-Drill-clause-evaluates
returns-in-Drill-clause-evaluates g c =
    let is : asked_by c.args.command ≡ Drill c.in-Drill.lines = search rules in
    let told = (g.F.Shelf.tells c.args.shelf.now).files in
    subst (λ (q : Asked). IfSome told (λ files. EvaluatesWithin (Some q) files c.args.steps.now c.run_drill.new.steps)) (sym is)
    (always told (λ files. EvaluatesWithin (Some (Drill c.in-Drill.lines)) files c.args.steps.now c.run_drill.new.steps) c.run_drill.ensures.evaluates)
