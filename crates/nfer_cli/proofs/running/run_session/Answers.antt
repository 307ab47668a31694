use Rattle.std.proofs.Common.{◌≡◌, Some, length, refl, subst, rules}
use Rattle.nfer_cli.specs.Calls.{CarriesOut}
use Rattle.nfer_cli.specs.inner.Options.{given_by}
use Rattle.nfer_cli.specs.inner.Failures.{concluded, session_status}
use Rattle.nfer_cli.specs.inner.Running.{session_asks}
use Rattle.nfer_cli.specs.declared.status.Status.{Status}
use Rattle.nfer_cli.proofs.CallLemmas.{concluded_as, session_unspecified, session_ran}
use Rattle.nfer_cli.proofs.EvaluatingLemmas.{ran_evaluates, unrun_evaluates}
use Rattle.nfer_cli.proofs.running.run_session.Goals as goal

pub returns-in_err-plan-clause-carries_out : goal.returns-in_err-plan-clause-carries_out
returns-in_err-plan-clause-carries_out g c =
    let carried = session_unspecified c.every_specification_has_one_answer.ensures.some c.args.session c.args.files.now (given_by c.args.options) c.in_err-plan.field-0.0 (g.F.Shelf.tells c.args.shelf.now) (g.F.Shelf.tells c.read_specification.new.shelf) (g.O.Sink.tells c.args.out.now)
    c.requires.some c.in_err-plan.ensures.fails c.in_err-plan.ensures.failed c.read_specification.ensures.asks in
    search (rules, carried)

pub returns-in_err-plan-clause-evaluates : goal.returns-in_err-plan-clause-evaluates
returns-in_err-plan-clause-evaluates g c = unrun_evaluates c.args.session (given_by c.args.options) c.args.files.now c.args.steps.now (g.F.Shelf.tells c.args.shelf.now).files

pub returns-clause-evaluates : goal.returns-clause-evaluates
returns-clause-evaluates g c =
    ran_evaluates c.every_specification_has_one_answer.ensures.one c.args.session (given_by c.args.options) c.args.files.now c.in_ok-plan.field-0 c.args.steps.now c.run_under.new.steps
    (g.F.Shelf.tells c.args.shelf.now) (g.F.Shelf.tells c.read_specification.new.shelf) c.read_specification.ensures.files c.in_ok-plan.ensures.accepted c.run_under.ensures.work

pub returns-clause-carries_out : goal.returns-clause-carries_out
returns-clause-carries_out g c =
    let question = Some (session_asks c.args.session (given_by c.args.options) c.args.files.now) in
    let place = length c.args.files.now in
    let shelf = g.F.Shelf.tells c.args.shelf.now in
    let now = g.F.Shelf.tells c.run_under.new.shelf in
    let out = g.O.Sink.tells c.args.out.now in
    let out_now = g.O.Sink.tells c.run_under.new.out in
    let carried = session_ran c.every_specification_has_one_answer.ensures.one c.replay_is_what_is_shown.ensures c.args.session c.args.files.now (given_by c.args.options) c.in_ok-plan.field-0 place c.run_under.result
    shelf (g.F.Shelf.tells c.read_specification.new.shelf) now out out_now c.requires.some c.run_under.ensures.valid c.read_specification.ensures.files refl c.read_specification.ensures.never_falls c.in_ok-plan.ensures.failed c.in_ok-plan.ensures.accepted c.read_specification.ensures.asks c.run_under.ensures.runs in
    let is : session_status place c.run_under.result ≡ concluded c.map_err.result = concluded_as place c.run_under.result c.map_err.result (search rules) in
    subst (λ (s : Status). CarriesOut question s shelf now out out_now) is carried
