use Rattle.std.proofs.Common.{◌≡◌, refl, Some, Err, ap, subst, sym, rules}
use Rattle.std.specs.Prelude.{IfSome}
use Rattle.nf_io.specs.Files.{asked_of}
use Rattle.nf_model.specs.Changes.{Content}
use Rattle.nf_session.specs.declared.fault.SessionEnd.TheVariants as end
use Rattle.nfer_cli.specs.inner.Running.{Runs}
use Rattle.nfer_cli.specs.declared.running.Session.TheVariants as session
use Rattle.nfer_cli.proofs.EvaluatingLemmas.{lines_evaluated, none_evaluated}
use Rattle.nfer_cli.proofs.RunningLemmas.{follow_last, infer_last, picked_as, unbegun, unpicked}
use Rattle.nfer_cli.proofs.running.run_under.Goals as goal

pub returns-in_err-engine-clause-runs : goal.returns-in_err-engine-clause-runs
returns-in_err-engine-clause-runs g c =
    let is : c.from_residual.result ≡ Err end.NoMemory = search rules in
    subst (λ r. Runs c.args.session c.args.plan c.args.full r (g.F.Shelf.tells c.args.shelf.now) (g.F.Shelf.tells c.args.shelf.now) (g.O.Sink.tells c.args.out.now) (g.O.Sink.tells c.args.out.now)) (sym is)
    (unbegun c.args.session c.args.plan c.args.full (g.F.Shelf.tells c.args.shelf.now) (g.O.Sink.tells c.args.out.now))

pub returns-in-Err-clause-runs : goal.returns-in-Err-clause-runs
returns-in-Err-clause-runs g c =
    let shelf = g.F.Shelf.tells c.args.shelf.now in
    let now = g.F.Shelf.tells c.pick.new.self in
    let asked = subst (λ name. IfSome shelf.files (λ files. now.asked ≡ Some (asked_of files name))) c.trace.ensures c.pick.ensures.asked in
    unpicked c.args.session c.args.plan c.args.full shelf now (g.O.Sink.tells c.args.out.now) c.pick.ensures.files asked c.in-Err.ensures.untold c.in-Err.ensures.failed c.in-Err.ensures.cause

pub returns-in-Follow-clause-runs : goal.returns-in-Follow-clause-runs
returns-in-Follow-clause-runs g c =
    let shelf = g.F.Shelf.tells c.args.shelf.now in
    let picked = g.F.Shelf.tells c.pick.new.self in
    let now = g.F.Shelf.tells c.follow.new.shelf in
    picked_as session.Follow c.args.session (search rules) c.args.plan c.args.full _ (ap (λ (content : Content). content.full) c.in_ok-engine.ensures.content) c.trace.result.now c.trace.ensures c.follow.result shelf picked now
    (g.O.Sink.tells c.args.out.now) (g.O.Sink.tells c.follow.new.out) c.pick.ensures.files c.in-Ok.ensures.failed c.pick.ensures.never_falls c.pick.ensures.asked c.in-Ok.ensures.rest
    c.follow.ensures.ends (λ files told. follow_last c.follow.result files now.rest) c.follow.ensures.causes

pub returns-in-Infer-clause-runs : goal.returns-in-Infer-clause-runs
returns-in-Infer-clause-runs g c =
    let shelf = g.F.Shelf.tells c.args.shelf.now in
    let picked = g.F.Shelf.tells c.pick.new.self in
    let now = g.F.Shelf.tells c.infer.new.shelf in
    let s = session.Infer c.in-Infer.trace in
    picked_as s c.args.session (search rules) c.args.plan c.args.full _ (ap (λ (content : Content). content.full) c.in_ok-engine.ensures.content) c.trace.result.now c.trace.ensures c.infer.result shelf picked now
    (g.O.Sink.tells c.args.out.now) (g.O.Sink.tells c.infer.new.out) c.pick.ensures.files c.in-Ok.ensures.failed c.pick.ensures.never_falls c.pick.ensures.asked c.in-Ok.ensures.rest
    c.infer.ensures.ends (λ files told. infer_last s c.infer.result files now.rest (λ is. c.infer.ensures.written_last is _ told)) c.infer.ensures.causes

pub returns-in_err-engine-clause-work : goal.returns-in_err-engine-clause-work
returns-in_err-engine-clause-work g c = none_evaluated c.args.session c.args.plan c.args.full c.args.steps.now (g.F.Shelf.tells c.args.shelf.now).files

pub returns-in-Err-clause-work : goal.returns-in-Err-clause-work
returns-in-Err-clause-work g c = none_evaluated c.args.session c.args.plan c.args.full c.args.steps.now (g.F.Shelf.tells c.args.shelf.now).files

pub returns-in-Follow-clause-work : goal.returns-in-Follow-clause-work
returns-in-Follow-clause-work g c =
    lines_evaluated c.args.session c.args.plan c.args.full _ (ap (λ (content : Content). content.full) c.in_ok-engine.ensures.content) c.trace.result.now c.trace.ensures c.args.steps.now c.follow.new.steps
    (g.F.Shelf.tells c.args.shelf.now) (g.F.Shelf.tells c.pick.new.self) c.in-Ok.ensures.rest (c.follow.ensures.work refl)

pub returns-in-Infer-clause-work : goal.returns-in-Infer-clause-work
returns-in-Infer-clause-work g c =
    lines_evaluated c.args.session c.args.plan c.args.full _ (ap (λ (content : Content). content.full) c.in_ok-engine.ensures.content) c.trace.result.now c.trace.ensures c.args.steps.now c.infer.new.steps
    (g.F.Shelf.tells c.args.shelf.now) (g.F.Shelf.tells c.pick.new.self) c.in-Ok.ensures.rest (c.infer.ensures.work refl)
