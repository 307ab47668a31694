use Rattle.std.proofs.Common.{rules, refl, ap, ◌∙◌, Err}
use Rattle.nf_session.specs.declared.follower.Follow.{Follow}
use Rattle.nf_session.proofs.InferredLemmas.{ends_early, ends_written, ends_unwritten}
use Rattle.nf_session.proofs.inferring.infer.Goals as goal

pub returns-in_err-follower-clause-ends : goal.returns-in_err-follower-clause-ends
returns-in_err-follower-clause-ends g c = λ bytes told.
    let ends = ends_early c.args.plan (g.I.Inferer.content c.args.inferer).full bytes
    (g.F.Shelf.tells c.run_session.new.shelf).rest (g.O.Sink.tells c.args.out.now).taken (g.O.Sink.tells c.run_session.new.out).taken
    (Follow g.row.I.Denot) (Unit {0}) c.in_err-follower.field-0.0 (λ e. c.in_err-follower.ensures.silent refl (ap Err e)) (c.in_err-follower.ensures.ends bytes told) in
    search (rules, ends)

pub returns-in-Ok-clause-ends : goal.returns-in-Ok-clause-ends
returns-in-Ok-clause-ends g c = λ bytes told.
    let was = c.in_ok-follower.ensures.ends bytes told in
    let stands = c.in_ok-follower.ensures.stands bytes told in
    ends_written c.args.plan (g.I.Inferer.content c.args.inferer).full bytes
    (g.F.Shelf.tells c.run_session.new.shelf).rest (g.O.Sink.tells c.args.out.now).taken (g.O.Sink.tells c.write_all.new.out).taken (g.O.Sink.tells c.run_session.new.out).taken
    (g.I.Inferer.content c.inferer.result.now) c.in_ok-lines.lines c.as_slice.result.now was.ends was.writes c.in_ok-lines.ensures c.as_slice.ensures
    (c.inferer.ensures ∙ stands.stands.content_is) c.in-Ok.ensures.ok was.left

pub returns-clause-ends : goal.returns-clause-ends
returns-clause-ends g c = λ bytes told.
    let was = c.in_ok-follower.ensures.ends bytes told in
    let stands = c.in_ok-follower.ensures.stands bytes told in
    ends_unwritten c.args.plan (g.I.Inferer.content c.args.inferer).full bytes
    (g.F.Shelf.tells c.run_session.new.shelf).rest (g.O.Sink.tells c.args.out.now).taken (g.O.Sink.tells c.write_all.new.out).taken (g.O.Sink.tells c.run_session.new.out).taken
    (g.I.Inferer.content c.inferer.result.now) c.in_ok-lines.lines c.as_slice.result.now was.ends was.writes c.in_ok-lines.ensures c.as_slice.ensures
    (c.inferer.ensures ∙ stands.stands.content_is) c.in-Err.ensures.err stands.left

pub returns-clause-written_last : goal.returns-clause-written_last
returns-clause-written_last g c = λ e bytes told. let was = c.in_ok-follower.ensures.ends bytes told in (was.ends, was.left)
