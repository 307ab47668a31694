use Rattle.std.proofs.Common.{◌≡◌, sym, ◌∙◌, ap}
use Rattle.std.proofs.lemmas.Result.{err_from_is_err_and}
use Rattle.nf_session.specs.Followers.{Follower}
use Rattle.nf_session.proofs.EnteringLemmas.{gone_named, come_named}
use Rattle.nf_session.proofs.LastLemmas.{few_lines, last_failed, last_taken}
use Rattle.nf_session.proofs.SpendingLemmas.{finished_within}
use Rattle.nf_session.proofs.StandingLemmas.{finished, finish_stopped}
use Rattle.nf_session.proofs.follower.Follow.finish.Goals as goal

pub returns-in_err-follow-clause-finishes : goal.returns-in_err-follow-clause-finishes
returns-in_err-follow-clause-finishes g c =
    let p = err_from_is_err_and c.from_residual.result c.from_residual.ensures.1 in
    rw (p.1, p.2) (λ plan full bytes short s.
    finish_stopped plan full bytes c.args.self s c.traces_go_on_from_where_they_stand.ensures.whole short _ _ _
    (c.in_err-follow.ensures.halts (few_lines plan full bytes c.args.self s short) _))

pub announce-requires-clause-gone : goal.announce-requires-clause-gone
announce-requires-clause-gone g c =
    gone_named c.follow.inside.plan c.args.self.content c.in_ok-follow.follow.content _ c.in_ok-follow.ensures.change
    (sym c.in_ok-follow.ensures.plan ∙ sym (ap (λ (s : Follower). s.content.plan) c.follow.view_is) ∙ c.follow.invariant.0)

pub announce-requires-clause-come : goal.announce-requires-clause-come
announce-requires-clause-come g c =
    come_named c.follow.inside.plan c.args.self.content c.in_ok-follow.follow.content _ c.in_ok-follow.ensures.change
    (sym c.in_ok-follow.ensures.plan ∙ sym (ap (λ (s : Follower). s.content.plan) c.follow.view_is) ∙ c.follow.invariant.0)

pub returns-in_err-announce-clause-finishes : goal.returns-in_err-announce-clause-finishes
returns-in_err-announce-clause-finishes g c =
    let p = err_from_is_err_and c.from_residual-in_err-announce.result c.from_residual-in_err-announce.ensures.1 in
    let same : c.follow.inside.plan ≡ c.args.self.content.plan = sym c.follow.invariant.0 ∙ ap (λ (s : Follower). s.content.plan) c.follow.view_is ∙ c.in_ok-follow.ensures.plan in
    rw (p.1, p.2) (λ plan full bytes short s.
    finish_stopped plan full bytes c.args.self s c.traces_go_on_from_where_they_stand.ensures.whole short _ _ _
    (last_failed c.follow.inside.plan c.args.self _ _ _ _ (c.in_ok-follow.ensures.takes (few_lines plan full bytes c.args.self s short)) same _ c.in_err-announce.ensures.failed))

pub returns-clause-finishes : goal.returns-clause-finishes
returns-clause-finishes g c = λ plan full bytes short s.
    let same : c.follow.inside.plan ≡ c.args.self.content.plan = sym c.follow.invariant.0 ∙ ap (λ (s : Follower). s.content.plan) c.follow.view_is ∙ c.in_ok-follow.ensures.plan in
    let takes = c.in_ok-follow.ensures.takes (few_lines plan full bytes c.args.self s short) in
    finished plan full bytes c.args.self s c.traces_go_on_from_where_they_stand.ensures.whole short _ _ _ takes.enters
    (last_taken c.follow.inside.plan c.args.self _ _ _ _ takes same c.in_ok-announce.ensures.taken)

pub returns-in_err-follow-clause-work : goal.returns-in_err-follow-clause-work
returns-in_err-follow-clause-work g c = λ thrifty plan full bytes short s.
    finished_within plan full bytes c.args.self s c.traces_go_on_from_where_they_stand.ensures.whole short c.args.steps.now c.take_last.new.steps
    (c.take_last.ensures.work (few_lines plan full bytes c.args.self s short) thrifty)

pub returns-in_err-announce-clause-work : goal.returns-in_err-announce-clause-work
returns-in_err-announce-clause-work g c = λ thrifty plan full bytes short s.
    finished_within plan full bytes c.args.self s c.traces_go_on_from_where_they_stand.ensures.whole short c.args.steps.now c.take_last.new.steps
    (c.take_last.ensures.work (few_lines plan full bytes c.args.self s short) thrifty)

pub returns-clause-work : goal.returns-clause-work
returns-clause-work g c = λ thrifty plan full bytes short s.
    finished_within plan full bytes c.args.self s c.traces_go_on_from_where_they_stand.ensures.whole short c.args.steps.now c.take_last.new.steps
    (c.take_last.ensures.work (few_lines plan full bytes c.args.self s short) thrifty)
