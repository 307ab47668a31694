use Rattle.std.proofs.lemmas.Result.{err_from_is_err_and}
use Rattle.nf_session.proofs.LastLemmas.{few_lines}
use Rattle.nf_session.proofs.SpendingLemmas.{finished_within}
use Rattle.nf_session.proofs.StandingLemmas.{ended, end_halted, stands_at_end}
use Rattle.nf_session.proofs.follower.Follow.enter_last.Goals as goal

pub returns-in_err-follow-clause-ends : goal.returns-in_err-follow-clause-ends
returns-in_err-follow-clause-ends g c =
    let p = err_from_is_err_and c.from_residual.result c.from_residual.ensures.1 in
    rw (p.1, p.2) (λ plan full bytes short s.
    end_halted plan full bytes c.args.self s c.traces_go_on_from_where_they_stand.ensures.whole short c.in_err-follow.field-0.0 (c.in_err-follow.ensures.halts (few_lines plan full bytes c.args.self s short)))

pub returns-clause-stands : goal.returns-clause-stands
returns-clause-stands g c = λ plan full bytes short s.
    stands_at_end plan full bytes c.args.self s c.traces_go_on_from_where_they_stand.ensures.whole short _ (c.in_ok-follow.ensures.takes (few_lines plan full bytes c.args.self s short)).enters

pub returns-clause-ends : goal.returns-clause-ends
returns-clause-ends g c = λ plan full bytes short s.
    ended plan full bytes c.args.self s c.traces_go_on_from_where_they_stand.ensures.whole short _ (c.in_ok-follow.ensures.takes (few_lines plan full bytes c.args.self s short)).enters

pub returns-in_err-follow-clause-work : goal.returns-in_err-follow-clause-work
returns-in_err-follow-clause-work g c = λ thrifty plan full bytes short s.
    finished_within plan full bytes c.args.self s c.traces_go_on_from_where_they_stand.ensures.whole short c.args.steps.now c.take_last.new.steps
    (c.take_last.ensures.work (few_lines plan full bytes c.args.self s short) thrifty)

pub returns-clause-work : goal.returns-clause-work
returns-clause-work g c = λ thrifty plan full bytes short s.
    finished_within plan full bytes c.args.self s c.traces_go_on_from_where_they_stand.ensures.whole short c.args.steps.now c.take_last.new.steps
    (c.take_last.ensures.work (few_lines plan full bytes c.args.self s short) thrifty)
