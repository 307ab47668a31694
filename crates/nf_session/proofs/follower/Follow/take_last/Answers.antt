use Rattle.std.proofs.Common.{IsTrue, arith, ap, ◌+◌, ◌<◌, ◌^◌, Option, sym, subst}
use Rattle.std.proofs.lemmas.Result.{err_from_is_err_and}
use Rattle.nf_core.specs.declared.intervals.Change.{Change}
use Rattle.nf_model.specs.Changes.{Content}
use Rattle.nf_session.specs.Followers.{Follower}
use Rattle.nf_session.specs.inner.Events.{StopsAt, after_event, change_made, following}
use Rattle.nf_session.specs.inner.Progress.{LeavesChange, TakesLast, last_read, standing_of}
use Rattle.nf_session.specs.inner.Spending.{last_work}
use Rattle.nf_session.specs.declared.fault.Halt.TheVariants as halt
use Rattle.nf_session.proofs.EventLemmas.{entered_leaves, follower_takes_last, stops_here}
use Rattle.nf_session.proofs.SpendingLemmas.{spent_last}
use Rattle.nf_session.proofs.WorkLemmas.{made_work}
use Rattle.nf_session.proofs.follower.Follow.take_last.Goals as goal

pub returns-in_err-inferer-clause-halts : goal.returns-in_err-inferer-clause-halts
returns-in_err-inferer-clause-halts g c = λ few.
    let p = err_from_is_err_and c.from_residual-in_err-inferer.result c.from_residual-in_err-inferer.ensures.1 in
    let stops : StopsAt halt.NoMemory c.args.self.content (last_read (standing_of c.args.self)) = stops_here halt.NoMemory c.args.self.content (last_read (standing_of c.args.self)) tt in
    rw (p.1, p.2) stops

pub returns-clause-takes : goal.returns-clause-takes
returns-clause-takes g c = λ few.
    let content = g.I.Inferer.content c.self.inside.inferer in
    let now = g.I.Inferer.content c.in_ok-inferer.inferer in
    let event = c.in_ok-event.event in
    let from = following content c.self.inside.reader in
    let next = c.last_event.new.self in
    let open_yet : from.lines + 1 < 2 ^ 64 = subst (λ (s : Follower). s.lines + 1 < 2 ^ 64) (sym c.self.view_is) few in
    let takes : TakesLast from (following (after_event content event) next) (change_made content event) = c.in_ok-event.ensures.takes content c.self.invariant.0 open_yet in
    let still = g.I.Inferer.is_thrifty c.in_ok-inferer.inferer in
    subst (λ (s : Follower). TakesLast s (record (following now next) { thrifty = still }) c.in_ok-inferer.change) c.self.view_is
    (follower_takes_last (g.I.Inferer.is_thrifty c.self.inside.inferer) still content now c.self.inside.reader next c.in_ok-inferer.change
    (subst (λ (after : Content). TakesLast from (following after next) c.in_ok-inferer.change) (sym c.in_ok-inferer.ensures.entered)
    (subst (λ (made : Option Change). TakesLast from (following (after_event content event) next) made) (sym c.in_ok-inferer.ensures.change) takes)))

pub returns-clause-change : goal.returns-clause-change
returns-clause-change g c =
    let content = g.I.Inferer.content c.self.inside.inferer in
    let now = g.I.Inferer.content c.in_ok-inferer.inferer in
    let made = c.in_ok-inferer.change in
    subst (λ (s : Follower). LeavesChange s.content now made) c.self.view_is
    (entered_leaves content now c.in_ok-event.event made c.in_ok-inferer.ensures.entered c.in_ok-inferer.ensures.change)

pub returns-in_err-inferer-clause-work : goal.returns-in_err-inferer-clause-work
returns-in_err-inferer-clause-work g c = λ few thrifty.
    let content = g.I.Inferer.content c.self.inside.inferer in
    let event = c.in_ok-event.event in
    let from = following content c.self.inside.reader in
    let to = following (after_event content event) c.last_event.new.self in
    let open_yet : from.lines + 1 < 2 ^ 64 = subst (λ (s : Follower). s.lines + 1 < 2 ^ 64) (sym c.self.view_is) few in
    let is : IsTrue (g.I.Inferer.is_thrifty c.self.inside.inferer) = subst (λ (s : Follower). IsTrue s.thrifty) (sym c.self.view_is) thrifty in
    let spent = spent_last from to (change_made content event) (c.in_ok-event.ensures.takes content c.self.invariant.0 open_yet) c.args.steps.now c.enter_event.new.steps
    (omega (arith, c.enter_event.ensures.work is, made_work content event)) in
    omega (arith, spent, ap last_work c.self.view_is)

pub returns-clause-work : goal.returns-clause-work
returns-clause-work g c = λ few thrifty.
    let content = g.I.Inferer.content c.self.inside.inferer in
    let event = c.in_ok-event.event in
    let from = following content c.self.inside.reader in
    let to = following (after_event content event) c.last_event.new.self in
    let open_yet : from.lines + 1 < 2 ^ 64 = subst (λ (s : Follower). s.lines + 1 < 2 ^ 64) (sym c.self.view_is) few in
    let is : IsTrue (g.I.Inferer.is_thrifty c.self.inside.inferer) = subst (λ (s : Follower). IsTrue s.thrifty) (sym c.self.view_is) thrifty in
    let spent = spent_last from to (change_made content event) (c.in_ok-event.ensures.takes content c.self.invariant.0 open_yet) c.args.steps.now c.enter_event.new.steps
    (omega (arith, c.enter_event.ensures.work is, made_work content event)) in
    omega (arith, spent, ap last_work c.self.view_is)
