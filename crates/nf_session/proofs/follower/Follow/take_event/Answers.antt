use Rattle.std.proofs.Common.{◌≡◌, ◌≤◌, ◌+◌, IsTrue, arith, Option, None, drop, sym, ◌∙◌, ap, subst, rules}
use Rattle.std.proofs.lemmas.Bool.{false≢true}
use Rattle.std.proofs.lemmas.Result.{err_from_is_err_and}
use Rattle.nf_core.specs.declared.intervals.Change.{Change}
use Rattle.nf_model.specs.Changes.{Content}
use Rattle.nf_session.specs.Followers.{Follower, NeedsNoMemory}
use Rattle.nf_session.specs.inner.Events.{StopsAt, after_event, change_made, following}
use Rattle.nf_session.specs.inner.Progress.{IsQuietHalt, LeavesChange, Takes, more_read, standing_of}
use Rattle.nf_session.specs.inner.Spending.{work_left}
use Rattle.nf_session.specs.declared.fault.Halt.TheVariants as halt
use Rattle.nf_session.proofs.EventLemmas.{entered_leaves, follower_takes, quiet_follower, quiet_read, stops_here}
use Rattle.nf_session.proofs.SpendingLemmas.{spent_taken}
use Rattle.nf_session.proofs.WorkLemmas.{made_work}
use Rattle.nf_session.proofs.follower.Follow.take_event.Goals as goal

pub returns-in_err-step-clause-quiet : goal.returns-in_err-step-clause-quiet
returns-in_err-step-clause-quiet g c = λ quiet.
    let content = g.I.Inferer.content c.self.inside.inferer in
    let here : NeedsNoMemory (following content c.self.inside.reader) c.args.piece.now =
    quiet_read (g.I.Inferer.is_thrifty c.self.inside.inferer) content c.self.inside.reader c.args.piece.now (subst (λ (s : Follower). NeedsNoMemory s c.args.piece.now) (sym c.self.view_is) quiet) in
    let stays : IsQuietHalt c.in_err-step.field-0.0 = c.in_err-step.ensures.quiet content c.self.invariant.0 here in
    search (rules, stays)

pub returns-in_err-inferer-clause-halts : goal.returns-in_err-inferer-clause-halts
returns-in_err-inferer-clause-halts g c =
    let p = err_from_is_err_and c.from_residual-in_err-inferer.result c.from_residual-in_err-inferer.ensures.1 in
    let stops : StopsAt halt.NoMemory c.args.self.content (more_read (standing_of c.args.self) c.args.piece.now) = stops_here halt.NoMemory c.args.self.content (more_read (standing_of c.args.self) c.args.piece.now) tt in
    rw (p.1, p.2) stops

pub returns-in_err-inferer-clause-quiet : goal.returns-in_err-inferer-clause-quiet
returns-in_err-inferer-clause-quiet g c = λ quiet.
    let content = g.I.Inferer.content c.self.inside.inferer in
    let here : NeedsNoMemory (following content c.self.inside.reader) c.args.piece.now =
    quiet_read (g.I.Inferer.is_thrifty c.self.inside.inferer) content c.self.inside.reader c.args.piece.now (subst (λ (s : Follower). NeedsNoMemory s c.args.piece.now) (sym c.self.view_is) quiet) in
    absurd (false≢true (c.in_err-inferer.ensures.needs_no_memory (c.in_ok-step.ensures.quiet content c.self.invariant.0 here)))

pub returns-clause-takes : goal.returns-clause-takes
returns-clause-takes g c =
    let content = g.I.Inferer.content c.self.inside.inferer in
    let now = g.I.Inferer.content c.in_ok-inferer.inferer in
    let event = c.in_ok-step.step.event in
    let piece = c.args.piece.now in
    let rest = drop c.in_ok-step.step.used piece in
    let from = following content c.self.inside.reader in
    let next = c.next_event.new.self in
    let takes : Takes from piece (following (after_event content event) next) rest (change_made content event) = c.in_ok-step.ensures.takes content c.self.invariant.0 in
    let still = g.I.Inferer.is_thrifty c.in_ok-inferer.inferer in
    subst (λ (s : Follower). Takes s piece (record (following now next) { thrifty = still }) rest c.in_ok-inferer.change) c.self.view_is
    (follower_takes (g.I.Inferer.is_thrifty c.self.inside.inferer) still content now c.self.inside.reader next piece rest c.in_ok-inferer.change
    (subst (λ (after : Content). Takes from piece (following after next) rest c.in_ok-inferer.change) (sym c.in_ok-inferer.ensures.entered)
    (subst (λ (made : Option Change). Takes from piece (following (after_event content event) next) rest made) (sym c.in_ok-inferer.ensures.change) takes)))

pub returns-clause-change : goal.returns-clause-change
returns-clause-change g c =
    let content = g.I.Inferer.content c.self.inside.inferer in
    let now = g.I.Inferer.content c.in_ok-inferer.inferer in
    let made = c.in_ok-inferer.change in
    subst (λ (s : Follower). LeavesChange s.content now made) c.self.view_is
    (entered_leaves content now c.in_ok-step.step.event made c.in_ok-inferer.ensures.entered c.in_ok-inferer.ensures.change)

pub returns-clause-quiet : goal.returns-clause-quiet
returns-clause-quiet g c = λ quiet.
    let content = g.I.Inferer.content c.self.inside.inferer in
    let here : NeedsNoMemory (following content c.self.inside.reader) c.args.piece.now =
    quiet_read (g.I.Inferer.is_thrifty c.self.inside.inferer) content c.self.inside.reader c.args.piece.now (subst (λ (s : Follower). NeedsNoMemory s c.args.piece.now) (sym c.self.view_is) quiet) in
    let none : c.in_ok-step.step.event ≡ None = c.in_ok-step.ensures.quiet content c.self.invariant.0 here in
    c.in_ok-inferer.ensures.change ∙ ap (change_made content) none

pub returns-clause-still_needs_none : goal.returns-clause-still_needs_none
returns-clause-still_needs_none g c = λ quiet.
    let content = g.I.Inferer.content c.self.inside.inferer in
    let piece = c.args.piece.now in
    let here : NeedsNoMemory (following content c.self.inside.reader) piece =
    quiet_read (g.I.Inferer.is_thrifty c.self.inside.inferer) content c.self.inside.reader piece (subst (λ (s : Follower). NeedsNoMemory s piece) (sym c.self.view_is) quiet) in
    let none : c.in_ok-step.step.event ≡ None = c.in_ok-step.ensures.quiet content c.self.invariant.0 here in
    let now = g.I.Inferer.content c.in_ok-inferer.inferer in
    let rest = drop c.in_ok-step.step.used piece in
    quiet_follower (g.I.Inferer.is_thrifty c.in_ok-inferer.inferer) now c.next_event.new.self rest
    (subst (λ (after : Content). NeedsNoMemory (following after c.next_event.new.self) rest) (sym (c.in_ok-inferer.ensures.entered ∙ ap (after_event content) none))
    (c.in_ok-step.ensures.still_needs_none content c.self.invariant.0 here))

pub returns-in_err-inferer-clause-stopped_work : goal.returns-in_err-inferer-clause-stopped_work
returns-in_err-inferer-clause-stopped_work g c = λ thrifty.
    let content = g.I.Inferer.content c.self.inside.inferer in
    let event = c.in_ok-step.step.event in
    let rest = drop c.in_ok-step.step.used c.args.piece.now in
    let from = following content c.self.inside.reader in
    let to = following (after_event content event) c.next_event.new.self in
    let is : IsTrue (g.I.Inferer.is_thrifty c.self.inside.inferer) = subst (λ (s : Follower). IsTrue s.thrifty) (sym c.self.view_is) thrifty in
    let spent = spent_taken from c.args.piece.now to rest (change_made content event) (c.in_ok-step.ensures.takes content c.self.invariant.0) c.args.steps.now c.enter_event.new.steps
    (omega (arith, c.enter_event.ensures.work is, made_work content event)) in
    let stopped : c.enter_event.new.steps ≤ c.args.steps.now + work_left c.args.self c.args.piece.now = omega (arith, spent, ap (λ (s : Follower). work_left s c.args.piece.now) c.self.view_is) in
    let p = err_from_is_err_and c.from_residual-in_err-inferer.result c.from_residual-in_err-inferer.ensures.1 in
    rw p.1 stopped

pub returns-clause-work : goal.returns-clause-work
returns-clause-work g c = λ thrifty.
    let content = g.I.Inferer.content c.self.inside.inferer in
    let event = c.in_ok-step.step.event in
    let rest = drop c.in_ok-step.step.used c.args.piece.now in
    let from = following content c.self.inside.reader in
    let to = following (after_event content event) c.next_event.new.self in
    let is : IsTrue (g.I.Inferer.is_thrifty c.self.inside.inferer) = subst (λ (s : Follower). IsTrue s.thrifty) (sym c.self.view_is) thrifty in
    let spent = spent_taken from c.args.piece.now to rest (change_made content event) (c.in_ok-step.ensures.takes content c.self.invariant.0) c.args.steps.now c.enter_event.new.steps
    (omega (arith, c.enter_event.ensures.work is, made_work content event)) in
    let left = ap (λ (after : Content). work_left (following after c.next_event.new.self) rest) c.in_ok-inferer.ensures.entered in
    omega (arith, spent, left, ap (λ (s : Follower). work_left s c.args.piece.now) c.self.view_is)
