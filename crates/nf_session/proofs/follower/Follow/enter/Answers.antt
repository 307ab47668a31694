use Rattle.std.proofs.Common.{◌≡◌, ◌≢◌, IsTrue, refl, ◌-◌, List, ℕ, [], length, take, drop, sym, ◌∙◌, ap, subst, arith, length-drop}
use Rattle.std.proofs.lemmas.Grind.{common_steps}
use Rattle.std.proofs.lemmas.Result.{err_from_is_err_and}
use Rattle.nf_session.specs.Followers.{Follower}
use Rattle.nf_session.specs.inner.Progress.{Enters, more_read, standing_of}
use Rattle.nf_session.proofs.EventLemmas.{stops_ends}
use Rattle.nf_session.proofs.FeedLemmas.{ends_then, enters_none, enters_then, left_over}
use Rattle.nf_session.specs.inner.Spending.{work_left}
use Rattle.nf_session.proofs.SpendingLemmas.{fed_within}
use Rattle.nf_session.proofs.StandingLemmas.{so_far_done, so_far_ends, stands_on}
use Rattle.nf_session.proofs.follower.Follow.enter.Goals as goal

pub lines-init : goal.lines-init
lines-init g c = record { enters = enters_none _ _; counted = omega arith; thrifty = refl; work = λ thrifty. omega arith }

pub returns-in_err-passed-clause-ends : goal.returns-in_err-passed-clause-ends
returns-in_err-passed-clause-ends g c =
    let p = err_from_is_err_and c.from_residual.result c.from_residual.ensures.1 in
    let why = c.in_err-passed.field-0.0 in
    rw (p.1, p.2) (λ plan full bytes short s.
    so_far_ends plan full bytes c.args.self s c.traces_go_on_from_where_they_stand.ensures.so_far c.args.piece.now _
    (ends_then _ _ c.lines.follow c.lines.rest.now _ c.lines.invariant.enters (stops_ends why c.lines.follow.content (more_read (standing_of c.lines.follow) c.lines.rest.now) c.in_err-passed.ensures.halts)))

pub lines-smaller : goal.lines-smaller
lines-smaller g c =
    let rest = c.lines.rest.now in
    let used = c.behind-next.result.1 in
    let some : rest ≢ [] = grind (arith, common_steps) in
    let used_is : used ≡ c.in_ok-passed.passed.used = ap (λ (r : Follower × ℕ). r.1) c.behind-next.ensures in
    omega (arith, c.in_ok-passed.ensures.some some, used_is, c.in_ok-passed.ensures.within, ap length (left_over used rest), length-drop used rest)

pub lines-preserved : goal.lines-preserved
lines-preserved g c =
    let rest = c.lines.rest.now in
    let next = c.behind-next.result.0 in
    let used = c.behind-next.result.1 in
    let some : rest ≢ [] = grind (arith, common_steps) in
    let next_is : next ≡ c.in_ok-passed.passed.follow = ap (λ (r : Follower × ℕ). r.0) c.behind-next.ensures in
    let used_is : used ≡ c.in_ok-passed.passed.used = ap (λ (r : Follower × ℕ). r.1) c.behind-next.ensures in
    let left : drop c.in_ok-passed.passed.used rest ≡ take (length rest - used) (drop used rest) = ap (λ n. drop n rest) (sym used_is) ∙ sym (left_over used rest) in
    let entered : Enters c.args.self c.args.piece.now c.in_ok-passed.passed.follow (drop c.in_ok-passed.passed.used rest) =
    enters_then _ _ c.lines.follow rest _ _ c.lines.invariant.enters c.in_ok-passed.ensures.takes.enters in
    record {
      enters = subst (λ (bytes : List ℕ). Enters c.args.self c.args.piece.now next bytes) left
          (subst (λ (f : Follower). Enters c.args.self c.args.piece.now f (drop c.in_ok-passed.passed.used rest)) (sym next_is) entered);
      counted = omega (arith, ap (λ (f : Follower). f.lines) next_is, used_is, c.lines.invariant.counted, c.in_ok-passed.ensures.counted, c.in_ok-passed.ensures.within, ap length (left_over used rest), length-drop used rest, length-drop c.in_ok-passed.passed.used rest);
      thrifty = ap (λ (f : Follower). f.thrifty) next_is ∙ c.in_ok-passed.ensures.thrifty ∙ c.lines.invariant.thrifty;
      work = λ thrifty.
          omega (arith, c.lines.invariant.work thrifty, c.in_ok-passed.ensures.work (subst IsTrue (sym c.lines.invariant.thrifty) thrifty), ap (λ (bytes : List ℕ). work_left next bytes) left, ap (λ (f : Follower). work_left f (drop c.in_ok-passed.passed.used rest)) next_is);
    }

pub returns-clause-stands : goal.returns-clause-stands
returns-clause-stands g c = λ plan full bytes short s.
    let none : c.lines.rest.now ≡ [] = grind (arith, common_steps) in
    stands_on plan full bytes c.args.self s c.traces_go_on_from_where_they_stand.ensures.so_far c.args.piece.now c.lines.follow
    (subst (λ (left : List ℕ). Enters c.args.self c.args.piece.now c.lines.follow left) none c.lines.invariant.enters)

pub returns-clause-ends : goal.returns-clause-ends
returns-clause-ends g c = λ plan full bytes short s.
    let none : c.lines.rest.now ≡ [] = grind (arith, common_steps) in
    so_far_done plan full bytes c.args.self s c.traces_go_on_from_where_they_stand.ensures.so_far c.args.piece.now c.lines.follow
    (subst (λ (left : List ℕ). Enters c.args.self c.args.piece.now c.lines.follow left) none c.lines.invariant.enters)

pub returns-in_err-passed-clause-work : goal.returns-in_err-passed-clause-work
returns-in_err-passed-clause-work g c = λ thrifty plan full bytes short s.
    fed_within plan full bytes c.args.self s c.traces_go_on_from_where_they_stand.ensures.so_far c.args.piece.now c.args.steps.now c.take_event.new.steps
    (omega (arith, c.lines.invariant.work thrifty, c.in_err-passed.ensures.stopped_work (subst IsTrue (sym c.lines.invariant.thrifty) thrifty)))

pub returns-clause-work : goal.returns-clause-work
returns-clause-work g c = λ thrifty plan full bytes short s.
    fed_within plan full bytes c.args.self s c.traces_go_on_from_where_they_stand.ensures.so_far c.args.piece.now c.args.steps.now c.lines.steps
    (omega (arith, c.lines.invariant.work thrifty))
