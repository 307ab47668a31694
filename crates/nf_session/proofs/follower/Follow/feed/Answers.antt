use Rattle.std.proofs.Common.{◌≡◌, ◌≢◌, ◌∙◌, IsTrue, refl, ◌-◌, List, ℕ, [], length, take, drop, sym, ap, subst, arith, length-drop}
use Rattle.std.proofs.lemmas.Grind.{common_steps}
use Rattle.std.proofs.lemmas.Result.{err_from_is_err_and}
use Rattle.nf_session.specs.Followers.{NeedsNoMemory}
use Rattle.nf_session.specs.inner.Progress.{HasFed}
use Rattle.nf_session.proofs.FeedLemmas.{fed_none, fed_then, left_over, stops_then}
use Rattle.nf_session.specs.inner.Spending.{work_left}
use Rattle.nf_session.proofs.SpendingLemmas.{fed_within}
use Rattle.nf_session.proofs.StandingLemmas.{fed, fed_stopped}
use Rattle.nf_session.proofs.follower.Follow.feed.Goals as goal

pub lines-init : goal.lines-init
lines-init g c = record { fed = fed_none _ _ _; counted = omega arith; quiet = λ q. q; thrifty = refl; work = λ thrifty. omega arith; later = omega arith }

pub returns-in_err-next-clause-feeds : goal.returns-in_err-next-clause-feeds
returns-in_err-next-clause-feeds g c =
    let p = err_from_is_err_and c.from_residual.result c.from_residual.ensures.1 in
    rw (p.1, p.2) (λ plan full bytes short s.
    fed_stopped plan full bytes c.args.self s c.traces_go_on_from_where_they_stand.ensures.so_far c.args.piece.now _ _ _
    (stops_then _ _ c.lines.follow c.lines.rest.now _ _ _ c.lines.invariant.fed c.in_err-next.field-0.0 c.in_err-next.ensures.stops))

pub lines-smaller : goal.lines-smaller
lines-smaller g c =
    let rest = c.lines.rest.now in
    let used = c.in_ok-next.used in
    let some : rest ≢ [] = grind (arith, common_steps) in
    omega (arith, c.in_ok-next.ensures.some some, c.in_ok-next.ensures.within, ap length (left_over used rest), length-drop used rest)

pub lines-preserved : goal.lines-preserved
lines-preserved g c =
    let rest = c.lines.rest.now in
    let used = c.in_ok-next.used in
    let next = c.in_ok-next.next in
    let now = (g.O.Sink.tells c.feed_event.new.out).taken in
    let left : drop used rest ≡ take (length rest - used) (drop used rest) = sym (left_over used rest) in
    record {
      fed = subst (λ (bytes : List ℕ). HasFed c.args.self c.args.piece.now next bytes (g.O.Sink.tells c.args.out.now).taken now) left
          (fed_then _ _ c.lines.follow rest _ _ _ c.lines.invariant.fed next (drop used rest) c.in_ok-next.ensures.fed);
      counted = omega (arith, c.lines.invariant.counted, c.in_ok-next.ensures.counted, c.in_ok-next.ensures.within, ap length (left_over used rest), length-drop used rest);
      quiet = λ quiet. subst (λ (bytes : List ℕ). NeedsNoMemory next bytes) left (c.in_ok-next.ensures.still_needs_none (c.lines.invariant.quiet quiet));
      thrifty = c.in_ok-next.ensures.thrifty ∙ c.lines.invariant.thrifty;
      work = λ thrifty.
          omega (arith, c.lines.invariant.work thrifty, c.in_ok-next.ensures.work (subst IsTrue (sym c.lines.invariant.thrifty) thrifty), ap (λ (bytes : List ℕ). work_left next bytes) left);
      later = omega (arith, c.feed_event.ensures.never_falls);
    }

pub returns-clause-feeds : goal.returns-clause-feeds
returns-clause-feeds g c = λ plan full bytes short s.
    let none : c.lines.rest.now ≡ [] = grind (arith, common_steps) in
    fed plan full bytes c.args.self s c.traces_go_on_from_where_they_stand.ensures.so_far c.args.piece.now c.lines.follow _ _
    (subst (λ (left : List ℕ). HasFed c.args.self c.args.piece.now c.lines.follow left (g.O.Sink.tells c.args.out.now).taken (g.O.Sink.tells c.lines.out).taken) none c.lines.invariant.fed)

pub returns-in_err-next-clause-work : goal.returns-in_err-next-clause-work
returns-in_err-next-clause-work g c = λ thrifty plan full bytes short s.
    fed_within plan full bytes c.args.self s c.traces_go_on_from_where_they_stand.ensures.so_far c.args.piece.now c.args.steps.now c.feed_event.new.steps
    (omega (arith, c.lines.invariant.work thrifty, c.in_err-next.ensures.stopped_work (subst IsTrue (sym c.lines.invariant.thrifty) thrifty)))

pub returns-clause-work : goal.returns-clause-work
returns-clause-work g c = λ thrifty plan full bytes short s.
    fed_within plan full bytes c.args.self s c.traces_go_on_from_where_they_stand.ensures.so_far c.args.piece.now c.args.steps.now c.lines.steps
    (omega (arith, c.lines.invariant.work thrifty))
