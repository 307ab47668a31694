use Rattle.std.proofs.Common.{◌≡◌, ◌≢◌, ◌+◌, ℕ, List, [], Option, drop, length, None, refl, sym, ◌∙◌, ap, subst, rules, arith, length-drop}
use Rattle.nf_core.specs.declared.intervals.Named.{Named}
use Rattle.nf_session.specs.Followers.{NeedsNoMemory}
use Rattle.nf_session.specs.inner.Events.{StopsAt, after_event, change_made, following}
use Rattle.nf_session.specs.inner.Progress.{IsQuietHalt, Takes, more_read, standing_of}
use Rattle.nf_session.proofs.EventLemmas.{absent, behind, moved, some_left, stops_later}
use Rattle.nf_session.proofs.FeedLemmas.{left_over, some_used, takes_none, takes_then}
use Rattle.nf_session.proofs.reader.Reader.next_event.Goals as goal

pub lines-init : goal.lines-init
lines-init c = record {
  takes = λ content same. takes_none (following content c.args.self.now) c.args.piece.now;
  within = omega arith;
  counted = omega arith;
  open_yet = c.requires.«open»;
  quiet = λ content same q. q;
}

pub returns-in_err-step-clause-halts : goal.returns-in_err-step-clause-halts
returns-in_err-step-clause-halts c = λ content same.
    let piece = c.args.piece.now in
    let end = c.in_err-step.field-0.0 in
    let stops : StopsAt end content (more_read (standing_of (following content c.args.self.now)) piece) =
    stops_later (following content c.args.self.now) piece (following content c.lines.self) (drop c.lines.used piece) (c.lines.invariant.takes content same) end
    (subst (λ (rest : List ℕ). StopsAt end content (more_read (standing_of (following content c.lines.self)) rest)) (left_over c.lines.used piece) (c.in_err-step.ensures.halts content)) in
    search (rules, stops)

pub returns-in_err-step-clause-quiet : goal.returns-in_err-step-clause-quiet
returns-in_err-step-clause-quiet c = λ content same quiet.
    let piece = c.args.piece.now in
    let here : NeedsNoMemory (following content c.lines.self) (behind piece c.lines.used) =
    subst (λ (rest : List ℕ). NeedsNoMemory (following content c.lines.self) rest) (sym (left_over c.lines.used piece)) (c.lines.invariant.quiet content same quiet) in
    let stays : IsQuietHalt c.in_err-step.field-0.0 = c.in_err-step.ensures.quiet content same here (some_left piece c.lines.used c.lines-test.true) in
    search (rules, stays)

pub returns-then-is_some-clause-takes : goal.returns-then-is_some-clause-takes
returns-then-is_some-clause-takes c = λ content same.
    let piece = c.args.piece.now in
    let event = c.in_ok-step.step.event in
    takes_then (following content c.args.self.now) piece (following content c.lines.self) (drop c.lines.used piece) (following (after_event content event) c.next_line.new.self) _ (change_made content event)
    (c.lines.invariant.takes content same) refl
    (moved (λ first last. Takes (following content c.lines.self) first (following (after_event content event) c.next_line.new.self) last (change_made content event)) piece c.lines.used _
    c.in_ok-step.ensures.used (c.in_ok-step.ensures.takes content same))

pub returns-then-is_some-clause-quiet : goal.returns-then-is_some-clause-quiet
returns-then-is_some-clause-quiet c = λ content same quiet.
    let piece = c.args.piece.now in
    let here : NeedsNoMemory (following content c.lines.self) (behind piece c.lines.used) =
    subst (λ (rest : List ℕ). NeedsNoMemory (following content c.lines.self) rest) (sym (left_over c.lines.used piece)) (c.lines.invariant.quiet content same quiet) in
    c.in_ok-step.ensures.quiet content same here (some_left piece c.lines.used c.lines-test.true)

pub returns-then-is_some-clause-still_needs_none : goal.returns-then-is_some-clause-still_needs_none
returns-then-is_some-clause-still_needs_none c = λ content same quiet.
    let piece = c.args.piece.now in
    let here : NeedsNoMemory (following content c.lines.self) (behind piece c.lines.used) =
    subst (λ (rest : List ℕ). NeedsNoMemory (following content c.lines.self) rest) (sym (left_over c.lines.used piece)) (c.lines.invariant.quiet content same quiet) in
    moved (λ first last. NeedsNoMemory (following content c.next_line.new.self) last) piece c.lines.used _ c.in_ok-step.ensures.used
    (c.in_ok-step.ensures.still_needs_none content same here (some_left piece c.lines.used c.lines-test.true))

pub lines-preserved : goal.lines-preserved
lines-preserved c =
    let piece = c.args.piece.now in
    let rest = behind piece c.lines.used in
    let event = c.in_ok-step.step.event in
    let none : event ≡ None = absent event (sym c.is_some.ensures ∙ c.if-is_some.false) in
    let some : rest ≢ [] = some_left piece c.lines.used c.lines-test.true in
    let used = c.lines.used in
    let more = c.in_ok-step.step.used in
    record {
      takes = λ content same.
          takes_then (following content c.args.self.now) piece (following content c.lines.self) (drop used piece) (following content c.next_line.new.self) _ None
          (c.lines.invariant.takes content same) refl
          (subst (λ (e : Option Named). Takes (following content c.lines.self) (drop used piece) (following (after_event content e) c.next_line.new.self) (drop (used + more) piece) (change_made content e)) none
          (moved (λ first last. Takes (following content c.lines.self) first (following (after_event content event) c.next_line.new.self) last (change_made content event)) piece used more
          c.in_ok-step.ensures.used (c.in_ok-step.ensures.takes content same)));
      within = omega (arith, c.in_ok-step.ensures.within, c.lines.invariant.within, ap length (left_over used piece), length-drop used piece);
      counted = omega (arith, c.lines.invariant.counted, c.lines.invariant.within, c.in_ok-step.ensures.counted, c.in_ok-step.ensures.within, some_used rest some, c.in_ok-step.ensures.used, ap length (left_over used piece), length-drop used piece, length-drop (used + more) piece);
      open_yet = c.in_ok-step.ensures.«open»;
      quiet = λ content same quiet.
          moved (λ first last. NeedsNoMemory (following content c.next_line.new.self) last) piece used more c.in_ok-step.ensures.used
          (c.in_ok-step.ensures.still_needs_none content same
          (subst (λ (left : List ℕ). NeedsNoMemory (following content c.lines.self) left) (sym (left_over used piece)) (c.lines.invariant.quiet content same quiet)) some);
    }
