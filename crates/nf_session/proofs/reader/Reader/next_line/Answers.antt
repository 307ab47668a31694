use Rattle.std.proofs.Common.{◌≡◌, ◌+◌, true, false, drop, Option, Some, None, Err, sym, ◌∙◌, ap, subst, rules}
use Rattle.nf_core.specs.declared.intervals.Named.{Named}
use Rattle.std.specs.Option.{option_copied}
use Rattle.nf_line.specs.Cutting.{content_after, is_long, line_of, used_of}
use Rattle.nf_line.specs.Calls.{content_left}
use Rattle.nf_line.specs.declared.fault.TraceFault.TheVariants as trace_fault
use Rattle.nf_session.specs.Followers.{NeedsNoMemory}
use Rattle.nf_session.specs.inner.Events.{StopsAt, after_event, change_made, following}
use Rattle.nf_session.specs.inner.Progress.{IsQuietHalt, more_read, standing_of}
use Rattle.nf_session.specs.declared.fault.Halt.TheVariants as halt
use Rattle.nf_session.proofs.EventLemmas.{event_plan, stops_here}
use Rattle.nf_session.proofs.PassLemmas.{is_met, not_met, none_takes, too_long, line_takes, line_halts, foreign_events, lines_behind, quiet_feed, quiet_line, still_quiet}
use Rattle.nf_session.proofs.reader.Reader.next_line.Goals as goal

pub returns-in_err-judged-in-Some-clause-halts : goal.returns-in_err-judged-in-Some-clause-halts
returns-in_err-judged-in-Some-clause-halts c = λ content.
    let liner = c.args.self.now.liner in
    let place = c.args.self.now.place in
    let piece = c.args.piece.now in
    let end = c.in_err-judged-in-Some.field-0.0 in
    let short : is_long liner piece ≡ false = not_met _ c.in-Ok.ensures.long (λ e. cc) in
    let line : line_of liner piece ≡ Some c.in-Some.line.now = sym c.in-Ok.ensures.taken.line ∙ ap option_copied c.in-Some.is in
    let stops : StopsAt end content (more_read (standing_of (following content c.args.self.now)) piece) =
    stops_here end content _ (line_halts content place liner piece c.next_line.ensures.valid c.in-Some.line.now short line end c.in_err-judged-in-Some.ensures.halts) in
    search (rules, stops)

pub returns-in_err-judged-in-Some-clause-quiet : goal.returns-in_err-judged-in-Some-clause-quiet
returns-in_err-judged-in-Some-clause-quiet c = λ content same quiet some.
    let liner = c.args.self.now.liner in
    let place = c.args.self.now.place in
    let piece = c.args.piece.now in
    let short : is_long liner piece ≡ false = not_met _ c.in-Ok.ensures.long (λ e. cc) in
    let line : line_of liner piece ≡ Some c.in-Some.line.now = sym c.in-Ok.ensures.taken.line ∙ ap option_copied c.in-Some.is in
    let stays : IsQuietHalt c.in_err-judged-in-Some.field-0.0 = c.in_err-judged-in-Some.ensures.quiet content (lines_behind content place liner piece c.next_line.ensures.valid c.in-Some.line.now short line) same
    (foreign_events content place liner piece c.next_line.ensures.valid c.in-Some.line.now short line quiet) in
    search (rules, stays)

pub returns-in-Err-Long-clause-halts : goal.returns-in-Err-Long-clause-halts
returns-in-Err-Long-clause-halts c = λ content.
    let liner = c.args.self.now.liner in
    let place = c.args.self.now.place in
    let long : is_long liner c.args.piece.now ≡ true = is_met _ c.next_line.ensures.long (c.in-Err-Long.is ∙ ap Err c.in-Err-Long.field-0-is) in
    stops_here (halt.Refused (trace_fault.Long (place.lines + 1))) content _
    (too_long content place liner c.args.piece.now c.next_line.ensures.valid c.requires.«open» long)

pub returns-in-Err-NoMemory-clause-halts : goal.returns-in-Err-NoMemory-clause-halts
returns-in-Err-NoMemory-clause-halts c = λ content. stops_here halt.NoMemory content (more_read (standing_of (following content c.args.self.now)) c.args.piece.now) tt

pub returns-in-Err-NoMemory-clause-quiet : goal.returns-in-Err-NoMemory-clause-quiet
returns-in-Err-NoMemory-clause-quiet c = λ content same quiet some.
    c.next_line.ensures.lent quiet.none_kept (quiet_feed (following content c.args.self.now) c.args.piece.now quiet some) (c.in-Err-NoMemory.is ∙ ap Err c.in-Err-NoMemory.field-0-is)

pub returns-in-None-clause-takes : goal.returns-in-None-clause-takes
returns-in-None-clause-takes c = λ content same.
    let liner = c.args.self.now.liner in
    let place = c.args.self.now.place in
    let piece = c.args.piece.now in
    let short : is_long liner piece ≡ false = not_met _ c.in-Ok.ensures.long (λ e. cc) in
    let none : line_of liner piece ≡ None = sym c.in-Ok.ensures.taken.line ∙ ap option_copied c.in-None.is in
    let left = c.next_line.follows.lender-at-none in
    let left_is : left ≡ content_after liner piece = c.next_line.follows.holds-at-none ∙ ap (content_left liner piece) c.in-Ok.is in
    none_takes content place liner piece c.next_line.ensures.valid left short none left_is

pub returns-in-None-clause-still_needs_none : goal.returns-in-None-clause-still_needs_none
returns-in-None-clause-still_needs_none c = λ content same quiet some.
    let none : line_of c.args.self.now.liner c.args.piece.now ≡ None = sym c.in-Ok.ensures.taken.line ∙ ap option_copied c.in-None.is in
    absurd (quiet_line (following content c.args.self.now) c.args.piece.now quiet some c.args.self.now.liner none)

pub returns-in_ok-judged-in-Some-clause-takes : goal.returns-in_ok-judged-in-Some-clause-takes
returns-in_ok-judged-in-Some-clause-takes c = λ content same.
    let liner = c.args.self.now.liner in
    let place = c.args.self.now.place in
    let next = c.in_ok-judged-in-Some.judged.place in
    let event = c.in_ok-judged-in-Some.judged.event in
    let piece = c.args.piece.now in
    let short : is_long liner piece ≡ false = not_met _ c.in-Ok.ensures.long (λ e. cc) in
    let line : line_of liner piece ≡ Some c.in-Some.line.now = sym c.in-Ok.ensures.taken.line ∙ ap option_copied c.in-Some.is in
    let left = c.next_line.follows.lender-at-none in
    let left_is : left ≡ content_after liner piece = c.next_line.follows.holds-at-none ∙ ap (content_left liner piece) c.in-Ok.is in
    line_takes content place liner piece c.next_line.ensures.valid c.in-Some.line.now short line left next (after_event content event) (change_made content event) left_is
    (c.in_ok-judged-in-Some.ensures.handles content same)

pub returns-in_ok-judged-in-Some-clause-quiet : goal.returns-in_ok-judged-in-Some-clause-quiet
returns-in_ok-judged-in-Some-clause-quiet c = λ content same quiet some.
    let liner = c.args.self.now.liner in
    let place = c.args.self.now.place in
    let piece = c.args.piece.now in
    let short : is_long liner piece ≡ false = not_met _ c.in-Ok.ensures.long (λ e. cc) in
    let line : line_of liner piece ≡ Some c.in-Some.line.now = sym c.in-Ok.ensures.taken.line ∙ ap option_copied c.in-Some.is in
    c.in_ok-judged-in-Some.ensures.quiet content (lines_behind content place liner piece c.next_line.ensures.valid c.in-Some.line.now short line) same
    (foreign_events content place liner piece c.next_line.ensures.valid c.in-Some.line.now short line quiet)

pub returns-in_ok-judged-in-Some-clause-still_needs_none : goal.returns-in_ok-judged-in-Some-clause-still_needs_none
returns-in_ok-judged-in-Some-clause-still_needs_none c = λ content same quiet some.
    let liner = c.args.self.now.liner in
    let place = c.args.self.now.place in
    let next = c.in_ok-judged-in-Some.judged.place in
    let event = c.in_ok-judged-in-Some.judged.event in
    let piece = c.args.piece.now in
    let short : is_long liner piece ≡ false = not_met _ c.in-Ok.ensures.long (λ e. cc) in
    let line : line_of liner piece ≡ Some c.in-Some.line.now = sym c.in-Ok.ensures.taken.line ∙ ap option_copied c.in-Some.is in
    let left = c.next_line.follows.lender-at-none in
    let left_is : left ≡ content_after liner piece = c.next_line.follows.holds-at-none ∙ ap (content_left liner piece) c.in-Ok.is in
    let none : event ≡ None = c.in_ok-judged-in-Some.ensures.quiet content (lines_behind content place liner piece c.next_line.ensures.valid c.in-Some.line.now short line) same
    (foreign_events content place liner piece c.next_line.ensures.valid c.in-Some.line.now short line quiet) in
    subst (λ (e : Option Named). NeedsNoMemory (following (after_event content e) (record { liner = left; place = next })) (drop (used_of piece) piece)) none
    (still_quiet content place liner piece c.next_line.ensures.valid c.in-Some.line.now short line left next (after_event content event) (change_made content event) left_is
    (c.in_ok-judged-in-Some.ensures.handles content same) (event_plan content event) quiet)
