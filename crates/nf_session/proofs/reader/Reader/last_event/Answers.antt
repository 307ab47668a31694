use Rattle.std.proofs.Common.{◌≡◌, ◌+◌, Some, None, sym, ◌∙◌, ap, subst, rules}
use Rattle.std.specs.Option.{option_copied}
use Rattle.nf_line.specs.Cutting.{last_line}
use Rattle.nf_line.specs.Line.{line_within}
use Rattle.nf_session.specs.inner.Events.{StopsAt, after_event, change_made, following}
use Rattle.nf_session.specs.inner.Progress.{Handles, HaltsAt, last_read, standing_of}
use Rattle.nf_session.specs.declared.reading.Place.{Place}
use Rattle.nf_session.proofs.EventLemmas.{stops_here}
use Rattle.nf_session.proofs.LastLemmas.{last_halts, none_taken, some_taken}
use Rattle.nf_session.proofs.reader.Reader.last_event.Goals as goal

pub returns-in_err-judged-in-Some-clause-halts : goal.returns-in_err-judged-in-Some-clause-halts
returns-in_err-judged-in-Some-clause-halts c = λ content few.
    let liner = c.args.self.now.liner in
    let place = c.args.self.now.place in
    let end = c.in_err-judged-in-Some.field-0.0 in
    let line : last_line liner.kept ≡ Some c.in-Some.line.now = sym c.last.ensures.last ∙ ap option_copied c.in-Some.is in
    let here : HaltsAt (place.lines + 1) place.last (line_within c.in-Some.line.now) end =
    subst (λ (p : Place). HaltsAt (p.lines + 1) p.last (line_within c.in-Some.line.now) end) (c.countable.ensures.same few) c.in_err-judged-in-Some.ensures.halts in
    let stops : StopsAt end content (last_read (standing_of (following content c.args.self.now))) =
    stops_here end content _ (last_halts content place liner c.last.ensures.valid c.in-Some.line.now line end here) in
    search (rules, stops)

pub returns-in-None-clause-takes : goal.returns-in-None-clause-takes
returns-in-None-clause-takes c = λ content same few.
    let liner = c.args.self.now.liner in
    let none : last_line liner.kept ≡ None = sym c.last.ensures.last ∙ ap option_copied c.in-None.is in
    none_taken content c.args.self.now.place liner c.last.ensures.valid c.last.follows.lender-at-none none c.last.follows.holds-at-none

pub returns-in_ok-judged-in-Some-clause-takes : goal.returns-in_ok-judged-in-Some-clause-takes
returns-in_ok-judged-in-Some-clause-takes c = λ content same few.
    let liner = c.args.self.now.liner in
    let place = c.args.self.now.place in
    let next = c.in_ok-judged-in-Some.judged.place in
    let event = c.in_ok-judged-in-Some.judged.event in
    let line : last_line liner.kept ≡ Some c.in-Some.line.now = sym c.last.ensures.last ∙ ap option_copied c.in-Some.is in
    let handled : Handles (line_within c.in-Some.line.now) place content next (after_event content event) (change_made content event) =
    subst (λ (p : Place). Handles (line_within c.in-Some.line.now) p content next (after_event content event) (change_made content event)) (c.countable.ensures.same few)
    (c.in_ok-judged-in-Some.ensures.handles content same) in
    some_taken content place liner c.last.ensures.valid c.in-Some.line.now line c.last.follows.lender-at-none next (after_event content event) (change_made content event) c.last.follows.holds-at-none handled
