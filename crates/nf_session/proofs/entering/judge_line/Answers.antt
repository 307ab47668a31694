use Rattle.std.proofs.Common.{◌+◌, [], ◌∷◌, None, sym, subst, rules}
use Rattle.std.proofs.lemmas.Bool.{false≢true}
use Rattle.nf_line.specs.Line.{line_within}
use Rattle.nf_line.specs.Readings.{event_of}
use Rattle.nf_session.specs.inner.Events.{after_event, change_made}
use Rattle.nf_session.specs.inner.Progress.{Handles, LeadsOn}
use Rattle.nf_session.specs.declared.reading.Place.{Place}
use Rattle.nf_session.proofs.EnteringLemmas.{foreign_first, none_handles, some_handles}
use Rattle.nf_session.proofs.EventLemmas.{event_leaves}
use Rattle.nf_session.proofs.entering.judge_line.Goals as goal

pub returns-in_err-event-in-Ok-Some-clause-quiet : goal.returns-in_err-event-in-Ok-Some-clause-quiet
returns-in_err-event-in-Ok-Some-clause-quiet c = λ content rest same all.
    let leads : LeadsOn (c.args.place.lines + 1) c.args.place.last (line_within c.args.line.now) (event_of (c.args.place.lines + 1) c.in-Ok-Some.raw ∷ []) = rw c.in-Ok-Some.field-0-is at c.in-Ok-Some.ensures.leads in
    absurd (false≢true (c.in_err-event-in-Ok-Some.ensures.needs_no_memory
    (foreign_first _ _ _ c.in-Ok-Some.raw content c.args.plan.now rest leads same all)))

pub returns-in-Ok-None-clause-handles : goal.returns-in-Ok-None-clause-handles
returns-in-Ok-None-clause-handles c = λ content same.
    subst (λ (p : Place). Handles (line_within c.args.line.now) c.args.place content p content None) (sym c.past.ensures)
    (none_handles _ c.args.place content (rw c.in-Ok-None.field-0-is at c.in-Ok-None.ensures.leads))

pub returns-in_ok-event-in-Ok-Some-clause-handles : goal.returns-in_ok-event-in-Ok-Some-clause-handles
returns-in_ok-event-in-Ok-Some-clause-handles c = λ content same.
    let leads : LeadsOn (c.args.place.lines + 1) c.args.place.last (line_within c.args.line.now) (event_of (c.args.place.lines + 1) c.in-Ok-Some.raw ∷ []) = rw c.in-Ok-Some.field-0-is at c.in-Ok-Some.ensures.leads in
    let event = c.in_ok-event-in-Ok-Some.event in
    subst (λ (p : Place). Handles (line_within c.args.line.now) c.args.place content p (after_event content event) (change_made content event)) (sym c.past-in-Ok-Some.ensures)
    (some_handles _ c.args.place content (after_event content event) c.in-Ok-Some.raw _ (change_made content event) leads
    (λ number. c.in_ok-event-in-Ok-Some.ensures.entered content number same) (event_leaves content event) (search rules))

pub returns-in_ok-event-in-Ok-Some-clause-quiet : goal.returns-in_ok-event-in-Ok-Some-clause-quiet
returns-in_ok-event-in-Ok-Some-clause-quiet c = λ content rest same all.
    let leads : LeadsOn (c.args.place.lines + 1) c.args.place.last (line_within c.args.line.now) (event_of (c.args.place.lines + 1) c.in-Ok-Some.raw ∷ []) = rw c.in-Ok-Some.field-0-is at c.in-Ok-Some.ensures.leads in
    c.in_ok-event-in-Ok-Some.ensures.foreign (foreign_first _ _ _ c.in-Ok-Some.raw content c.args.plan.now rest leads same all)
