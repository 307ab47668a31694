-- What is known of a trace by its first lines stays, whatever lines come behind and however it ends.
use Rattle.std.proofs.Common.{◌≡◌, ◌≢◌, ◌≤◌, ◌-◌, ◌+◌, ℕ, ℤ, Bool, true, false, leb, List, [], ◌∷◌, ◌++◌, length, map, take, Option, Some, None, refl, sym, ap, ◌∙◌, arith, append_assoc, add-zero, length-append}
use Rattle.std.proofs.lemmas.Bool.{le-leb}
use Rattle.std.proofs.lemmas.List.{append-nil}
use Rattle.std.proofs.Math.Seq.{take-append-add, take-append_seam}
use Rattle.nf_line.specs.Lines.{cut_off}
use Rattle.nf_line.specs.Line.{Line, Empty, Accepted, Faulty, line}
use Rattle.nf_core.specs.declared.values.Value as value
use Rattle.nf_line.specs.Trace.{Event, Refusal, InNoForm, Ending, Done, Refused, TooLong, Trace, refused, fallen, judged_event, after_events, last_end, trace_at, trace_over, trace, trace_limit, trace_so_far}
use Rattle.nf_line.proofs.EndedLineLemmas.{whole, broken_off}

-- what one line does: it is accepted or empty, and what follows reads on, or it is refused
data OneLine (number : ℕ) (last : Option ℤ) (line : Line) : Type 0 where
  passes : (events : List Event) (kept : Option ℤ) → kept ≡ last_end last events → ((rest : Option ℤ → Trace) → trace_at number last line rest ≡ after_events events (rest kept)) → OneLine number last line
  stops : (refusal : Refusal) → ((rest : Option ℤ → Trace) → trace_at number last line rest ≡ refused number refusal) → OneLine number last line

accepted_line : (number : ℕ) (last : Option ℤ) (name : List ℕ) (start stop : ℤ) (pairs : List (List ℕ × value.Value)) (o : Option Refusal) → fallen last stop ≡ o → OneLine number last (Accepted name start stop pairs)
accepted_line number last name start stop pairs None e =
    let event : Event = record { number = number; name = name; start = start; stop = stop; pairs = pairs } in passes (event ∷ []) (Some stop) refl (λ rest. ap (λ o. judged_event event o rest) e)
accepted_line number last name start stop pairs (Some refusal) e =
    let event : Event = record { number = number; name = name; start = start; stop = stop; pairs = pairs } in stops refusal (λ rest. ap (λ o. judged_event event o rest) e)

one_line : (number : ℕ) (last : Option ℤ) (line : Line) → OneLine number last line
one_line number last Empty = passes [] last refl (λ rest. refl)
one_line number last (Faulty fault) = stops (InNoForm fault) (λ rest. refl)
one_line number last (Accepted name start stop pairs) = accepted_line number last name start stop pairs (fallen last stop) refl

abbrev pub ending_of : Trace → Ending
ending_of t = t.ending

abbrev events_of : Trace → List Event
events_of t = t.events

pub done_isnt_refused : (place : ℕ) (refusal : Refusal) → Done ≡ Refused place refusal → ⊥
done_isnt_refused place refusal e = cc

last_end-append : (last : Option ℤ) (events more : List Event) → last_end last (events ++ more) ≡ last_end (last_end last events) more
last_end-append last [] more = refl
last_end-append last (event ∷ events) more = last_end-append (Some event.stop) events more

after_events-append : (events more : List Event) (t : Trace) → after_events (events ++ more) t ≡ after_events events (after_events more t)
after_events-append events more t = ap (λ es. record { events = es; ending = t.ending }) (append_assoc events more t.events)

-- lines of which none is refused: their events come first, and what follows reads on from there
abbrev GoesOn : ℕ → Option ℤ → List Line → Trace → Type 0
GoesOn number last lines alone = (ending : Ending) (rest : List Line) → trace_over number last ending (lines ++ rest) ≡ after_events alone.events (trace_over (number + length lines) (last_end last alone.events) ending rest)

next_line : (number : ℕ) (last : Option ℤ) (line : Line) (lines : List Line) (events : List Event) (kept : Option ℤ) (alone later : Trace) → kept ≡ last_end last events → alone ≡ after_events events later
    → ((ending : Ending) (rest : List Line) → trace_over number last ending ((line ∷ lines) ++ rest) ≡ after_events events (trace_over (number + 1) kept ending (lines ++ rest)))
    → GoesOn (number + 1) kept lines later → GoesOn number last (line ∷ lines) alone
next_line number last line lines events kept alone later kept_is alone_is first behind ending rest =
    let place : number + 1 + length lines ≡ number + length (line ∷ lines) = omega arith in
    let end : last_end kept later.events ≡ last_end last alone.events =
    ap (λ k. last_end k later.events) kept_is ∙ sym (last_end-append last events later.events) ∙ ap (λ t. last_end last (events_of t)) (sym alone_is) in
    first ending rest ∙ ap (after_events events) (behind ending rest)
    ∙ sym (after_events-append events later.events (trace_over (number + 1 + length lines) (last_end kept later.events) ending rest))
    ∙ ap (λ es. after_events es (trace_over (number + 1 + length lines) (last_end kept later.events) ending rest)) (sym (ap events_of alone_is))
    ∙ ap (λ n. after_events alone.events (trace_over n (last_end kept later.events) ending rest)) place
    ∙ ap (λ k. after_events alone.events (trace_over (number + length (line ∷ lines)) k ending rest)) end

pub goes_on : (lines : List Line) (number : ℕ) (last : Option ℤ) → (trace_over number last Done lines).ending ≡ Done → GoesOn number last lines (trace_over number last Done lines)
unfolding trace_over
goes_on [] number last done = λ ending rest. ap (λ n. trace_over n last ending rest) (sym (add-zero number))
goes_on (next ∷ lines) number last done = at (λ kept. goes_on lines (number + 1) kept) (one_line number last next)
  where
    at : ((kept : Option ℤ) → (trace_over (number + 1) kept Done lines).ending ≡ Done → GoesOn (number + 1) kept lines (trace_over (number + 1) kept Done lines))
        → OneLine number last next → GoesOn number last (next ∷ lines) (trace_over number last Done (next ∷ lines))
    at behind (passes events kept kept_is is) =
        let alone = is (λ k. trace_over (number + 1) k Done lines) in
        next_line number last next lines events kept (trace_over number last Done (next ∷ lines)) (trace_over (number + 1) kept Done lines) kept_is alone
        (λ ending rest. is (λ k. trace_over (number + 1) k ending (lines ++ rest))) (behind kept (sym (ap ending_of alone) ∙ done))
    at behind (stops refusal is) = absurd (done_isnt_refused number refusal (sym done ∙ ap ending_of (is (λ k. trace_over (number + 1) k Done lines))))

-- lines of which one is refused: what follows doesn't count
pub stays_refused : (lines : List Line) (number : ℕ) (last : Option ℤ) (place : ℕ) (refusal : Refusal) → (trace_over number last Done lines).ending ≡ Refused place refusal
    → (ending : Ending) (rest : List Line) → trace_over number last ending (lines ++ rest) ≡ trace_over number last Done lines
unfolding trace_over
stays_refused [] number last place refusal ends ending rest = absurd (done_isnt_refused place refusal ends)
stays_refused (next ∷ lines) number last place found ends ending rest = at (λ kept e. stays_refused lines (number + 1) kept place found e ending rest) (one_line number last next)
  where
    at : ((kept : Option ℤ) → (trace_over (number + 1) kept Done lines).ending ≡ Refused place found → trace_over (number + 1) kept ending (lines ++ rest) ≡ trace_over (number + 1) kept Done lines)
        → OneLine number last next → trace_over number last ending ((next ∷ lines) ++ rest) ≡ trace_over number last Done (next ∷ lines)
    at behind (passes events kept kept_is is) =
        let alone = is (λ k. trace_over (number + 1) k Done lines) in
        is (λ k. trace_over (number + 1) k ending (lines ++ rest)) ∙ ap (after_events events) (behind kept (sym (ap ending_of alone) ∙ ends)) ∙ sym alone
    at behind (stops refusal is) = is (λ k. trace_over (number + 1) k ending (lines ++ rest)) ∙ sym (is (λ k. trace_over (number + 1) k Done lines))

-- lines alone never make a trace too long
isnt_too_long : (lines : List Line) (number : ℕ) (last : Option ℤ) → (trace_over number last Done lines).ending ≢ TooLong
unfolding trace_over
isnt_too_long [] number last = λ e. cc
isnt_too_long (next ∷ lines) number last = at (λ kept. isnt_too_long lines (number + 1) kept) (one_line number last next)
  where
    at : ((kept : Option ℤ) → (trace_over (number + 1) kept Done lines).ending ≢ TooLong) → OneLine number last next → (trace_over number last Done (next ∷ lines)).ending ≢ TooLong
    at behind (passes events kept kept_is is) e = behind kept (sym (ap ending_of (is (λ k. trace_over (number + 1) k Done lines))) ∙ e)
    at behind (stops refusal is) e = let same : Refused number refusal ≡ TooLong = sym (ap ending_of (is (λ k. trace_over (number + 1) k Done lines))) ∙ e in cc

-- where lines and others behind them aren't refused, they aren't
pub done_before : (lines more : List Line) (number : ℕ) (last : Option ℤ) → (trace_over number last Done (lines ++ more)).ending ≡ Done → (trace_over number last Done lines).ending ≡ Done
done_before lines more number last ends = at (trace_over number last Done lines).ending refl
  where
    at : (ending : Ending) → (trace_over number last Done lines).ending ≡ ending → (trace_over number last Done lines).ending ≡ Done
    at Done e = e
    at TooLong e = absurd (isnt_too_long lines number last e)
    at (Refused place refusal) e = absurd (done_isnt_refused place refusal (sym ends ∙ ap ending_of (stays_refused lines number last place refusal e Done more) ∙ e))

none_left : (number : ℕ) (last : Option ℤ) (ending : Ending) → trace_over number last ending [] ≡ record { events = []; ending = ending }
unfolding trace_over
none_left number last ending = refl

-- the trace of all bytes by the lines that ended in the first ones
record LeadsOn (bytes more : List ℕ) : Type 0 where
  ending : Ending
  rest : List Line
  is : trace (bytes ++ more) ≡ trace_over 1 None ending (map line (cut_off bytes) ++ rest)

pub first_bytes : (bytes more : List ℕ) → length bytes ≤ trace_limit → take trace_limit (bytes ++ more) ≡ bytes ++ take (trace_limit - length bytes) more
first_bytes bytes more within = let e : length bytes + (trace_limit - length bytes) ≡ trace_limit = omega arith in
    ap (λ n. take n (bytes ++ more)) (sym e) ∙ take-append-add bytes more (trace_limit - length bytes)

leads_on : (bytes more : List ℕ) → length bytes ≤ trace_limit → LeadsOn bytes more
unfolding trace
leads_on bytes more within = here (leb trace_limit (length (bytes ++ more))) refl
  where
    here : (b : Bool) → leb trace_limit (length (bytes ++ more)) ≡ b → LeadsOn bytes more
    here true e =
        let stay = broken_off bytes (take (trace_limit - length bytes) more) in
        record { ending = TooLong; rest = stay.0; is = rw e (ap (λ first. trace_over 1 None TooLong (map line (cut_off first))) (first_bytes bytes more within) ∙ ap (trace_over 1 None TooLong) stay.1) }
    here false e =
        let stay = whole bytes more in
        record { ending = Done; rest = stay.0; is = rw e (ap (trace_over 1 None Done) stay.1) }

pub refused_stays : (bytes more : List ℕ) (number : ℕ) (refusal : Refusal) → length bytes ≤ trace_limit → (trace_so_far bytes).ending ≡ Refused number refusal → trace (bytes ++ more) ≡ trace_so_far bytes
refused_stays bytes more number refusal within ends =
    let all = leads_on bytes more within in all.is ∙ stays_refused (map line (cut_off bytes)) 1 None number refusal ends all.ending all.rest

pub events_stay : (bytes more : List ℕ) → length bytes ≤ trace_limit → (trace_so_far bytes).ending ≡ Done → (events : List Event) × ((trace (bytes ++ more)).events ≡ (trace_so_far bytes).events ++ events)
events_stay bytes more within ends =
    let all = leads_on bytes more within in
    let lines = map line (cut_off bytes) in
    ((trace_over (1 + length lines) (last_end None (trace_so_far bytes).events) all.ending all.rest).events, ap events_of (all.is ∙ goes_on lines 1 None ends all.ending all.rest))

all_bytes : (bytes more : List ℕ) → length bytes ≡ trace_limit → trace (bytes ++ more) ≡ trace_over 1 None TooLong (map line (cut_off bytes))
unfolding trace
all_bytes bytes more full =
    let e : leb trace_limit (length (bytes ++ more)) ≡ true = le-leb trace_limit (length (bytes ++ more)) (omega (arith, full, length-append bytes more)) in
    let first : take trace_limit (bytes ++ more) ≡ bytes = ap (λ n. take n (bytes ++ more)) (sym full) ∙ take-append_seam bytes more in
    rw e (ap (λ first. trace_over 1 None TooLong (map line (cut_off first))) first)

pub events_at_limit : (bytes more : List ℕ) → length bytes ≡ trace_limit → (trace_so_far bytes).ending ≡ Done → trace (bytes ++ more) ≡ record { events = (trace_so_far bytes).events; ending = TooLong }
events_at_limit bytes more full ends =
    let lines = map line (cut_off bytes) in
    let events = (trace_so_far bytes).events in
    all_bytes bytes more full ∙ ap (trace_over 1 None TooLong) (sym (append-nil lines)) ∙ goes_on lines 1 None ends TooLong []
    ∙ ap (after_events events) (none_left (1 + length lines) (last_end None events) TooLong) ∙ ap (λ es. record { events = es; ending = TooLong }) (append-nil events)

pub unrefused_before : (bytes more : List ℕ) → (trace_so_far (bytes ++ more)).ending ≡ Done → (trace_so_far bytes).ending ≡ Done
unrefused_before bytes more ends =
    let stay = broken_off bytes more in
    done_before (map line (cut_off bytes)) stay.0 1 None (sym (ap (λ lines. ending_of (trace_over 1 None Done lines)) stay.1) ∙ ends)

pub never_too_long : (bytes : List ℕ) → (trace_so_far bytes).ending ≢ TooLong
never_too_long bytes = isnt_too_long (map line (cut_off bytes)) 1 None
