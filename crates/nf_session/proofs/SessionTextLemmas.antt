-- What a session wrote, from what its calls took.
use Rattle.std.proofs.Common.{◌≡◌, ◌≢◌, ℕ, zero, suc, ◌+◌, ◌<◌, ◌≤◌, Bool, List, [], ◌++◌, length, take, flat_map, min, refl, sym, ap, ◌∙◌, subst, append_assoc, append-nil, length-append, arith, Option, Some, None}
use Rattle.std.specs.List.{range_with_len}
use Rattle.std.proofs.lemmas.List.{take-append-le, take_min}
use Rattle.std.proofs.Math.Nat.{min-le_right}
use Rattle.nf_core.specs.Plan.{Plan}
use Rattle.nf_io.specs.Bytes.{Took, TookAtLeast, TookPart}
use Rattle.nf_io.proofs.Public.{Took-join, TookPart-after, TookPart-more}
use Rattle.nf_line.specs.Readings.{trace_fault_of}
use Rattle.nf_line.specs.Trace.{Event, Refusal, Ending, Done, Refused, TooLong, Trace, trace, trace_so_far, trace_limit}
use Rattle.nf_line.specs.declared.fault.TraceFault.{TraceFault}
use Rattle.nf_model.specs.Changes.{change, pool_of}
use Rattle.nf_announce.specs.Announcements.{change_text}
use Rattle.nf_session.specs.Follow.{follow_text, follow_text_by, text_at, content_after}
use Rattle.nf_session.specs.Followers.{TookOn, TookPartOn}

-- texts of places one after the other
split_places : (f : ℕ → List ℕ) (m n from : ℕ) → flat_map f (range_with_len from (m + n)) ≡ flat_map f (range_with_len from m) ++ flat_map f (range_with_len (from + m) n)
split_places f zero n from =
    let none : n ≡ zero + n = omega arith in
    let here : from ≡ from + zero = omega arith in
    λ i. flat_map f (range_with_len (here i) (sym none i))
split_places f (suc m) n from =
    let one : suc m + n ≡ suc (m + n) = omega arith in
    let next : from + 1 + m ≡ from + suc m = omega arith in
    ap (λ k. flat_map f (range_with_len from k)) one
    ∙ ap (λ text. f from ++ text) (split_places f m n (from + 1) ∙ ap (λ k. flat_map f (range_with_len (from + 1) m) ++ flat_map f (range_with_len k n)) next)
    ∙ sym (append_assoc (f from) (flat_map f (range_with_len (from + 1) m)) (flat_map f (range_with_len (from + suc m) n)))

same_places : (f g : ℕ → List ℕ) (most n from : ℕ) → ((k : ℕ) → k < most → f k ≡ g k) → from + n ≤ most → flat_map f (range_with_len from n) ≡ flat_map g (range_with_len from n)
same_places f g most zero from same low = refl
same_places f g most (suc n) from same low = λ i. same from (omega arith) i ++ same_places f g most n (from + 1) same (omega arith) i

-- the text of more events begins with that of the first ones
pub text_more : (plan : Plan) (full : Bool) (first more : List Event) → (text : List ℕ) × (follow_text plan full (first ++ more) ≡ follow_text plan full first ++ text)
unfolding follow_text_by
text_more plan full first more =
    let all = first ++ more in
    let count : length all ≡ length first + length more = length-append first more in
    let alike : (k : ℕ) → k < length first → text_at pool_of plan full all k ≡ text_at pool_of plan full first k =
    λ k low. let here = take-append-le k first more (omega arith) in
    let next = take-append-le (k + 1) first more (omega arith) in
    λ i. text_of (here i) (next i) in (
      flat_map (text_at pool_of plan full all) (range_with_len (0 + length first) (length more)),
      ap (λ n. flat_map (text_at pool_of plan full all) (range_with_len 0 n)) count
          ∙ split_places (text_at pool_of plan full all) (length first) (length more) 0
          ∙ ap (λ text. text ++ flat_map (text_at pool_of plan full all) (range_with_len (0 + length first) (length more))) (same_places (text_at pool_of plan full all) (text_at pool_of plan full first) (length first) (length first) 0 alike (omega arith)),
    )
  where
    text_of : List Event → List Event → List ℕ
    text_of a b = change_text plan (change (content_after plan full a) (content_after plan full b))

-- one text, and then what a longer one has more
pub Took-on : (first before now : Option (List ℕ)) (from to : List ℕ) → Took first before from → TookOn before now from to → Took first now to
Took-on first before now from to taken on = subst (λ text. Took first now text) (sym on.longer) (Took-join first before now from on.more taken on.taken)

-- one text, and then less than what a longer one has more, of which the whole text has still more
pub TookPart-on : (first before now : Option (List ℕ)) (from to whole more : List ℕ) → Took first before from → TookPartOn before now from to → whole ≡ to ++ more → TookPart first now whole
TookPart-on first before now from to whole more taken on is =
    subst (λ text. TookPart first now text) (ap (λ t. t ++ more) (sym on.longer) ∙ sym is) (TookPart-more first now (from ++ on.more) more (TookPart-after first before now from on.more taken on.taken))

-- a whole text, and then a part of another one, begin with the first
pub begins : (first middle now : Option (List ℕ)) (x y : List ℕ) → Took first middle x → TookPart middle now y → TookAtLeast first now x
begins first middle None x y p q = tt
begins first None (Some after) x y p q = absurd q
begins None (Some middle) (Some after) x y p q = absurd p
begins (Some start) (Some middle) (Some after) x y p q = (take q.0 y, q.2 ∙ ap (λ t. t ++ take q.0 y) p)

pub TookAtLeast-on : (first before now : Option (List ℕ)) (from to : List ℕ) → Took first before from → TookPartOn before now from to → TookAtLeast first now from
TookAtLeast-on first before now from to taken on = begins first before now from on.more taken on.taken

-- the first j of some events are the first so many of them and more
pub take_first : (j : ℕ) (events more : List Event) → take (min j (length events)) (events ++ more) ≡ take j events
take_first j events more = take-append-le (min j (length events)) events more (min-le_right j (length events)) ∙ take_min j events

-- what is known of a trace by its first bytes stays
abbrev pub RefusalsStay : Type 0
RefusalsStay = (bytes more : List ℕ) (number : ℕ) (refusal : Refusal) → length bytes ≤ trace_limit → (trace_so_far bytes).ending ≡ Refused number refusal → trace (bytes ++ more) ≡ trace_so_far bytes

abbrev pub EventsStay : Type 0
EventsStay = (bytes more : List ℕ) → length bytes ≤ trace_limit → (trace_so_far bytes).ending ≡ Done → (events : List Event) × ((trace (bytes ++ more)).events ≡ (trace_so_far bytes).events ++ events)

abbrev pub NeverTooLong : Type 0
NeverTooLong = (bytes : List ℕ) → (trace_so_far bytes).ending ≢ TooLong

-- a part of a trace leads on to the whole: the accepted lines of the whole begin with those of the part, and are those where the part ends with a refusal
pub record LeadsOn (part whole : Trace) : Type 0 where
  pub more : List Event
  pub longer : whole.events ≡ part.events ++ more
  pub refused : (fault : TraceFault) → trace_fault_of part.ending ≡ Some fault → whole ≡ part

-- the first bytes of a trace lead on to it
pub leads_on : RefusalsStay → EventsStay → NeverTooLong → (first rest : List ℕ) → length first ≤ trace_limit → LeadsOn (trace_so_far first) (trace (first ++ rest))
leads_on refusals events_stay never first rest few = by (trace_so_far first).ending refl
  where
    by : (ending : Ending) → (trace_so_far first).ending ≡ ending → LeadsOn (trace_so_far first) (trace (first ++ rest))
    by Done e =
        let events = events_stay first rest few e in
        record {
          more = events.0;
          longer = events.1;
          refused = λ fault is. let wrong : ◌≡◌ {A = Option TraceFault} None (Some fault) = sym (ap trace_fault_of e) ∙ is in absurd cc;
        }
    by (Refused number refusal) e =
        let same = refusals first rest number refusal few e in
        record { more = []; longer = ap (λ t. t.events) same ∙ sym (append-nil (trace_so_far first).events); refused = λ fault is. same }
    by TooLong e = absurd (never first e)

-- a trace leads on to itself
pub leads_itself : (whole : Trace) → LeadsOn whole whole
leads_itself whole = record { more = []; longer = sym (append-nil whole.events); refused = λ fault is. refl }
