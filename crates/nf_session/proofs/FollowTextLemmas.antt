-- The text of every prefix computed anew is the text of one event after the other.
use Rattle.std.proofs.Common.{◌≡◌, ℕ, zero, suc, ◌+◌, Bool, List, [], ◌∷◌, ◌++◌, length, take, fold, flat_map, refl, ap, sym, ◌∙◌, append_assoc, arith}
use Rattle.std.specs.List.{range_with_len}
use Rattle.nf_core.specs.Plan.{Plan}
use Rattle.nf_model.specs.Changes.{Content, change, no_inputs}
use Rattle.nf_announce.specs.Announcements.{change_text}
use Rattle.nf_line.specs.Trace.{Event}
use Rattle.nf_session.specs.Follow.{entered, content_after, follow_text, follow_text_by, text_between, event_text, text_from}
use Rattle.nf_session.proofs.EnteringLemmas.{entered_plan}

-- the content after the events before a place, from a content on
abbrev content_before : Content → List Event → ℕ → Content
content_before content events place = fold entered content (take place events)

-- the text of the event at a place, from a content on
abbrev text_here : Plan → Content → List Event → ℕ → List ℕ
text_here plan content events place = change_text plan (change (content_before content events place) (content_before content events (place + 1)))

-- a function of the next place over later places
shifted : (f g : ℕ → List ℕ) → ((k : ℕ) → f (k + 1) ≡ g k) → (n a : ℕ) → flat_map f (range_with_len (a + 1) n) ≡ flat_map g (range_with_len a n)
shifted f g next zero a = refl
shifted f g next (suc n) a = λ i. next a i ++ shifted f g next n (a + 1) i

-- the content before the next place
content_next : (content : Content) (event : Event) (events : List Event) (k : ℕ) → content_before content (event ∷ events) (k + 1) ≡ content_before (entered content event) events k
content_next content event events k = let next : k + 1 ≡ suc k = omega arith in ap (λ n. fold entered content (take n (event ∷ events))) next

text_next : (plan : Plan) (content : Content) (event : Event) (events : List Event) (k : ℕ) → text_here plan content (event ∷ events) (k + 1) ≡ text_here plan (entered content event) events k
text_next plan content event events k = λ i. change_text plan (change (content_next content event events k i) (content_next content event events (k + 1) i))

first_text : (plan : Plan) (content : Content) (event : Event) → content.plan ≡ plan → change_text plan (change content (entered content event)) ≡ event_text content event
unfolding text_between
first_text plan content event same_plan = ap (λ p. change_text p (change content (entered content event))) (sym same_plan)

from_here : (plan : Plan) (content : Content) → content.plan ≡ plan → (events : List Event) → flat_map (text_here plan content events) (range_with_len 0 (length events)) ≡ text_from content events
unfolding text_from
from_here plan content same_plan [] = refl
from_here plan content same_plan (event ∷ events) =
    let later : flat_map (text_here plan content (event ∷ events)) (range_with_len 1 (length events)) ≡ text_from (entered content event) events =
    shifted (text_here plan content (event ∷ events)) (text_here plan (entered content event) events) (text_next plan content event events) (length events) 0
    ∙ from_here plan (entered content event) (entered_plan content event ∙ same_plan) events in
    λ i. first_text plan content event same_plan i ++ later i

-- every prefix computed anew, and one event after the other
pub follow_text-is : (plan : Plan) (full : Bool) (events : List Event) → follow_text plan full events ≡ text_from (no_inputs plan full) events
unfolding follow_text_by content_after
follow_text-is plan full events = from_here plan (no_inputs plan full) refl events

-- the texts of some events and then of others
pub text_from-append : (content : Content) (events more : List Event) → text_from content (events ++ more) ≡ text_from content events ++ text_from (fold entered content events) more
unfolding text_from
text_from-append content [] more = refl
text_from-append content (event ∷ events) more =
    ap (λ text. event_text content event ++ text) (text_from-append (entered content event) events more)
    ∙ sym (append_assoc (event_text content event) (text_from (entered content event) events) (text_from (fold entered (entered content event) events) more))
