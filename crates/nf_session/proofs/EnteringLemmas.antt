-- Entering events: what each one changes, and the text of the change.
use Rattle.std.proofs.Common.{◌≡◌, ℕ, ℤ, ◌+◌, ◌<◌, eqb, get_or, arith, Bool, false, not, cond, List, [], ◌∷◌, ◌++◌, length, filter, Option, Some, None, refl, sym, ◌∙◌, ap, subst}
use Rattle.std.specs.Prelude.{All, IfSome, flat_map, position, bytes_eq}
use Rattle.std.specs.List.{AllByRecursion}
use Rattle.std.specs.Cmp.{eq_by_cmp_equiv}
use Rattle.std.proofs.lemmas.List.Elements.{All-weaker, All-map, recursion_from_All, All-contains_itself}
use Rattle.std.proofs.lemmas.Map.Views.{list_any-from_Contains}
use Rattle.nf_core.specs.Intervals.{Interval, interval_cmp_total}
use Rattle.nf_core.specs.Sets.{has}
use Rattle.nf_core.specs.Plan.{Plan}
use Rattle.nf_core.specs.declared.intervals.Named.{Named}
use Rattle.nf_core.specs.declared.intervals.Change.{Change}
use Rattle.nf_model.specs.Changes.{Content, pool_of, heads, lacking, named, beyond, change}
use Rattle.nf_model.proofs.Public.ChangeLemmas.{heads_within}
use Rattle.nf_lemmas.proofs.ListLemmas.{All-flat_map}
use Rattle.nf_announce.specs.Announcements.{change_text, lines_of}
use Rattle.nf_line.specs.Raw.{Raw}
use Rattle.nf_line.specs.Trace.{Event, Done, Trace, trace_over}
use Rattle.nf_session.specs.Follow.{entered, entered_at, text_between, text_from, event_text}
use Rattle.std.proofs.lemmas.Bool.{or_parts}
use Rattle.std.proofs.lemmas.List.Quantifiers.{position-Some}
use Rattle.nf_core.specs.Identifiers.{is_wide_name}
use Rattle.nf_core.specs.Plan.{is_wide}
use Rattle.std.proofs.lemmas.Slice.Eq.{bytes_eq-Decides}
use Rattle.std.proofs.lemmas.List.{append-nil}
use Rattle.nf_line.specs.Line.{Line, holds_bar}
use Rattle.nf_line.specs.Readings.{event_of}
use Rattle.nf_session.specs.inner.Progress.{Handles, IsForeign, LeadsOn, LeavesChange, text_of_change}
use Rattle.nf_session.specs.declared.reading.Place.{Place}
use Rattle.nf_session.proofs.WorkLemmas.{event_worth}

-- what one choice of pools has beyond another is named by names of the plan
pub beyond_within : (plan : Plan) (pools others : ℕ → List Interval) → All (λ (item : Named). item.name < length plan.names) (beyond plan pools others)
beyond_within plan pools others =
    All-flat_map (λ (item : Named). item.name < length plan.names) (λ n. named n (lacking (pools n) (others n))) (heads plan)
    (All-weaker (λ n. n < length plan.names) (λ n. All (λ (item : Named). item.name < length plan.names) (named n (lacking (pools n) (others n))))
    (λ n within. All-map (λ (item : Named). item.name < length plan.names) _ _ (λ k d inside. within)) (heads plan) (heads_within plan))

-- the text of a change, from the change that was computed
pub between : (plan : Plan) (before now : Content) (made : Change) (lines : List ℕ) → lines ≡ change_text plan made → made ≡ change before now → before.plan ≡ plan → lines ≡ text_between before now
unfolding text_between
between plan before now made lines is computed same_plan = is ∙ ap (change_text plan) computed ∙ ap (λ p. change_text p (change before now)) (sym same_plan)

-- no item passes a test that is false of each
filter_none : {X : Type 0} (p : X → Bool) (xs : List X) → AllByRecursion (λ x. p x ≡ false) xs → filter p xs ≡ []
filter_none p [] h = refl
filter_none p (x ∷ xs) h = ap (λ b. cond b (x ∷ filter p xs) (filter p xs)) h.0 ∙ filter_none p xs h.1

-- nothing is made where nothing is made of any item
flat_none : {X Y : Type 0} (f : X → List Y) (xs : List X) → ((x : X) → f x ≡ []) → flat_map f xs ≡ []
flat_none f [] h = refl
flat_none f (x ∷ xs) h = ap (λ ys. ys ++ flat_map f xs) (h x) ∙ flat_none f xs h

-- a list lacks none of its members
lacks_none : (is : List Interval) → lacking is is ≡ []
lacks_none is =
    filter_none (λ i. not (has is i)) is (recursion_from_All _ _ (All-weaker _ _ (λ i within. ap not (list_any-from_Contains (eq_by_cmp_equiv interval_cmp_total) i is within)) is (All-contains_itself is)))

-- no pool is beyond itself
pub beyond_none : (plan : Plan) (pools : ℕ → List Interval) → beyond plan pools pools ≡ []
beyond_none plan pools = flat_none (λ n. named n (lacking (pools n) (pools n))) (heads plan) (λ n. ap (named n) (lacks_none (pools n)))

-- nothing changes where nothing is entered
pub nothing_between : (content : Content) → text_between content content ≡ []
unfolding text_between change_text
nothing_between content =
    let none = beyond_none content.plan (pool_of content) in
    ap (λ items. lines_of 45 content.plan items ++ lines_of 43 content.plan (beyond content.plan (pool_of content) (pool_of content))) none
    ∙ ap (λ items. lines_of 43 content.plan items) none

-- the plan stays
entered_plan_at : (content : Content) (event : Event) (found : Option ℕ) → (entered_at content event found).plan ≡ content.plan
entered_plan_at content event None = refl
entered_plan_at content event (Some n) = refl

pub entered_plan : (content : Content) (event : Event) → (entered content event).plan ≡ content.plan
entered_plan content event = entered_plan_at content event (position (bytes_eq event.name) content.plan.names)

-- the items of a computed change are named by names of the plan
pub gone_within : (plan : Plan) (before now : Content) (made : Change) → made ≡ change before now → before.plan ≡ plan → All (λ (item : Named). item.name < length plan.names) made.gone
gone_within plan before now made is same_plan =
    subst (λ (p : Plan). All (λ (item : Named). item.name < length p.names) made.gone) same_plan
    (subst (λ (items : List Named). All (λ (item : Named). item.name < length before.plan.names) items) (sym (ap (λ (c : Change). c.gone) is)) (beyond_within before.plan (pool_of before) (pool_of now)))

pub come_within : (plan : Plan) (before now : Content) (made : Change) → made ≡ change before now → before.plan ≡ plan → All (λ (item : Named). item.name < length plan.names) made.come
come_within plan before now made is same_plan =
    subst (λ (p : Plan). All (λ (item : Named). item.name < length p.names) made.come) same_plan
    (subst (λ (items : List Named). All (λ (item : Named). item.name < length before.plan.names) items) (sym (ap (λ (c : Change). c.come) is)) (beyond_within before.plan (pool_of now) (pool_of before)))

-- a name without a bar isn't wide
unwide : (name : List ℕ) → holds_bar name ≡ false → is_wide_name name ≡ false
unfolding is_wide_name
unwide [] none = refl
unwide (byte ∷ name) none = (or_parts (eqb byte 124) (holds_bar name) none).0

-- nor is the name of the plan that it is
pub narrow_name : (plan : Plan) (name : List ℕ) (n : ℕ) → Some n ≡ position (bytes_eq name) plan.names → holds_bar name ≡ false → is_wide plan n ≡ false
narrow_name plan name n found none =
    let same : name ≡ get_or plan.names n [] = (bytes_eq-Decides name (get_or plan.names n [])).0 (position-Some (bytes_eq name) plan.names n [] (sym found)).1 in
    subst (λ text. is_wide_name text ≡ false) same (unwide name none)

-- an event's text is that of what was made of it
change_text_is : (content now : Content) (made : Option Change) → LeavesChange content now made → text_between content now ≡ text_of_change content.plan made
unfolding text_between
change_text_is content now (Some made) left = ap (change_text content.plan) (sym left)
change_text_is content now None left = ap (text_between content) left ∙ nothing_between content

pub event_text_is : (content now : Content) (event : Event) (made : Option Change) → now ≡ entered content event → LeavesChange content now made → text_from content (event ∷ []) ≡ text_of_change content.plan made
unfolding text_from
event_text_is content now event made is left = append-nil (event_text content event) ∙ ap (text_between content) (sym is) ∙ change_text_is content now made left

-- an empty line is handled, and so is an accepted one whose event was entered
pub none_handles : (line : Line) (place : Place) (content : Content) → LeadsOn (place.lines + 1) place.last line []
    → Handles line place content (record { lines = place.lines + 1; last = place.last }) content None
unfolding text_from
none_handles line place content leads = record { events = []; leads = leads; counted = refl; last_is = refl; content_is = refl; text_is = refl; worth = omega arith }

pub some_handles : (line : Line) (place : Place) (content now : Content) (raw : Raw) (time : ℤ) (made : Option Change) → LeadsOn (place.lines + 1) place.last line (event_of (place.lines + 1) raw ∷ [])
    → ((number : ℕ) → now ≡ entered content (event_of number raw)) → LeavesChange content now made → time ≡ raw.stop
    → Handles line place content (record { lines = place.lines + 1; last = Some time }) now made
some_handles line place content now raw time made leads is left timed = record {
  events = event_of (place.lines + 1) raw ∷ [];
  leads = leads;
  counted = refl;
  last_is = ap Some timed;
  content_is = is (place.lines + 1);
  text_is = event_text_is content now (event_of (place.lines + 1) raw) made (is (place.lines + 1)) left;
  worth = event_worth content now (event_of (place.lines + 1) raw) made (is (place.lines + 1));
}

-- the event of a line among those of no name of the plan
pub foreign_first : (number : ℕ) (last : Option ℤ) (line : Line) (raw : Raw) (content : Content) (plan : Plan) (rest : List Line) → LeadsOn number last line (event_of number raw ∷ []) → content.plan ≡ plan
    → All (IsForeign content) (trace_over number last Done (line ∷ rest)).events → position (bytes_eq raw.name) plan.names ≡ None
foreign_first number last line raw content plan rest leads same_plan all =
    let moved = subst (λ (t : Trace). All (IsForeign content) t.events) (leads Done rest) all in
    let here : position (bytes_eq raw.name) content.plan.names ≡ None = moved 0 (event_of number raw) (omega arith) in
    subst (λ (p : Plan). position (bytes_eq raw.name) p.names ≡ None) same_plan here

-- what was made of an event is named by names of the plan
pub gone_named : (plan : Plan) (before now : Content) (made : Option Change) → LeavesChange before now made → before.plan ≡ plan → IfSome made (λ change. All (λ (item : Named). item.name < length plan.names) change.gone)
gone_named plan before now None left same_plan = tt
gone_named plan before now (Some made) left same_plan = gone_within plan before now made left same_plan

pub come_named : (plan : Plan) (before now : Content) (made : Option Change) → LeavesChange before now made → before.plan ≡ plan → IfSome made (λ change. All (λ (item : Named). item.name < length plan.names) change.come)
come_named plan before now None left same_plan = tt
come_named plan before now (Some made) left same_plan = come_within plan before now made left same_plan
