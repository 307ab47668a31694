-- A made trace line by line: the number and the time of each, what it changes, and its work.
use Rattle.std.proofs.Common.{◌≡◌, ◌≤◌, ◌<◌, ℕ, ℤ, zero, suc, ◌+◌, ◌-◌, ◌*◌, ◌/◌, ◌%◌, ◌^◌, min, Bool, false, List, [], ◌∷◌, ◌++◌, length, map, take, fold, sum_by, get_or, position, bytes_eq, codes, Option, Some, None, refl, sym, ◌∙◌, ap, subst, arith, length-append}
use Rattle.std.specs.List.{range_with_len}
use Rattle.std.proofs.Math.Seq.{take-length}
use Rattle.std.proofs.Math.Numerals.{add-one}
use Rattle.std.proofs.lemmas.List.{map-id, take-append-le}
use Rattle.std.proofs.lemmas.List.FromFn.{map-range_with_len_more}
use Rattle.std.proofs.lemmas.List.Sums.{fold-append, sum_by-append, sum_by-cons}
use native.Mathlib.Nat.{mod-add-mod}
use Rattle.std.specs.Prelude.{◌||◌, eqb}
use Rattle.std.proofs.Math.Nat.{mod-lt}
use Rattle.std.proofs.lemmas.Bool.Decides.{nat_tests}
use Rattle.std.proofs.lemmas.Nat.{shr-shr}
use Rattle.nf_line.specs.Line.{holds_bar}
use Rattle.nf_core.specs.Intervals.{Interval}
use Rattle.nf_core.specs.Plan.{Plan, keys_of}
use Rattle.nf_core.specs.declared.intervals.Change.{Change}
use Rattle.nf_line.specs.Rows.{interval_of}
use Rattle.nf_line.specs.Trace.{Event}
use Rattle.nf_model.specs.Changes.{Content, change, no_inputs, pool_of, with_input}
use Rattle.nf_model.specs.Work.{work_between}
use Rattle.nf_session.specs.Costs.{work_from, work_of}
use Rattle.nf_session.specs.Drill.{announced, withdrawn, change_at, counted, drill_bits, drill_event, drill_events, drill_name_of, drill_number, drill_time}
use Rattle.nf_session.specs.Follow.{content_after, entered, entered_at}
use Rattle.nf_session.specs.inner.Drilling.{HasDrilled, StandsAt}
use Rattle.nf_session.specs.declared.drilling.Counts.{Counts}
use Rattle.nf_session.specs.declared.making.Maker.{Maker}
use Rattle.nf_session.proofs.EnteringLemmas.{beyond_none}
use Rattle.nf_session.proofs.WorkLemmas.{work_from-append, work_from-once}

-- the number and the time of the next line
pub next_number : (i n : ℕ) → n ≡ drill_number i → (n * 6364136223846793005 % 2 ^ 64 + 1442695040888963407) % 2 ^ 64 ≡ drill_number (i + 1)
unfolding drill_number
next_number i n is =
    mod-add-mod (n * 6364136223846793005) (2 ^ 64) 1442695040888963407
    ∙ ap (λ k. (k * 6364136223846793005 + 1442695040888963407) % 2 ^ 64) is ∙ ap drill_number (sym (add-one i))

pub next_time : (i time bit : ℕ) → time ≡ drill_time i → bit ≡ drill_bits (i + 1) / 8 → time + bit ≡ drill_time (i + 1)
unfolding drill_time
next_time i time bit is bit_is = (λ k. is k + bit_is k) ∙ ap (λ n. drill_time i + drill_bits n / 8) (add-one i) ∙ ap drill_time (sym (add-one i))

-- the upper bit of a number
pub eighth : (n : ℕ) → n / 9223372036854775808 ≡ n / 2 ^ 60 / 8
eighth n = sym (shr-shr n 60 3)

-- the time rises by at most 1 with each line
small : (n : ℕ) → n < 2 ^ 64 → n / 2 ^ 60 / 8 ≤ 1
small n low = omega (arith, low)

number_below : (i : ℕ) → drill_number (suc i) < 2 ^ 64
unfolding drill_number
number_below i = mod-lt (drill_number i * 6364136223846793005 + 1442695040888963407) (omega arith)

pub time_within : (i : ℕ) → drill_time i ≤ i
unfolding drill_time
time_within zero = omega arith
time_within (suc i) = omega (arith, time_within i, small (drill_number (suc i)) (number_below i))

-- the name of a made line has no bar
pub no_bar : (bits : ℕ) → holds_bar (drill_name_of bits) ≡ false
no_bar bits = ap (λ b. b || false) other
  where
    other : eqb (97 + (bits / 2) % 4) 124 ≡ false
    other = grind (arith, nat_tests)

-- a count that stands still, with more
pub counted_more : (n m : ℕ) → counted (counted n + m) ≡ counted (n + m)
counted_more n m = omega arith

-- the events of one line more
pub events_more : (i : ℕ) → drill_events (i + 1) ≡ drill_events i ++ drill_event (i + 1) ∷ []
events_more i = map-range_with_len_more drill_event 1 i (i + 1) (omega arith)

-- a sum of one term
pub one_sum : (f : ℕ → ℕ) (n : ℕ) → sum_by f (n ∷ []) ≡ f n
one_sum f n = omega (arith, sum_by-cons f n [])

-- sums of equal terms
same_sums : (f g : ℕ → ℕ) (most n from : ℕ) → ((k : ℕ) → k < most → f k ≡ g k) → from + n ≤ most → sum_by f (range_with_len from n) ≡ sum_by g (range_with_len from n)
same_sums f g most zero from same low = refl
same_sums f g most (suc n) from same low =
    sum_by-cons f from (range_with_len (from + 1) n) ∙ (λ i. same from (omega arith) i + same_sums f g most n (from + 1) same (omega arith) i)
    ∙ sym (sum_by-cons g from (range_with_len (from + 1) n))

module _ (plan : Plan) (full : Bool) where
  abbrev after : List Event → Content
  after events = content_after plan full events

  -- what is counted of the change of each event
  abbrev total : (Change → ℕ) → List Event → ℕ
  total count events = sum_by (λ place. count (change_at plan full events place)) (range_with_len 0 (length events))

  total_more : (count : Change → ℕ) (events : List Event) (event : Event)
      → total count (events ++ event ∷ []) ≡ total count events + count (change (after events) (after (events ++ event ∷ [])))
  total_more count events event =
      let all = events ++ event ∷ [] in
      let here : ℕ → ℕ = λ place. count (change_at plan full all place) in
      let size : length all ≡ length events + 1 = length-append events (event ∷ []) in
      let places : range_with_len 0 (length events + 1) ≡ range_with_len 0 (length events) ++ length events ∷ [] = counting (length events) in
      let alike : (k : ℕ) → k < length events → here k ≡ count (change_at plan full events k) =
      λ k low. λ i. count (change (after (take-append-le k events (event ∷ []) (omega arith) i)) (after (take-append-le (k + 1) events (event ∷ []) (omega arith) i))) in
      let last : here (length events) ≡ count (change (after events) (after all)) =
      λ i. count (change (after ((take-append-le (length events) events (event ∷ []) (omega arith) ∙ take-length events) i)) (after ((ap (λ n. take n all) (sym size) ∙ take-length all) i))) in
      ap (λ n. sum_by here (range_with_len 0 n)) size ∙ ap (sum_by here) places ∙ sum_by-append here (range_with_len 0 (length events)) (length events ∷ [])
      ∙ (λ i. same_sums here (λ place. count (change_at plan full events place)) (length events) (length events) 0 alike (omega arith) i + (one_sum here (length events) ∙ last) i)
    where
      counting : (n : ℕ) → range_with_len 0 (n + 1) ≡ range_with_len 0 n ++ n ∷ []
      counting n = sym (map-id (range_with_len 0 (n + 1))) ∙ map-range_with_len_more (λ (m : ℕ). m) 0 n n (omega arith) ∙ ap (λ (ns : List ℕ). ns ++ n ∷ []) (map-id (range_with_len 0 n))

  after_more : (events : List Event) (event : Event) → after (events ++ event ∷ []) ≡ entered (after events) event
  unfolding content_after
  after_more events event = fold-append entered (no_inputs plan full) events (event ∷ [])

  -- a line more, by what it changes
  counts_more : (count : Change → ℕ) (i : ℕ) (content now : Content) (was next : ℕ) → content ≡ after (drill_events i) → now ≡ entered content (drill_event (i + 1))
      → was ≡ counted (total count (drill_events i)) → next ≡ counted (was + count (change content now)) → next ≡ counted (total count (drill_events (i + 1)))
  counts_more count i content now was next is entered_is was_is next_is =
      let all : after (drill_events i ++ drill_event (i + 1) ∷ []) ≡ now =
      after_more (drill_events i) (drill_event (i + 1)) ∙ ap (λ c. entered c (drill_event (i + 1))) (sym is) ∙ sym entered_is in
      next_is ∙ ap (λ n. counted (n + count (change content now))) was_is ∙ counted_more (total count (drill_events i)) (count (change content now))
      ∙ ap (λ n. counted (total count (drill_events i) + n)) (λ k. count (change (is k) (sym all k)))
      ∙ ap counted (sym (total_more count (drill_events i) (drill_event (i + 1)))) ∙ ap (λ events. counted (total count events)) (sym (events_more i))

  content_more : (i : ℕ) (content now : Content) → content ≡ after (drill_events i) → now ≡ entered content (drill_event (i + 1)) → now ≡ after (drill_events (i + 1))
  content_more i content now is entered_is =
      entered_is ∙ ap (λ c. entered c (drill_event (i + 1))) is ∙ sym (after_more (drill_events i) (drill_event (i + 1))) ∙ ap after (sym (events_more i))

  -- before the first line
  pub drilled_first : (content : Content) (maker : Maker) → content ≡ no_inputs plan full → StandsAt 0 maker → HasDrilled plan full 0 content maker (record { additions = 0; withdrawals = 0 })
  unfolding content_after
  drilled_first content maker is stands = record { content_is = is; stands = stands; additions_are = refl; withdrawals_are = refl }

  -- more lines have no less work
  abbrev work_at : ℕ → ℕ
  work_at i = work_of plan full (drill_events i)

  pub work_grows : (i : ℕ) → work_at i ≤ work_at (i + 1)
  work_grows i = omega (arith, ap (work_of plan full) (events_more i), work_from-append (no_inputs plan full) (drill_events i) (drill_event (i + 1) ∷ []))

  work_by : (i more : ℕ) → work_at i ≤ work_at (i + more)
  work_by i zero = let same : i ≡ i + zero = omega arith in omega (arith, ap work_at same)
  work_by i (suc more) = let next : i + more + 1 ≡ i + suc more = omega arith in omega (arith, work_by i more, work_grows (i + more), ap work_at next)

  pub work_within : (i lines : ℕ) → i ≤ lines → work_at i ≤ work_at lines
  work_within i lines low = let all : i + (lines - i) ≡ lines = omega arith in omega (arith, work_by i (lines - i), ap work_at all)

  -- the work of one line more
  work_next : (i : ℕ) (content now : Content) → content ≡ after (drill_events i) → now ≡ entered content (drill_event (i + 1))
      → work_of plan full (drill_events (i + 1)) ≡ work_of plan full (drill_events i) + work_between content now
  unfolding content_after
  work_next i content now is entered_is =
      ap (work_of plan full) (events_more i) ∙ work_from-append (no_inputs plan full) (drill_events i) (drill_event (i + 1) ∷ [])
      ∙ ap (λ n. work_of plan full (drill_events i) + n)
      (ap (λ c. work_from c (drill_event (i + 1) ∷ [])) (sym is) ∙ work_from-once content (drill_event (i + 1)) ∙ ap (work_between content) (sym entered_is))

  module _ (i : ℕ) (content : Content) (maker next : Maker) (counts : Counts) (was : HasDrilled plan full i content maker counts) (stands : StandsAt (i + 1) next) (same_plan : content.plan ≡ plan) where
    abbrev found : Option ℕ
    found = position (bytes_eq (drill_name_of (drill_bits (i + 1)))) plan.names

    enters : (place : Option ℕ) → found ≡ place → entered content (drill_event (i + 1)) ≡ entered_at content (drill_event (i + 1)) place
    enters place is = ap (λ (p : Plan). entered_at content (drill_event (i + 1)) (position (bytes_eq (drill_name_of (drill_bits (i + 1)))) p.names)) same_plan ∙ ap (entered_at content (drill_event (i + 1))) is

    -- a line whose name the plan doesn't have
    pub drilled_none : found ≡ None → HasDrilled plan full (i + 1) content next counts
    drilled_none none =
        let same : content ≡ entered content (drill_event (i + 1)) = sym (enters None none) in
        let nothing = beyond_none content.plan (pool_of content) in
        record {
          content_is = content_more i content content was.content_is same;
          stands = stands;
          additions_are = counts_more (λ made. length made.come) i content content counts.additions counts.additions was.content_is same was.additions_are
              (still (λ made. length made.come) counts.additions was.additions_are (ap length nothing));
          withdrawals_are = counts_more (λ made. length made.gone) i content content counts.withdrawals counts.withdrawals was.content_is same was.withdrawals_are
              (still (λ made. length made.gone) counts.withdrawals was.withdrawals_are (ap length nothing));
        }
      where
        still : (count : Change → ℕ) (n : ℕ) → n ≡ counted (total count (drill_events i)) → count (change content content) ≡ 0 → n ≡ counted (n + count (change content content))
        still count n is none = omega (arith, is, none)

    -- a line whose name it has
    module _ (n : ℕ) (some : found ≡ Some n) (interval : Interval) (is : interval ≡ interval_of (keys_of plan n) (drill_event (i + 1))) where
      entered_is : with_input n interval content ≡ entered content (drill_event (i + 1))
      entered_is =
          ap (λ (j : Interval). with_input n j content) is
          ∙ ap (λ (p : Plan). with_input n (interval_of (keys_of p n) (drill_event (i + 1))) content) (sym same_plan) ∙ sym (enters (Some n) some)

      pub drilled_some : (now : Content) (made : Change) (more : Counts) → now ≡ with_input n interval content → made ≡ change content (with_input n interval content)
          → more.additions ≡ counted (counts.additions + length made.come) → more.withdrawals ≡ counted (counts.withdrawals + length made.gone)
          → HasDrilled plan full (i + 1) now next more
      drilled_some now made more now_is made_is additions withdrawals =
          let all : now ≡ entered content (drill_event (i + 1)) = now_is ∙ entered_is in
          let change_is : made ≡ change content now = made_is ∙ ap (change content) (sym now_is) in
          record {
            content_is = content_more i content now was.content_is all;
            stands = stands;
            additions_are = counts_more (λ c. length c.come) i content now counts.additions more.additions was.content_is all was.additions_are
                (additions ∙ ap (λ (c : Change). counted (counts.additions + length c.come)) change_is);
            withdrawals_are = counts_more (λ c. length c.gone) i content now counts.withdrawals more.withdrawals was.content_is all was.withdrawals_are
                (withdrawals ∙ ap (λ (c : Change). counted (counts.withdrawals + length c.gone)) change_is);
          }

      pub work_some : (before now : ℕ) → now ≤ before + work_between content (with_input n interval content)
          → now + work_of plan full (drill_events i) ≤ before + work_of plan full (drill_events (i + 1))
      work_some before now spent = omega (arith, spent, work_next i content (with_input n interval content) was.content_is entered_is)
