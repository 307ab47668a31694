-- The weights of pairs that two lists lost and gained, against those of all pairs before and now, and of the touched ones.
use Rattle.std.proofs.Common.{◌≡◌, ℕ, ◌+◌, Bool, true, false, cond, not, ◌&&◌, ◌||◌, List, [], sum_by, refl, ap, sym, ◌∙◌, arith}
use Rattle.nf_core.specs.Intervals.{Interval}
use Rattle.nf_core.specs.Sets.{IsSet, has}
use Rattle.nf_core.specs.declared.intervals.Delta.{Delta}
use Rattle.nf_core.proofs.Public.SetLemmas.{has_filter}
use Rattle.nf_model.specs.Work.{Sides}
use Rattle.nf_model.proofs.Public.WorkLemmas.{pairs_sum, beyond, touched_sum}
use Rattle.nf_pairs.specs.Deltas.{IsDelta, before}
use Rattle.nf_pairs.specs.inner.Walks.{unskipped, kept, lost_sum, found_sum, first_sum, second_sum}
use Rattle.nf_pairs.proofs.Public.SumLemmas.{sum_alike, sum_by_agree, sum_by_nothing, sum_by_plus, sum_by_swap, sum_by-filter}
use Rattle.nf_pairs.proofs.Public.DeltaLemmas.{has_before, absent_before, sum_now, sum_before}

-- the pairs of what two lists kept
abbrev pub kept_sum : (Interval → Interval → ℕ) → (firsts seconds : List Interval) → (d1 d2 : Delta) → ℕ
kept_sum weight firsts seconds d1 d2 = sum_by (λ i. sum_by (weight i) (kept d2 seconds)) (kept d1 firsts)

-- a sum that skips is one over what is kept
kept_alone : (delta : Delta) (f : Interval → ℕ) (now : List Interval) → sum_by (unskipped delta.come f) now ≡ sum_by f (kept delta now)
kept_alone delta f now =
    sum_alike (unskipped delta.come f) (λ i. cond (not (has delta.come i)) (f i) 0) (λ i. by (has delta.come i) (f i)) now
    ∙ sym (sum_by-filter (λ i. not (has delta.come i)) f now)
  where
    by : (b : Bool) (n : ℕ) → cond b 0 n ≡ cond (not b) n 0
    by true n = refl
    by false n = refl

module _ (firsts seconds : List Interval) (d1 d2 : Delta) (set1 : IsSet firsts) (set2 : IsSet seconds) (is1 : IsDelta firsts d1) (is2 : IsDelta seconds d2) where
  -- what the first list lost with what the second one kept
  gone_kept : (w : Interval → Interval → ℕ) → first_sum w d2.come seconds d1.gone ≡ sum_by (λ i. sum_by (w i) (kept d2 seconds)) d1.gone
  gone_kept w = sum_alike (λ i. sum_by (unskipped d2.come (w i)) seconds) (λ i. sum_by (w i) (kept d2 seconds)) (λ i. kept_alone d2 (w i) seconds) d1.gone

  -- what the first list kept with some of the second one
  kept_with : (w : Interval → Interval → ℕ) (ones : List Interval) → second_sum w d1.come firsts ones ≡ sum_by (λ i. sum_by (w i) ones) (kept d1 firsts)
  kept_with w ones =
      sum_alike (λ j. sum_by (unskipped d1.come (λ i. w i j)) firsts) (λ j. sum_by (λ i. w i j) (kept d1 firsts)) (λ j. kept_alone d1 (λ i. w i j) firsts) ones
      ∙ sum_by_swap (λ j i. w i j) ones (kept d1 firsts)

  -- the pairs before are those of what was kept, and the lost ones
  pub sum_was : (w : Interval → Interval → ℕ)
      → pairs_sum w (record { firsts = before d1 firsts; seconds = before d2 seconds }) ≡ kept_sum w firsts seconds d1 d2 + lost_sum w firsts seconds d1 d2
  sum_was w =
      let outer = sum_before firsts d1 set1 is1 (λ i. sum_by (w i) (before d2 seconds)) in
      let inner : (is : List Interval) → sum_by (λ i. sum_by (w i) (before d2 seconds)) is ≡ sum_by (λ i. sum_by (w i) (kept d2 seconds)) is + sum_by (λ i. sum_by (w i) d2.gone) is =
      λ is. sum_alike (λ i. sum_by (w i) (before d2 seconds)) (λ i. sum_by (w i) (kept d2 seconds) + sum_by (w i) d2.gone) (λ i. sum_before seconds d2 set2 is2 (w i)) is
      ∙ sum_by_plus (λ i. sum_by (w i) (kept d2 seconds)) (λ i. sum_by (w i) d2.gone) is in
      let stay = inner (kept d1 firsts) in
      let go = inner d1.gone in
      let one = gone_kept w in
      let other = kept_with w d2.gone in
      omega arith

  -- the pairs now are those of what was kept, and the found ones
  pub sum_is : (w : Interval → Interval → ℕ)
      → pairs_sum w (record { firsts = firsts; seconds = seconds }) ≡ kept_sum w firsts seconds d1 d2 + found_sum w firsts seconds d1 d2
  sum_is w =
      let outer = sum_now firsts d1 set1 is1 (λ i. sum_by (w i) seconds) in
      let inner =
      sum_alike (λ i. sum_by (w i) seconds) (λ i. sum_by (w i) (kept d2 seconds) + sum_by (w i) d2.come) (λ i. sum_now seconds d2 set2 is2 (w i)) (kept d1 firsts)
      ∙ sum_by_plus (λ i. sum_by (w i) (kept d2 seconds)) (λ i. sum_by (w i) d2.come) (kept d1 firsts) in
      let other = kept_with w d2.come in
      omega arith

  -- ---- of the pairs that two other lists lack
  in_kept : (delta : Delta) (now : List Interval) (q : Interval) → has (kept delta now) q ≡ true → (has now q ≡ true) × (has (before delta now) q ≡ true)
  in_kept delta now q h =
      by (has delta.gone q) (has now q) (has delta.come q) (sym (has_filter (λ i. not (has delta.come i)) q now) ∙ h) (has_before delta now q)
    where
      by : (g n c : Bool) → (n && not c) ≡ true → has (before delta now) q ≡ (g || (n && not c)) → (n ≡ true) × (has (before delta now) q ≡ true)
      by true true false e f = (refl, f)
      by false true false e f = (refl, f)
      by g true true e f = absurd cc
      by g false c e f = absurd cc

  both_there : (a b : Bool) (n : ℕ) → a ≡ true → b ≡ true → cond (a && b) 0 n ≡ 0
  both_there true true n e f = refl
  both_there true false n e f = absurd cc
  both_there false b n e f = absurd cc

  first_absent : (a b : Bool) (n : ℕ) → a ≡ false → cond (a && b) 0 n ≡ n
  first_absent true b n e = absurd cc
  first_absent false b n e = refl

  second_absent : (a b : Bool) (n : ℕ) → b ≡ false → cond (a && b) 0 n ≡ n
  second_absent true true n e = absurd cc
  second_absent true false n e = refl
  second_absent false b n e = refl

  module _ (w : Interval → Interval → ℕ) (others : Sides) where
    kept_nothing : ((i : Interval) → has (kept d1 firsts) i ≡ true → has others.firsts i ≡ true) → ((j : Interval) → has (kept d2 seconds) j ≡ true → has others.seconds j ≡ true)
        → kept_sum (beyond w others) firsts seconds d1 d2 ≡ 0
    kept_nothing one two =
        sum_by_nothing (λ i. sum_by (beyond w others i) (kept d2 seconds)) (kept d1 firsts)
        (λ i h. sum_by_nothing (beyond w others i) (kept d2 seconds) (λ j k. both_there (has others.firsts i) (has others.seconds j) (w i j) (one i h) (two j k)))

    firsts_beyond : (skip seen ones : List Interval) → ((i : Interval) → has ones i ≡ true → has others.firsts i ≡ false) → first_sum (beyond w others) skip seen ones ≡ first_sum w skip seen ones
    firsts_beyond skip seen ones absent =
        sum_by_agree (λ i. sum_by (unskipped skip (beyond w others i)) seen) (λ i. sum_by (unskipped skip (w i)) seen) ones
        (λ i h. sum_alike (unskipped skip (beyond w others i)) (unskipped skip (w i))
        (λ j. ap (λ n. cond (has skip j) 0 n) (first_absent (has others.firsts i) (has others.seconds j) (w i j) (absent i h))) seen)

    seconds_beyond : (skip seen ones : List Interval) → ((j : Interval) → has ones j ≡ true → has others.seconds j ≡ false) → second_sum (beyond w others) skip seen ones ≡ second_sum w skip seen ones
    seconds_beyond skip seen ones absent =
        sum_by_agree (λ j. sum_by (unskipped skip (λ i. beyond w others i j)) seen) (λ j. sum_by (unskipped skip (λ i. w i j)) seen) ones
        (λ j h. sum_alike (unskipped skip (λ i. beyond w others i j)) (unskipped skip (λ i. w i j))
        (λ i. ap (λ n. cond (has skip i) 0 n) (second_absent (has others.firsts i) (has others.seconds j) (w i j) (absent j h))) seen)

  -- the touched pairs are the lost and the found ones
  pub touched_is : (w : Interval → Interval → ℕ)
      → touched_sum w (record { firsts = before d1 firsts; seconds = before d2 seconds }) (record { firsts = firsts; seconds = seconds })
      ≡ lost_sum w firsts seconds d1 d2 + found_sum w firsts seconds d1 d2
  touched_is w =
      let was : Sides = record { firsts = before d1 firsts; seconds = before d2 seconds } in
      let now : Sides = record { firsts = firsts; seconds = seconds } in
      let left = sum_was (beyond w now) in
      let arrived = sum_is (beyond w was) in
      let none = kept_nothing w now (λ i h. (in_kept d1 firsts i h).0) (λ j h. (in_kept d2 seconds j h).0) in
      let nothing = kept_nothing w was (λ i h. (in_kept d1 firsts i h).1) (λ j h. (in_kept d2 seconds j h).1) in
      let lost1 = firsts_beyond w now d2.come seconds d1.gone is1.gone_absent in
      let lost2 = firsts_beyond w now [] d2.gone d1.gone is1.gone_absent in
      let lost3 = seconds_beyond w now d1.come firsts d2.gone is2.gone_absent in
      let found1 = firsts_beyond w was [] seconds d1.come (absent_before firsts d1 set1 is1) in
      let found2 = seconds_beyond w was d1.come firsts d2.come (absent_before seconds d2 set2 is2) in
      omega arith
