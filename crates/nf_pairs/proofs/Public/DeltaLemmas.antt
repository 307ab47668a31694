-- The list before a delta, the delta between two lists, and sums over lists that a delta ties.
use Rattle.std.proofs.Common.{◌≡◌, ℕ, ◌+◌, Bool, true, false, not, ◌&&◌, ◌||◌, List, [], ◌∷◌, length, filter, fold, sum_by, refl, ap, sym, ◌∙◌, arith}
use Rattle.std.proofs.lemmas.List.Filters.{sum_by-filter_both}
use Rattle.nf_core.specs.Intervals.{Interval, interval_cmp, interval_cmp_total, same}
use Rattle.nf_core.specs.Sets.{IsSet, has, inserted}
use Rattle.nf_core.specs.declared.intervals.Delta.{Delta}
use Rattle.nf_core.proofs.Public.AscendingLemmas.{IsStrictlySortedBy-fold}
use Rattle.nf_core.proofs.Public.SetLemmas.{has_inserted, has_filter, IsSet-filter, same_set}
use Rattle.nf_model.specs.Changes.{lacking, delta_of}
use Rattle.nf_model.specs.Work.{differing}
use Rattle.nf_pairs.specs.Deltas.{IsDelta, before}
use Rattle.nf_pairs.specs.inner.Walks.{kept}

-- ---- the list before a delta
-- intervals put in one by one
has_entered : (is all : List Interval) (q : Interval) → has (fold (λ set i. inserted i set) all is) q ≡ (has is q || has all q)
has_entered [] all q = refl
has_entered (x ∷ xs) all q =
    has_entered xs (inserted x all) q ∙ ap (λ b. has xs q || b) (has_inserted x all q) ∙ turned (has xs q) (same q x) (has all q)
  where
    turned : (a b c : Bool) → (a || (b || c)) ≡ ((b || a) || c)
    turned true true c = refl
    turned true false c = refl
    turned false true c = refl
    turned false false c = refl

-- what was there: what went, and what is there and didn't come
pub has_before : (delta : Delta) (now : List Interval) (q : Interval) → has (before delta now) q ≡ (has delta.gone q || (has now q && not (has delta.come q)))
has_before delta now q =
    has_entered delta.gone (kept delta now) q ∙ ap (λ b. has delta.gone q || b) (has_filter (λ i. not (has delta.come i)) q now)

pub IsSet-kept : (delta : Delta) (now : List Interval) → IsSet now → IsSet (kept delta now)
IsSet-kept delta now s = IsSet-filter (λ i. not (has delta.come i)) now s

pub IsSet-before : (delta : Delta) (now : List Interval) → IsSet now → IsSet (before delta now)
IsSet-before delta now s = IsStrictlySortedBy-fold interval_cmp interval_cmp_total delta.gone (kept delta now) (IsSet-kept delta now s)

-- ---- what a delta ties
-- what went isn't there now, and what came is
module _ (g n c : Bool) (absent : g ≡ true → n ≡ false) (there : c ≡ true → n ≡ true) where
  came : (n && c) ≡ c
  came = by g n c absent there
    where
      by : (a b d : Bool) → (a ≡ true → b ≡ false) → (d ≡ true → b ≡ true) → (b && d) ≡ d
      by a true d f h = refl
      by a false true f h = absurd (let e = h refl in cc)
      by a false false f h = refl

  went : ((g || (n && not c)) && g) ≡ g
  went = by g (n && not c)
    where
      by : (a b : Bool) → ((a || b) && a) ≡ a
      by true b = refl
      by false true = refl
      by false false = refl

  stayed : ((g || (n && not c)) && not g) ≡ (n && not c)
  stayed = by g n c absent
    where
      by : (a b d : Bool) → (a ≡ true → b ≡ false) → ((a || (b && not d)) && not a) ≡ (b && not d)
      by true true d f = absurd (let e = f refl in cc)
      by true false d f = refl
      by false true true f = refl
      by false true false f = refl
      by false false d f = refl

  lost : ((g || (n && not c)) && not n) ≡ g
  lost = by g n c absent
    where
      by : (a b d : Bool) → (a ≡ true → b ≡ false) → ((a || (b && not d)) && not b) ≡ a
      by true true d f = absurd (let e = f refl in cc)
      by true false d f = refl
      by false true true f = refl
      by false true false f = refl
      by false false d f = refl

  found : (n && not (g || (n && not c))) ≡ c
  found = by g n c absent there
    where
      by : (a b d : Bool) → (a ≡ true → b ≡ false) → (d ≡ true → b ≡ true) → (b && not (a || (b && not d))) ≡ d
      by true true d f h = absurd (let e = f refl in cc)
      by false true true f h = refl
      by false true false f h = refl
      by a false true f h = absurd (let e = h refl in cc)
      by a false false f h = refl

  newcomer : c ≡ true → (g || (n && not c)) ≡ false
  newcomer h = by g n c absent there h
    where
      by : (a b d : Bool) → (a ≡ true → b ≡ false) → (d ≡ true → b ≡ true) → d ≡ true → (a || (b && not d)) ≡ false
      by true true d f h e = absurd (let k = f refl in cc)
      by true false true f h e = absurd (let k = h refl in cc)
      by false true true f h e = refl
      by false false true f h e = refl
      by a b false f h e = absurd cc

module _ (now : List Interval) (delta : Delta) (sorted : IsSet now) (is : IsDelta now delta) where
  -- what came wasn't there before
  pub absent_before : (q : Interval) → has delta.come q ≡ true → has (before delta now) q ≡ false
  absent_before q come =
      has_before delta now q ∙ newcomer (has delta.gone q) (has now q) (has delta.come q) (is.gone_absent q) (is.come_there q) come

  -- the list now is what it kept, and what came
  pub sum_now : (f : Interval → ℕ) → sum_by f now ≡ sum_by f (kept delta now) + sum_by f delta.come
  sum_now f =
      let there : filter (has delta.come) now ≡ delta.come =
      same_set (filter (has delta.come) now) delta.come (IsSet-filter (has delta.come) now sorted) is.come_set
      (λ q. has_filter (has delta.come) q now ∙ came (has delta.gone q) (has now q) (has delta.come q) (is.gone_absent q) (is.come_there q)) in
      let parts = sum_by-filter_both (has delta.come) (λ i. not (has delta.come i)) (λ i. refl) f now in
      let come = ap (sum_by f) there in
      omega arith

  -- the list before is what it kept, and what went
  pub sum_before : (f : Interval → ℕ) → sum_by f (before delta now) ≡ sum_by f (kept delta now) + sum_by f delta.gone
  sum_before f =
      let was = before delta now in
      let set = IsSet-before delta now sorted in
      let left : filter (has delta.gone) was ≡ delta.gone =
      same_set (filter (has delta.gone) was) delta.gone (IsSet-filter (has delta.gone) was set) is.gone_set
      (λ q. has_filter (has delta.gone) q was ∙ ap (λ b. b && has delta.gone q) (has_before delta now q)
      ∙ went (has delta.gone q) (has now q) (has delta.come q) (is.gone_absent q) (is.come_there q)) in
      let rest : filter (λ i. not (has delta.gone i)) was ≡ kept delta now =
      same_set (filter (λ i. not (has delta.gone i)) was) (kept delta now) (IsSet-filter (λ i. not (has delta.gone i)) was set) (IsSet-kept delta now sorted)
      (λ q. has_filter (λ i. not (has delta.gone i)) q was ∙ ap (λ b. b && not (has delta.gone q)) (has_before delta now q)
      ∙ stayed (has delta.gone q) (has now q) (has delta.come q) (is.gone_absent q) (is.come_there q)
      ∙ sym (has_filter (λ i. not (has delta.come i)) q now)) in
      let parts = sum_by-filter_both (has delta.gone) (λ i. not (has delta.gone i)) (λ i. refl) f was in
      let gone = ap (sum_by f) left in
      let stay = ap (sum_by f) rest in
      omega arith

  -- what went is what the list before has beyond the list now
  pub gone_is : lacking (before delta now) now ≡ delta.gone
  gone_is =
      same_set (lacking (before delta now) now) delta.gone (IsSet-filter (λ i. not (has now i)) (before delta now) (IsSet-before delta now sorted)) is.gone_set
      (λ q. has_filter (λ i. not (has now i)) q (before delta now) ∙ ap (λ b. b && not (has now q)) (has_before delta now q)
      ∙ lost (has delta.gone q) (has now q) (has delta.come q) (is.gone_absent q) (is.come_there q))

  -- what came is what the list now has beyond the list before
  pub come_is : lacking now (before delta now) ≡ delta.come
  come_is =
      same_set (lacking now (before delta now)) delta.come (IsSet-filter (λ i. not (has (before delta now) i)) now sorted) is.come_set
      (λ q. has_filter (λ i. not (has (before delta now) i)) q now ∙ ap (λ b. has now q && not b) (has_before delta now q)
      ∙ found (has delta.gone q) (has now q) (has delta.come q) (is.gone_absent q) (is.come_there q))

  -- as many differ as went and came
  pub differing_is : differing (before delta now) now ≡ length delta.gone + length delta.come
  differing_is = ap (λ (js : List Interval). length js + length (lacking now (before delta now))) gone_is ∙ ap (λ (js : List Interval). length delta.gone + length js) come_is

-- ---- the delta between two lists
only_one : (a b : Bool) → (a && not b) ≡ true → (a ≡ true) × (b ≡ false)
only_one true true e = absurd cc
only_one true false e = (refl, refl)
only_one false b e = absurd cc

module _ (old now : List Interval) (was : IsSet old) (is : IsSet now) where
  -- it led to the second one
  pub delta_of_is_delta : IsDelta now (delta_of old now)
  delta_of_is_delta = record {
    gone_set = IsSet-filter (λ i. not (has now i)) old was;
    come_set = IsSet-filter (λ i. not (has old i)) now is;
    gone_absent = λ q h. (only_one (has old q) (has now q) (sym (has_filter (λ i. not (has now i)) q old) ∙ h)).1;
    come_there = λ q h. (only_one (has now q) (has old q) (sym (has_filter (λ i. not (has old i)) q now) ∙ h)).0;
  }

  -- from the first one
  pub before_delta_of : before (delta_of old now) now ≡ old
  before_delta_of =
      same_set (before (delta_of old now) now) old (IsSet-before (delta_of old now) now is) was
      (λ q. has_before (delta_of old now) now q ∙ ap (λ b. b || (has now q && not (has (lacking now old) q))) (has_filter (λ i. not (has now i)) q old)
      ∙ ap (λ b. (has old q && not (has now q)) || (has now q && not b)) (has_filter (λ i. not (has old i)) q now)
      ∙ by (has old q) (has now q))
    where
      by : (a b : Bool) → ((a && not b) || (b && not (b && not a))) ≡ a
      by true true = refl
      by true false = refl
      by false true = refl
      by false false = refl
