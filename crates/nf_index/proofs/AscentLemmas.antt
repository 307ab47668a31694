-- Where ends fall nowhere, the two orders are one.
use Rattle.std.proofs.Common.{◌≡◌, ℤ, ℕ, ◌+◌, Bool, true, false, cond, not, ◌&&◌, ◌||◌, List, [], ◌∷◌, Option, Some, refl, sym, ap, ◌∙◌, true≢false, arith}
use Rattle.std.specs.Prelude.{int_lt}
use Rattle.std.specs.declared.cmp.Ordering.{Ordering}
use Rattle.std.specs.declared.cmp.Ordering.TheVariants.{Less, Equal, Greater}
use Rattle.std.specs.Ordering.{is_eq, is_le, is_lt, int_cmp, ordering_then}
use Rattle.std.specs.List.{AllByRecursion}
use Rattle.std.specs.List.Sorted.{IsStrictlySortedBy}
use Rattle.std.proofs.lemmas.Int.{ints}
use Rattle.nf_core.specs.Rows.{row_cmp}
use Rattle.nf_core.specs.declared.values.Value.{Value}
use Rattle.nf_core.specs.Intervals.{Interval, interval_cmp, interval_cmp_total, same}
use Rattle.nf_core.specs.Sets.{IsSet, has}
use Rattle.nf_core.proofs.Public.SameIntervalLemmas.{same_is, same_self, same_swapped, is_equal}
use Rattle.nf_index.specs.inner.Orders.{falls, falls_from, times_cmp, times_of, reached}

-- ---- ends ascend
no_fall : (m n : ℤ) (k : ℕ) → cond (int_lt n m) 1 0 + k ≡ 0 → int_lt n m ≡ false
no_fall m n k e = by (int_lt n m) e
  where
    by : (b : Bool) → cond b 1 0 + k ≡ 0 → b ≡ false
    by true h = absurd (omega (arith, h))
    by false h = refl

rest_none : (j k : ℕ) → j + k ≡ 0 → k ≡ 0
rest_none j k e = omega (arith, e)

risen : (l m n : ℤ) → int_lt m l ≡ false → int_lt n m ≡ false → int_lt n l ≡ false
risen l m n h g = grind (arith, ints, h, g)

-- no later interval ends before the first
later_ends : (x : Interval) (xs : List Interval) → falls_from x xs ≡ 0 → (i : Interval) → has xs i ≡ true → int_lt i.stop x.stop ≡ false
unfolding falls_from
later_ends x [] none i there = absurd (true≢false (sym there))
later_ends x (y ∷ ys) none i there = by (same i y) refl (later_ends y ys (rest_none _ _ none) i)
  where
    first : int_lt y.stop x.stop ≡ false
    first = no_fall x.stop y.stop (falls_from y ys) none

    by : (b : Bool) → same i y ≡ b → (has ys i ≡ true → int_lt i.stop y.stop ≡ false) → int_lt i.stop x.stop ≡ false
    by true e rest = ap (λ j. int_lt j.stop x.stop) (same_is i y e) ∙ first
    by false e rest = risen x.stop y.stop i.stop first (rest (sym (ap (λ b. b || has ys i) e) ∙ there))

none_later : (x : Interval) (xs : List Interval) → falls_from x xs ≡ 0 → falls xs ≡ 0
unfolding falls falls_from
none_later x [] none = refl
none_later x (y ∷ ys) none = rest_none _ _ none

after_first : (x : Interval) (xs : List Interval) → AllByRecursion (λ y. interval_cmp x y ≡ Less) xs → (i : Interval) → has xs i ≡ true → interval_cmp x i ≡ Less
after_first x [] all i there = absurd (true≢false (sym there))
after_first x (y ∷ ys) all i there = by (same i y) refl (after_first x ys all.1 i)
  where
    by : (b : Bool) → same i y ≡ b → (has ys i ≡ true → interval_cmp x i ≡ Less) → interval_cmp x i ≡ Less
    by true e rest = ap (interval_cmp x) (same_is i y e) ∙ all.0
    by false e rest = rest (sym (ap (λ b. b || has ys i) e) ∙ there)

-- of two intervals the later one doesn't end before the earlier
pub ascending : (is : List Interval) → IsSet is → falls is ≡ 0 → (i j : Interval) → has is i ≡ true → has is j ≡ true → interval_cmp i j ≡ Less → int_lt j.stop i.stop ≡ false
unfolding falls IsStrictlySortedBy
ascending [] s none i j at_i at_j before = absurd (true≢false (sym at_i))
ascending (x ∷ xs) s none i j at_i at_j before = by (same i x) (same j x) refl refl (ascending xs s.1 (none_later x xs none) i j)
  where
    by : (b c : Bool) → same i x ≡ b → same j x ≡ c → (has xs i ≡ true → has xs j ≡ true → interval_cmp i j ≡ Less → int_lt j.stop i.stop ≡ false) → int_lt j.stop i.stop ≡ false
    by true true e f rest =
        absurd (true≢false (sym f ∙ ap (λ k. same j k) (sym (same_is i x e)) ∙ same_swapped j i ∙ ap is_eq before))
    by true false e f rest =
        ap (λ k. int_lt j.stop k.stop) (same_is i x e) ∙ later_ends x xs none j (sym (ap (λ b. b || has xs j) f) ∙ at_j)
    by false true e f rest =
        let early : interval_cmp x i ≡ Less = after_first x xs s.0 i (sym (ap (λ b. b || has xs i) e) ∙ at_i) in
        let late : interval_cmp i x ≡ Less = ap (interval_cmp i) (sym (same_is j x f)) ∙ before in
        absurd (true≢false (sym (ap is_lt (interval_cmp_total.trans x i x early late)) ∙ ap is_lt (self x)))
      where
        self : (k : Interval) → interval_cmp k k ≡ Equal
        self k = is_equal (interval_cmp k k) (same_self k)
    by false false e f rest = rest (sym (ap (λ b. b || has xs i) e) ∙ at_i) (sym (ap (λ b. b || has xs j) f) ∙ at_j) before

-- ---- the two orders agree
reached_is : (m i : Interval) → reached (Some (times_of m)) i ≡ (int_lt m.start i.start || (not (int_lt i.start m.start) && not (int_lt i.stop m.stop)))
reached_is m i = by (row_cmp [] i.row) (first i.row)
  where
    first : (row : List (Option Value)) → is_le (row_cmp [] row) ≡ true
    first [] = refl
    first (x ∷ xs) = refl

    by : (o : Ordering) → is_le o ≡ true
        → is_le (ordering_then (int_cmp m.start i.start) (ordering_then (int_cmp m.stop i.stop) o)) ≡ (int_lt m.start i.start || (not (int_lt i.start m.start) && not (int_lt i.stop m.stop)))
    by Less e = grind (arith, ints)
    by Equal e = grind (arith, ints)
    by Greater e = absurd cc

earlier : (m i : Interval) → int_lt m.start i.start ≡ true → interval_cmp m i ≡ Less
earlier m i e = ap (λ b. ordering_then (cond b Less (cond (int_lt i.start m.start) Greater Equal)) (ordering_then (int_cmp m.stop i.stop) (row_cmp m.row i.row))) e

pub orders_agree : (is : List Interval) → IsSet is → falls is ≡ 0 → (m i : Interval) → has is m ≡ true → has is i ≡ true → reached (Some (times_of m)) i ≡ is_le (times_cmp (times_of m) (times_of i))
orders_agree is s none m i at_m at_i = reached_is m i ∙ by (int_lt m.start i.start) (int_lt i.start m.start) refl refl
  where
    by : (a b : Bool) → int_lt m.start i.start ≡ a → int_lt i.start m.start ≡ b
        → (int_lt m.start i.start || (not (int_lt i.start m.start) && not (int_lt i.stop m.stop))) ≡ is_le (times_cmp (times_of m) (times_of i))
    by true b e f = let up : int_lt i.stop m.stop ≡ false = ascending is s none m i at_m at_i (earlier m i e) in grind (arith, ints, e, up)
    by false true e f = let up : int_lt m.stop i.stop ≡ false = ascending is s none i m at_i at_m (earlier i m f) in grind (arith, ints, e, f, up)
    by false false e f = grind (arith, ints, e, f)
