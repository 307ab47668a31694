-- The intervals that begin before a time stand first.
use Rattle.std.proofs.Common.{◌≡◌, ℤ, Bool, true, false, cond, not, ◌||◌, List, [], ◌∷◌, filter, refl, sym, ap, subst, ◌∙◌, true≢false, arith}
use Rattle.std.specs.Prelude.{int_lt, Option, Some, None, IfSome}
use Rattle.std.specs.declared.cmp.Ordering.TheVariants.{Less, Equal, Greater}
use Rattle.std.specs.Ordering.{is_eq, int_cmp, ordering_then}
use Rattle.std.specs.List.{list_any, AllByRecursion}
use Rattle.std.specs.List.Sorted.{IsStrictlySortedBy}
use Rattle.std.proofs.lemmas.Int.{ints}
use Rattle.std.proofs.lemmas.List.Elements.{All-from_recursion, All-weaker}
use Rattle.std.proofs.lemmas.List.Folds.{list_any_none}
use Rattle.nf_core.specs.Rows.{row_cmp}
use Rattle.nf_core.specs.Intervals.{Interval, interval_cmp, same}
use Rattle.nf_core.specs.Sets.{IsSet, has, inserted}

abbrev pub is_before : ℤ → Interval → Bool
is_before time i = int_lt i.start time

not_earlier : (x y : Interval) → interval_cmp x y ≡ Less → int_lt y.start x.start ≡ false
not_earlier x y e = by (int_lt y.start x.start) (int_lt x.start y.start) refl refl
  where
    by : (b c : Bool) → int_lt y.start x.start ≡ b → int_lt x.start y.start ≡ c → int_lt y.start x.start ≡ false
    by true true f g = absurd (true≢false (sym g ∙ backward f))
      where
        backward : int_lt y.start x.start ≡ true → int_lt x.start y.start ≡ false
        backward h = grind (arith, ints, h)
    by true false f g = absurd (differ (sym (λ k. ordering_then (cond (g k) Less (cond (f k) Greater Equal)) (ordering_then (int_cmp x.stop y.stop) (row_cmp x.row y.row))) ∙ e))
      where
        differ : Greater ≡ Less → ⊥
        differ h = cc
    by false c f g = f

still_later : (t m n : ℤ) → int_lt m t ≡ false → int_lt n m ≡ false → int_lt n t ≡ false
still_later t m n e f = grind (arith, ints, e, f)

none_before : (time : ℤ) (x : Interval) → int_lt x.start time ≡ false → (xs : List Interval) → AllByRecursion (λ y. interval_cmp x y ≡ Less) xs → list_any (is_before time) xs ≡ false
none_before time x late [] all = refl
none_before time x late (y ∷ ys) all = λ k. still_later time x.start y.start late (not_earlier x y all.0) k || none_before time x late ys all.1 k

-- the first interval tells whether one begins before a time
pub first_tells : (time : ℤ) (x : Interval) (xs : List Interval) → IsSet (x ∷ xs) → list_any (is_before time) (x ∷ xs) ≡ int_lt x.start time
unfolding IsStrictlySortedBy
first_tells time x xs s = by (int_lt x.start time) refl
  where
    by : (b : Bool) → int_lt x.start time ≡ b → (b || list_any (is_before time) xs) ≡ b
    by true e = refl
    by false e = none_before time x e xs s.0

-- where none does all are kept
pub all_kept : (time : ℤ) (is : List Interval) → list_any (is_before time) is ≡ false → filter (λ i. not (is_before time i)) is ≡ is
all_kept time [] e = refl
all_kept time (x ∷ xs) e = by (is_before time x) refl (all_kept time xs)
  where
    by : (b : Bool) → is_before time x ≡ b → (list_any (is_before time) xs ≡ false → filter (λ i. not (is_before time i)) xs ≡ xs)
        → cond (not b) (x ∷ filter (λ i. not (is_before time i)) xs) (filter (λ i. not (is_before time i)) xs) ≡ x ∷ xs
    by true f later = absurd (true≢false (sym (ap (λ b. b || list_any (is_before time) xs) f) ∙ e))
    by false f later = ap (λ ys. x ∷ ys) (later (sym (ap (λ b. b || list_any (is_before time) xs) f) ∙ e))

-- the first interval goes back in front
pub front_inserted : (x : Interval) (xs : List Interval) → IsSet (x ∷ xs) → inserted x xs ≡ x ∷ xs
unfolding IsStrictlySortedBy
front_inserted x [] s = refl
front_inserted x (y ∷ ys) s = rw s.0.0 refl

pub front_absent : (x : Interval) (xs : List Interval) → IsSet (x ∷ xs) → has xs x ≡ false
unfolding IsStrictlySortedBy
front_absent x xs s = list_any_none (same x) xs (All-weaker (λ y. interval_cmp x y ≡ Less) (λ y. same x y ≡ false) (λ y h. ap is_eq h) xs (All-from_recursion _ xs s.0))

-- what is popped begins before the time if any does
pub popped : (time : ℤ) (r : Option Interval) (old rest : List Interval) → IfSome r (λ i. old ≡ i ∷ rest) → IsSet old → list_any (is_before time) old ≡ true → IfSome r (λ i. int_lt i.start time ≡ true)
popped time None old rest h s any = tt
popped time (Some i) old rest h s any = sym (first_tells time i rest (subst IsSet h s)) ∙ ap (list_any (is_before time)) (sym h) ∙ any
