-- Intervals that compare equal are the same.
use Rattle.std.proofs.Common.{◌≡◌, Bool, true, false, List, [], ◌∷◌, Option, Some, None, refl, ap, ◌∙◌}
use Rattle.std.specs.declared.cmp.Ordering.{Ordering}
use Rattle.std.specs.declared.cmp.Ordering.TheVariants.{Less, Equal, Greater}
use Rattle.std.specs.Ordering.{bool_cmp, is_eq, ordering_then, ordering_reverse}
use Rattle.std.specs.Option.{option_cmp}
use Rattle.std.proofs.lemmas.Map.Lookups.{exact_bytes, exact_signed}
use Rattle.nf_core.specs.Values.{value_cmp}
use Rattle.nf_core.specs.Rows.{row_cmp}
use Rattle.nf_core.specs.Intervals.{Interval, interval_cmp, interval_cmp_total, same}
use Rattle.nf_core.specs.declared.values.Value.{Value}
use Rattle.nf_core.specs.declared.values.Value.TheVariants as v

-- two comparisons, the second one where the first finds no difference, find none together where neither does
pub both_equal : (a b : Ordering) → ordering_then a b ≡ Equal → (a ≡ Equal) × (b ≡ Equal)
both_equal Less b e = absurd cc
both_equal Equal b e = (refl, e)
both_equal Greater b e = absurd cc

exact_truth : (a b : Bool) → bool_cmp a b ≡ Equal → a ≡ b
exact_truth false false e = refl
exact_truth false true e = absurd cc
exact_truth true false e = absurd cc
exact_truth true true e = refl

exact_value : (x y : Value) → value_cmp x y ≡ Equal → x ≡ y
exact_value (v.Bool a) (v.Bool b) e = ap v.Bool (exact_truth a b e)
exact_value (v.Bool a) (v.Int n) e = absurd cc
exact_value (v.Bool a) (v.Text t) e = absurd cc
exact_value (v.Int n) (v.Bool b) e = absurd cc
exact_value (v.Int m) (v.Int n) e = ap v.Int (exact_signed m n e)
exact_value (v.Int n) (v.Text t) e = absurd cc
exact_value (v.Text s) (v.Bool b) e = absurd cc
exact_value (v.Text s) (v.Int n) e = absurd cc
exact_value (v.Text s) (v.Text t) e = ap v.Text (exact_bytes s t e)

exact_cell : (x y : Option Value) → option_cmp value_cmp x y ≡ Equal → x ≡ y
exact_cell None None e = refl
exact_cell None (Some y) e = absurd cc
exact_cell (Some x) None e = absurd cc
exact_cell (Some x) (Some y) e = ap Some (exact_value x y e)

exact_row : (xs ys : List (Option Value)) → row_cmp xs ys ≡ Equal → xs ≡ ys
exact_row [] [] e = refl
exact_row [] (y ∷ ys) e = absurd cc
exact_row (x ∷ xs) [] e = absurd cc
exact_row (x ∷ xs) (y ∷ ys) e =
    let parts = both_equal (option_cmp value_cmp x y) (row_cmp xs ys) e in
    let first = exact_cell x y parts.0 in
    let later = exact_row xs ys parts.1 in
    λ i. first i ∷ later i

pub exact_interval : (i j : Interval) → interval_cmp i j ≡ Equal → i ≡ j
exact_interval i j e =
    let by_start = both_equal _ _ e in
    let by_stop = both_equal _ _ by_start.1 in
    let start = exact_signed i.start j.start by_start.0 in
    let stop = exact_signed i.stop j.stop by_stop.0 in
    let row = exact_row i.row j.row by_stop.1 in
    λ k. record { start = start k; stop = stop k; row = row k }

pub is_equal : (o : Ordering) → is_eq o ≡ true → o ≡ Equal
is_equal Less e = absurd cc
is_equal Equal e = refl
is_equal Greater e = absurd cc

-- the same interval is an equal one
pub same_is : (i j : Interval) → same i j ≡ true → i ≡ j
same_is i j e = exact_interval i j (is_equal (interval_cmp i j) e)

-- an interval is the same as itself
pub same_self : (i : Interval) → same i i ≡ true
same_self i = ap is_eq (even (interval_cmp i i) (interval_cmp_total.antisymm i i))
  where
    even : (o : Ordering) → o ≡ ordering_reverse o → o ≡ Equal
    even Less e = absurd cc
    even Equal e = refl
    even Greater e = absurd cc

-- and it doesn't matter which one is named first
pub same_swapped : (i j : Interval) → same i j ≡ same j i
same_swapped i j = ap is_eq (interval_cmp_total.antisymm i j) ∙ turned (interval_cmp j i)
  where
    turned : (o : Ordering) → is_eq (ordering_reverse o) ≡ is_eq o
    turned Less = refl
    turned Equal = refl
    turned Greater = refl
