-- How often intervals stand in lists.
use Rattle.std.proofs.Common.{◌≡◌, ℕ, ◌+◌, ◌<◌, Bool, true, false, cond, ◌||◌, not, ◌&&◌, List, [], ◌∷◌, ◌++◌, Option, Some, None, filter, filter_map, sum_by, length, take, get_or, refl, sym, ap, ◌∙◌, arith}
use Rattle.std.specs.Prelude.{flat_map, option_to_list}
use Rattle.std.specs.List.{cons_option}
use Rattle.std.proofs.lemmas.Bool.Decides.{nat_tests}
use Rattle.std.proofs.lemmas.List.Sums.{sum_by-cons, sum_by-append, sum_by_more, sum_by_more_le}
use Rattle.nf_core.specs.Intervals.{Interval, same}
use Rattle.nf_core.specs.Sets.{IsSet, has, once}
use Rattle.nf_core.specs.declared.intervals.Delta.{Delta}
use Rattle.nf_core.proofs.Public.SameIntervalLemmas.{same_self, same_swapped}
use Rattle.nf_core.proofs.Public.SetLemmas.{has_filter, has_once, IsSet-filter, IsSet-once, same_set}
use Rattle.nf_tally.specs.Numbers.{often, one_at, is_on, IsNet}

pub often-cons : (i : Interval) (is : List Interval) (q : Interval) → often (i ∷ is) q ≡ cond (same q i) 1 0 + often is q
often-cons i is q = sum_by-cons (λ x. cond (same q x) 1 0) i is

pub often-append : (is js : List Interval) (q : Interval) → often (is ++ js) q ≡ often is q + often js q
often-append is js q = sum_by-append (λ x. cond (same q x) 1 0) is js

-- once in a list of one
pub often-one : (i q : Interval) → often (i ∷ []) q ≡ one_at i q
often-one i q = often-cons i [] q ∙ ap (λ b. cond b 1 0 + 0) (same_swapped q i) ∙ omega arith

pub often_push : (is : List Interval) (i q : Interval) → often (is ++ i ∷ []) q ≡ often is q + one_at i q
often_push is i q = often-append is (i ∷ []) q ∙ ap (λ n. often is q + n) (often-one i q)

-- the items of a list up to a place, and the one at it
pub often_more : (is : List Interval) (k : ℕ) (i q : Interval) → k < length is → i ≡ get_or is k i → often (take (k + 1) is) q ≡ often (take k is) q + one_at i q
often_more is k i q within at =
    sum_by_more (λ x. cond (same q x) 1 0) is k i within ∙ ap (λ n. often (take k is) q + n) (ap (λ x. cond (same q x) 1 0) (sym at) ∙ ap (λ b. cond b 1 0) (same_swapped q i))

-- the one at a place stands there once more than in the items before
pub often_above : (is : List Interval) (k : ℕ) (i : Interval) → k < length is → i ≡ get_or is k i → often (take k is) i < often is i
often_above is k i within at =
    let most = sum_by_more_le (λ x. cond (same i x) 1 0) is k i within in
    let one : ◌≡◌ {A = ℕ} (cond (same i (get_or is k i)) 1 0) 1 = ap (λ x. cond (same i x) 1 0) (sym at) ∙ ap (λ b. cond b 1 0) (same_self i) in
    omega (arith, most, one)

-- what is made of each item, if anything
pub often-filter_map : {X : Type 0} (f : X → Option Interval) (xs : List X) (q : Interval)
    → often (filter_map f xs) q ≡ sum_by (λ x. often (option_to_list (f x)) q) xs
often-filter_map f [] q = refl
often-filter_map {X} f (x ∷ xs) q = by (f x) (often-filter_map f xs q) ∙ sym (sum_by-cons (λ (y : X). often (option_to_list (f y)) q) x xs)
  where
    rest : ℕ
    rest = sum_by (λ (y : X). often (option_to_list (f y)) q) xs

    by : (o : Option Interval) → often (filter_map f xs) q ≡ rest → often (cons_option o (filter_map f xs)) q ≡ often (option_to_list o) q + rest
    by (Some i) later = often-append (i ∷ []) (filter_map f xs) q ∙ ap (λ n. often (i ∷ []) q + n) later
    by None later = later ∙ omega arith

-- the lists that are made of each item
pub often-flat_map : {X : Type 0} (f : X → List Interval) (xs : List X) (q : Interval) → often (flat_map f xs) q ≡ sum_by (λ x. often (f x) q) xs
often-flat_map f [] q = refl
often-flat_map {X} f (x ∷ xs) q =
    often-append (f x) (flat_map f xs) q ∙ ap (λ n. often (f x) q + n) (often-flat_map f xs q) ∙ sym (sum_by-cons (λ (y : X). often (f y) q) x xs)

-- what is in a list stands there more often than never
pub has_often : (is : List Interval) (q : Interval) → has is q ≡ is_on (often is q)
has_often [] q = refl
has_often (i ∷ is) q = by (same q i) (has_often is q) ∙ sym (ap is_on (often-cons i is q))
  where
    by : (b : Bool) → has is q ≡ is_on (often is q) → (b || has is q) ≡ is_on (cond b 1 0 + often is q)
    by true later = grind (arith, nat_tests)
    by false later = later ∙ ap is_on (omega arith)

-- from the numbers of one list to those of another one: what the one has once and the other one lacks
pub net_is_delta : (xs ys : List Interval) (delta : Delta) → IsNet (often xs) (often ys) delta
    → (delta.gone ≡ filter (λ i. not (has (once ys) i)) (once xs)) × (delta.come ≡ filter (λ i. not (has (once xs) i)) (once ys))
net_is_delta xs ys delta net = (
  beyond xs ys delta.gone net.gone_set (λ q. net.gone q ∙ λ i. sym (has_often xs q) i && not (sym (has_often ys q) i)),
  beyond ys xs delta.come net.come_set (λ q. net.come q ∙ swapped (is_on (often xs q)) (is_on (often ys q)) ∙ λ i. sym (has_often ys q) i && not (sym (has_often xs q) i)),
)
  where
    swapped : (a b : Bool) → (not a && b) ≡ (b && not a)
    swapped true true = refl
    swapped true false = refl
    swapped false true = refl
    swapped false false = refl

    beyond : (is js list : List Interval) → IsSet list → ((q : Interval) → has list q ≡ (has is q && not (has js q))) → list ≡ filter (λ i. not (has (once js) i)) (once is)
    beyond is js list s members =
        same_set list (filter (λ i. not (has (once js) i)) (once is)) s (IsSet-filter (λ i. not (has (once js) i)) (once is) (IsSet-once is))
        (λ q. members q ∙ sym (has_filter (λ i. not (has (once js) i)) q (once is) ∙ λ i. has_once is q i && not (has_once js q i)))
