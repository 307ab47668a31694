-- Places in the order by begin.
use Rattle.std.proofs.Common.{◌≡◌, Bool, true, false, cond, not, ◌&&◌, ◌||◌, List, [], ◌∷◌, filter, Option, Some, None, refl, sym, ap, ◌∙◌, true≢false, Bor, arith}
use Rattle.std.specs.declared.cmp.Ordering.{Ordering}
use Rattle.std.specs.declared.cmp.Ordering.TheVariants.{Less, Equal, Greater}
use Rattle.std.specs.Ordering.{is_lt, is_le, ordering_reverse, ordering_then, int_cmp}
use Rattle.std.specs.Cmp.{int_cmp_total}
use Rattle.std.specs.List.{list_any}
use Rattle.std.specs.Option.{is_some, option_copied}
use Rattle.nf_core.specs.Rows.{row_cmp}
use Rattle.nf_core.specs.Intervals.{Interval, interval_cmp, interval_cmp_total, same}
use Rattle.nf_core.specs.Sets.{has}
use Rattle.nf_core.specs.declared.values.Value.{Value}
use Rattle.nf_core.proofs.Public.SameIntervalLemmas.{exact_interval, same_self}
use Rattle.nf_index.specs.declared.times.Times.{Times}
use Rattle.std.specs.Prelude.{int_lt}
use Rattle.std.proofs.lemmas.Int.{ints}
use Rattle.nf_core.specs.Texts.{int_greatest}
use Rattle.nf_index.specs.inner.Orders.{key_of, reached, is_between, times_of, has_times, IsStored}
use Rattle.nf_index.proofs.FallLemmas.{first_of}
use Rattle.nf_index.proofs.IndexLemmas.{same_end_is}

-- a test that nothing passes keeps nothing
pub filter_never : (p : Interval → Bool) → ((i : Interval) → p i ≡ false) → (is : List Interval) → filter p is ≡ []
filter_never p never [] = refl
filter_never p never (i ∷ is) = ap (λ b. cond b (i ∷ filter p is) (filter p is)) (never i) ∙ filter_never p never is

pub nothing_between : (k : Interval) (is : List Interval) → filter (λ q. is_le (interval_cmp k q) && not (is_le (interval_cmp k q))) is ≡ []
nothing_between k is = filter_never _ (λ i. never (is_le (interval_cmp k i))) is
  where
    never : (b : Bool) → (b && not b) ≡ false
    never true = refl
    never false = refl

-- what is at or after a place is at or after an earlier one
later_reached : (j k i : Interval) → is_lt (interval_cmp j k) ≡ true → is_le (interval_cmp k i) ≡ true → is_le (interval_cmp j i) ≡ true
later_reached j k i before after = by (interval_cmp j k) (interval_cmp k i) refl refl
  where
    by : (o p : Ordering) → interval_cmp j k ≡ o → interval_cmp k i ≡ p → is_le (interval_cmp j i) ≡ true
    by Less Less e f = ap is_le (interval_cmp_total.trans j k i e f)
    by Less Equal e f = ap is_le (ap (interval_cmp j) (sym (exact_interval k i f)) ∙ e)
    by Less Greater e f = absurd (true≢false (sym after ∙ ap is_le f))
    by Equal p e f = absurd (true≢false (sym before ∙ ap is_lt e))
    by Greater p e f = absurd (true≢false (sym before ∙ ap is_lt e))

pub backward_between : (t u : Times) → is_lt (interval_cmp (key_of u) (key_of t)) ≡ true → (is : List Interval) → filter (is_between (Some t) (Some u)) is ≡ []
backward_between t u before is = filter_never _ (λ i. never i (reached (Some t) i) (reached (Some u) i) refl refl) is
  where
    never : (i : Interval) (a b : Bool) → reached (Some t) i ≡ a → reached (Some u) i ≡ b → (reached (Some t) i && not (reached (Some u) i)) ≡ false
    never i true true e f = rw (e, f) refl
    never i true false e f = absurd (true≢false (sym (later_reached (key_of u) (key_of t) i before e) ∙ f))
    never i false b e f = rw e refl

-- two tests that the members pass alike keep the same
pub filter_members : (p q : Interval → Bool) (is : List Interval) → ((i : Interval) → has is i ≡ true → p i ≡ q i) → filter p is ≡ filter q is
filter_members p q [] alike = refl
filter_members p q (x ∷ xs) alike =
    let here : p x ≡ q x = alike x (ap (λ b. b || has xs x) (same_self x)) in
    let later : filter p xs ≡ filter q xs = filter_members p q xs (λ i there. alike i (either (same i x) (has xs i) there)) in
    λ k. cond (here k) (x ∷ later k) (later k)
  where
    either : (a b : Bool) → b ≡ true → (a || b) ≡ true
    either true b e = refl
    either false b e = e

-- an interval is at the place that its times are
own_place : (i : Interval) → reached (Some (times_of i)) i ≡ true
own_place i = even (int_cmp i.start i.start) (int_cmp i.stop i.stop) (int_cmp_total.antisymm i.start i.start) (int_cmp_total.antisymm i.stop i.stop) (row_cmp [] i.row) (first i.row)
  where
    first : (row : List (Option Value)) → is_le (row_cmp [] row) ≡ true
    first [] = refl
    first (x ∷ xs) = refl

    even : (o p : Ordering) → o ≡ ordering_reverse o → p ≡ ordering_reverse p → (q : Ordering) → is_le q ≡ true → is_le (ordering_then o (ordering_then p q)) ≡ true
    even Less p e f q h = absurd cc
    even Equal Less e f q h = absurd cc
    even Equal Equal e f q h = h
    even Equal Greater e f q h = absurd cc
    even Greater p e f q h = absurd cc

pub times_reached : (t : Times) (i : Interval) → has_times t i ≡ true → reached (Some t) i ≡ true
times_reached t i e = ap (λ u. reached (Some u) i) (same_end_is t (times_of i) e) ∙ own_place i

-- what is from some times on and not after them has them
pub between_times : (t : Times) (later : Option Times) (i : Interval) → reached later i ≡ (reached (Some t) i && not (has_times t i)) → is_between (Some t) later i ≡ has_times t i
between_times t later i e = ap (λ b. reached (Some t) i && not b) e ∙ by (reached (Some t) i) (has_times t i) (times_reached t i)
  where
    by : (a b : Bool) → (b ≡ true → a ≡ true) → (a && not (a && not b)) ≡ b
    by true true h = refl
    by true false h = refl
    by false true h = absurd (true≢false (sym (h refl)))
    by false false h = refl

-- a part of a list that a test makes has a first one where the list passes the test
pub first_passes : (p : Interval → Bool) (is : List Interval) → is_some (first_of (filter p is)) ≡ list_any p is
first_passes p [] = refl
first_passes p (x ∷ xs) = by (p x) refl (first_passes p xs)
  where
    by : (b : Bool) → p x ≡ b → is_some (first_of (filter p xs)) ≡ list_any p xs → is_some (first_of (cond b (x ∷ filter p xs) (filter p xs))) ≡ (b || list_any p xs)
    by true e rest = refl
    by false e rest = rest

-- what is lent is there where what it points to is
pub some_alike : (r : Option (Bor Interval)) → is_some r ≡ is_some (option_copied r)
some_alike None = refl
some_alike (Some x) = refl

-- no interval ends after the greatest time
pub past_times : (t : Times) (i : Interval) → IsStored i → int_lt t.stop int_greatest ≡ false → int_lt t.start i.start ≡ (reached (Some t) i && not (has_times t i))
past_times t i h late = by i.row (row_cmp [] i.row) (first i.row)
  where
    first : (row : List (Option Value)) → is_le (row_cmp [] row) ≡ true
    first [] = refl
    first (x ∷ xs) = refl

    by : (row : List (Option Value)) (o : Ordering) → is_le o ≡ true
        → int_lt t.start i.start ≡ (is_le (ordering_then (int_cmp t.start i.start) (ordering_then (int_cmp t.stop i.stop) o)) && not (has_times t i))
    by row Less e = grind (arith, ints, h.most, late)
    by row Equal e = grind (arith, ints, h.most, late)
    by row Greater e = absurd cc
