-- Parts of a store lose nothing of what a test keeps.
use Rattle.std.proofs.Common.{◌≡◌, ℤ, ℕ, Bool, true, false, cond, not, ◌&&◌, ◌||◌, List, [], ◌∷◌, ◌++◌, filter, Option, Some, refl, sym, ap, subst, ◌∙◌, true≢false, arith}
use Rattle.std.specs.Prelude.{◌≤ℤ◌, ◌<ℤ◌, int_le, int_lt}
use Rattle.std.specs.Ordering.{is_eq, int_eq}
use Rattle.std.proofs.lemmas.Int.{ints}
use Rattle.std.specs.declared.cmp.Ordering.TheVariants.{Less}
use Rattle.std.specs.List.Sorted.{IsPermutation, IsStrictlySortedBy}
use Rattle.std.specs.BTreeMap.{is_at}
use Rattle.std.proofs.lemmas.List.Sorted.{IsPermutation-refl, IsPermutation-trans, IsPermutation-append_right, IsPermutation-filter_both}
use Rattle.std.proofs.lemmas.List.Elements.{filter-append, filter_agree, All-weaker, All-from_recursion}
use Rattle.std.proofs.lemmas.List.Folds.{list_any_none}
use Rattle.std.proofs.lemmas.List.Kept.{IsStrictlySortedBy-filter}
use Rattle.std.proofs.lemmas.Map.Views.{any-filter_same}
use Rattle.nf_core.specs.Intervals.{Interval, same}
use Rattle.nf_core.specs.Sets.{has}
use Rattle.nf_core.proofs.Public.SameIntervalLemmas.{same_self}
use Rattle.nf_core.proofs.Public.SetLemmas.{has_filter}
use Rattle.nf_index.specs.declared.times.Times.{Times}
use Rattle.nf_index.specs.inner.Orders.{times_cmp, times_of, has_times, has_end, is_same_end, is_between, reached, AreInOrder, IsIndex, IsPart, IsStored, by_times, Covers}
use Rattle.nf_index.proofs.IndexLemmas.{same_end_is, same_end_swapped}
use Rattle.nf_index.proofs.FirstEndLemmas.{same_end_self, member_of_end, end_of_member, place_of_times, IsEnd-stored}

either : (a b : Bool) → b ≡ true → (a || b) ≡ true
either true b e = refl
either false b e = e

-- what every member that passes w passes may be asked first
pub filter_through : (w r : Interval → Bool) (is : List Interval) → ((i : Interval) → has is i ≡ true → w i ≡ true → r i ≡ true) → filter w (filter r is) ≡ filter w is
filter_through w r [] h = refl
filter_through w r (x ∷ xs) h = by (r x) (w x) refl refl (h x (ap (λ b. b || has xs x) (same_self x))) (filter_through w r xs (λ i there. h i (either (same i x) (has xs i) there)))
  where
    by : (b c : Bool) → r x ≡ b → w x ≡ c → (w x ≡ true → r x ≡ true) → filter w (filter r xs) ≡ filter w xs → filter w (cond b (x ∷ filter r xs) (filter r xs)) ≡ cond c (x ∷ filter w xs) (filter w xs)
    by true true e f g later = ap (λ b. cond b (x ∷ filter w (filter r xs)) (filter w (filter r xs))) f ∙ ap (λ ys. x ∷ ys) later
    by true false e f g later = ap (λ b. cond b (x ∷ filter w (filter r xs)) (filter w (filter r xs))) f ∙ later
    by false true e f g later = absurd (true≢false (sym (g f) ∙ e))
    by false false e f g later = later

-- two tests one after the other, of which the first is another one on what passes the second
pub filter_swap : (w r q : Interval → Bool) (is : List Interval) → ((i : Interval) → has is i ≡ true → w i ≡ true → r i ≡ q i) → filter w (filter r is) ≡ filter q (filter w is)
filter_swap w r q [] h = refl
filter_swap w r q (x ∷ xs) h = by (r x) (w x) refl refl (h x (ap (λ b. b || has xs x) (same_self x))) (filter_swap w r q xs (λ i there. h i (either (same i x) (has xs i) there)))
  where
    by : (b c : Bool) → r x ≡ b → w x ≡ c → (w x ≡ true → r x ≡ q x) → filter w (filter r xs) ≡ filter q (filter w xs)
        → filter w (cond b (x ∷ filter r xs) (filter r xs)) ≡ filter q (cond c (x ∷ filter w xs) (filter w xs))
    by true true e f g later =
        let kept : q x ≡ true = sym (g f) ∙ e in
        ap (λ b. cond b (x ∷ filter w (filter r xs)) (filter w (filter r xs))) f ∙ ap (λ ys. x ∷ ys) later ∙ sym (ap (λ b. cond b (x ∷ filter q (filter w xs)) (filter q (filter w xs))) kept)
    by true false e f g later = ap (λ b. cond b (x ∷ filter w (filter r xs)) (filter w (filter r xs))) f ∙ later
    by false true e f g later =
        let out : q x ≡ false = sym (g f) ∙ e in
        later ∙ sym (ap (λ b. cond b (x ∷ filter q (filter w xs)) (filter q (filter w xs))) out)
    by false false e f g later = later

-- two tests one after the other are one
both : (p r : Interval → Bool) (ks : List Interval) → filter p (filter r ks) ≡ filter (λ i. r i && p i) ks
both p r [] = refl
both p r (k ∷ ks) = at (r k) (both p r ks)
  where
    at : (b : Bool) → filter p (filter r ks) ≡ filter (λ i. r i && p i) ks → filter p (cond b (k ∷ filter r ks) (filter r ks)) ≡ cond (b && p k) (k ∷ filter (λ i. r i && p i) ks) (filter (λ i. r i && p i) ks)
    at true later = λ m. cond (p k) (k ∷ later m) (later m)
    at false later = later

filter_all : (p : Interval → Bool) (is : List Interval) → ((i : Interval) → has is i ≡ true → p i ≡ true) → filter p is ≡ is
filter_all p [] h = refl
filter_all p (x ∷ xs) h =
    ap (λ b. cond b (x ∷ filter p xs) (filter p xs)) (h x (ap (λ b. b || has xs x) (same_self x))) ∙ ap (λ ys. x ∷ ys) (filter_all p xs (λ i there. h i (either (same i x) (has xs i) there)))

-- ---- parts of the order by begin
pub covers_part : (w : Interval → Bool) (r : Interval → Bool) (is rest : List Interval) → rest ≡ filter r is → ((i : Interval) → has is i ≡ true → w i ≡ true → r i ≡ true) → Covers w is rest
covers_part w r is rest e h = subst (IsPermutation (filter w is)) (sym (ap (filter w) e ∙ filter_through w r is h)) (IsPermutation-refl (filter w is))

-- two parts, one before some times and one after them
pub covers_split : (w : Interval → Bool) (low high later : Option Times) (t : Times) (is : List Interval)
    → ((i : Interval) → has is i ≡ true → reached later i ≡ (reached (Some t) i && not (has_times t i)))
    → ((i : Interval) → has is i ≡ true → w i ≡ true → is_between low high i ≡ true) → ((i : Interval) → w i ≡ true → has_times t i ≡ false)
    → Covers w is (filter (is_between low (Some t)) is ++ filter (is_between later high) is)
covers_split w low high later t is past within apart =
    subst (IsPermutation (filter w is)) (sym (filter-append w (filter (is_between low (Some t)) is) (filter (is_between later high) is) ∙ (λ k. front k ++ back k)))
    (IsPermutation-filter_both (λ i. not (reached (Some t) i)) (reached (Some t)) (λ i. twice (reached (Some t) i)) (filter w is))
  where
    twice : (b : Bool) → b ≡ not (not b)
    twice true = refl
    twice false = refl

    left_part : (a b c : Bool) → (a && not b) ≡ true → (a && not c) ≡ not c
    left_part true b c e = refl
    left_part false b c e = absurd (true≢false (sym e))

    right_part : (a b c d : Bool) → (a && not b) ≡ true → d ≡ false → ((c && not d) && not b) ≡ c
    right_part true true c d e f = absurd (true≢false (sym e))
    right_part true false true true e f = absurd (true≢false f)
    right_part true false true false e f = refl
    right_part true false false d e f = refl
    right_part false b c d e f = absurd (true≢false (sym e))

    front : filter w (filter (is_between low (Some t)) is) ≡ filter (λ i. not (reached (Some t) i)) (filter w is)
    front = filter_swap w (is_between low (Some t)) (λ i. not (reached (Some t) i)) is (λ i there passes. left_part (reached low i) (reached high i) (reached (Some t) i) (within i there passes))

    back : filter w (filter (is_between later high) is) ≡ filter (reached (Some t)) (filter w is)
    back = filter_swap w (is_between later high) (reached (Some t)) is (λ i there passes. ap (λ b. b && not (reached high i)) (past i there) ∙ right_part (reached low i) (reached high i) (reached (Some t) i) (has_times t i) (within i there passes) (apart i passes))

-- ---- parts of the order by end
by_times_filter : (w : Interval → Bool) (is : List Interval) (ts : List Times) → filter w (by_times is ts) ≡ by_times (filter w is) ts
by_times_filter w is [] = refl
by_times_filter w is (t ∷ ts) =
    filter-append w (filter (has_times t) is) (by_times is ts) ∙ (λ k. filter_swap w (has_times t) (has_times t) is (λ i there passes. refl) k ++ by_times_filter w is ts k)

end_not_later : (t : Times) (ts : List Times) → IsStrictlySortedBy times_cmp (t ∷ ts) → has_end ts t ≡ false
unfolding IsStrictlySortedBy
end_not_later t ts s = list_any_none (is_at (times_cmp t)) ts (All-weaker (λ y. times_cmp t y ≡ Less) (λ y. is_at (times_cmp t) y ≡ false) (λ y h. ap is_eq h) ts (All-from_recursion _ ts s.0))

-- the intervals with times of a list, each of these once
by_times_is : (js : List Interval) (ts : List Times) → IsStrictlySortedBy times_cmp ts → IsPermutation (filter (λ i. has_end ts (times_of i)) js) (by_times js ts)
unfolding IsStrictlySortedBy
by_times_is js [] s = subst (λ ks. IsPermutation ks []) (sym (none js)) (IsPermutation-refl [])
  where
    none : (ks : List Interval) → filter (λ i. false) ks ≡ []
    none [] = refl
    none (k ∷ ks) = none ks
by_times_is js (t ∷ ts) s =
    IsPermutation-trans all (filter (has_times t) js ++ filter (λ i. has_end ts (times_of i)) js) (by_times js (t ∷ ts))
    (subst (IsPermutation all) (λ k. front k ++ back k) (IsPermutation-filter_both (has_times t) (λ i. not (has_times t i)) (λ i. refl) all))
    (IsPermutation-append_right (filter (has_times t) js) _ _ (by_times_is js ts s.1))
  where
    all : List Interval
    all = filter (λ i. has_end (t ∷ ts) (times_of i)) js

    here : (i : Interval) → has_times t i ≡ true → has_end (t ∷ ts) (times_of i) ≡ true
    here i e = ap (λ b. b || has_end ts (times_of i)) (same_end_swapped (times_of i) t ∙ e)

    front : filter (has_times t) all ≡ filter (has_times t) js
    front = filter_through (has_times t) (λ i. has_end (t ∷ ts) (times_of i)) js (λ i there e. here i e)

    other : (a b : Bool) → (a ≡ true → b ≡ false) → ((a || b) && not a) ≡ b
    other true b h = sym (h refl)
    other false true h = refl
    other false false h = refl

    back : filter (λ i. not (has_times t i)) all ≡ filter (λ i. has_end ts (times_of i)) js
    back =
        both (λ i. not (has_times t i)) (λ i. has_end (t ∷ ts) (times_of i)) js
        ∙ filter_agree (λ i. has_end (t ∷ ts) (times_of i) && not (has_times t i)) (λ i. has_end ts (times_of i))
        (λ i. ap (λ b. (b || has_end ts (times_of i)) && not (has_times t i)) (same_end_swapped (times_of i) t) ∙ other (has_times t i) (has_end ts (times_of i)) (λ e. ap (has_end ts) (sym (same_end_is t (times_of i) e)) ∙ end_not_later t ts s)) js

pub covers_ends : (w : Interval → Bool) (is : List Interval) (ends part : List Times) (n : ℕ) (test : Times → Bool) (left : List Interval) → IsIndex is ends n → IsStrictlySortedBy times_cmp ends
    → IsPart test ends part → left ≡ by_times is part → ((i : Interval) → has is i ≡ true → w i ≡ true → test (times_of i) ≡ true) → Covers w is left
covers_ends w is ends part n test left index s p e h =
    subst (λ js. IsPermutation js (filter w left)) kept (subst (IsPermutation picked) (sym (ap (filter w) e ∙ by_times_filter w is part)) (by_times_is (filter w is) part sorted))
  where
    picked : List Interval
    picked = filter (λ i. has_end part (times_of i)) (filter w is)

    sorted : IsStrictlySortedBy times_cmp part
    sorted = subst (IsStrictlySortedBy times_cmp) (sym p.is) (IsStrictlySortedBy-filter times_cmp p.pick ends s)

    both_true : (a b : Bool) → (a && b) ≡ true → (a ≡ true) × (b ≡ true)
    both_true true true f = (refl, refl)
    both_true true false f = absurd (true≢false (sym f))
    both_true false b f = absurd (true≢false (sym f))

    found : (i : Interval) → has is i ≡ true → w i ≡ true → has_end part (times_of i) ≡ true
    found i there passes =
        let picks : p.pick (times_of i) ≡ true = p.on (times_of i) (IsEnd-stored i (index.stored i there)) ∙ h i there passes in
        ap (λ ts. has_end ts (times_of i)) p.is ∙ any-filter_same (is_at (times_cmp (times_of i))) p.pick true (λ u f. ap p.pick (sym (same_end_is (times_of i) u f)) ∙ picks) ends ∙ end_of_member is ends n index i there

    kept : picked ≡ filter w is
    kept = filter_all (λ i. has_end part (times_of i)) (filter w is) (λ i there. let parts = both_true (has is i) (w i) (sym (has_filter w i is) ∙ there) in found i parts.0 parts.1)

-- times of a store are in order, and so are those of a part of them
in_order : (p : Times → Bool) (ts : List Times) → ((u : Times) → has_end ts u ≡ true → u.start ≤ℤ u.stop) → AreInOrder (filter p ts)
in_order p [] h = tt
in_order p (x ∷ xs) h = by (p x) (in_order p xs (λ u there. h u (either (is_same_end u x) (has_end xs u) there)))
  where
    by : (b : Bool) → AreInOrder (filter p xs) → AreInOrder (cond b (x ∷ filter p xs) (filter p xs))
    by true later = (h x (ap (λ o. is_eq o || has_end xs x) (same_end_self x)), later)
    by false later = later

pub AreInOrder-part : (is : List Interval) (ends part : List Times) (n : ℕ) (test : Times → Bool) → IsIndex is ends n → IsPart test ends part → AreInOrder part
AreInOrder-part is ends part n test index p = subst AreInOrder (sym p.is) (in_order p.pick ends (λ u there. place_of_times is index.stored u (member_of_end is ends n index u there)))

-- ---- tests
-- a part that no interval of is kept by
pub filter_none : (p : Interval → Bool) (is : List Interval) → ((i : Interval) → has is i ≡ true → p i ≡ false) → filter p is ≡ []
filter_none p [] h = refl
filter_none p (x ∷ xs) h =
    ap (λ b. cond b (x ∷ filter p xs) (filter p xs)) (h x (ap (λ b. b || has xs x) (same_self x))) ∙ filter_none p xs (λ i there. h i (either (same i x) (has xs i) there))

pub covers_nothing : (w : Interval → Bool) (is : List Interval) → ((i : Interval) → has is i ≡ true → w i ≡ false) → Covers w is []
covers_nothing w is h = subst (λ js. IsPermutation js []) (sym (filter_none w is h)) (IsPermutation-refl [])

-- a place that is reached and another one that isn't
pub between_is : (low high : Option Times) (i : Interval) → reached low i ≡ true → reached high i ≡ false → is_between low high i ≡ true
between_is low high i e f = λ k. e k && not (f k)

pub equal_between : (m n : ℤ) → int_eq m n ≡ true → (int_le n m && not (int_lt n m)) ≡ true
equal_between m n e = grind (arith, ints, e)

pub at_or_after : (m n : ℤ) → m ≤ℤ n → int_le m n ≡ true
at_or_after m n h = grind (arith, ints)

pub not_past : (m n : ℤ) → n ≤ℤ m → int_lt m n ≡ false
not_past m n h = grind (arith, ints)

pub after_it : (m n : ℤ) → m <ℤ n → int_lt m n ≡ true
after_it m n h = grind (arith, ints)

pub not_at : (m n : ℤ) → n <ℤ m → int_le m n ≡ false
not_at m n h = grind (arith, ints)

pub not_past_within : (i : Interval) (n : ℤ) → i.start ≤ℤ i.stop → i.stop ≤ℤ n → int_lt n i.start ≡ false
not_past_within i n h g = grind (arith, ints)

pub unless_true : (b : Bool) → (b ≡ true → ⊥) → b ≡ false
unless_true true never = absurd (never refl)
unless_true false never = refl

-- no interval has times that aren't in order
pub none_at : (t : Times) (i : Interval) → IsStored i → t.stop <ℤ t.start → has_times t i ≡ true → ⊥
none_at t i stored backward e =
    let same : t ≡ times_of i = same_end_is t (times_of i) e in
    let forward : t.start ≤ℤ t.stop = subst (λ u. u.start ≤ℤ u.stop) (sym same) stored.in_time in
    absurd (omega (arith, ints))

-- an interval within times of which the end isn't after the begin has just these
pub one_within : (t : Times) (i : Interval) → IsStored i → t.stop ≤ℤ t.start → t.start ≤ℤ i.start → i.stop ≤ℤ t.stop → has_times t i ≡ true
one_within t i stored backward low high =
    let forward = stored.in_time in
    let stop : i.stop ≡ t.stop = omega (arith, ints) in
    let start : i.start ≡ t.start = omega (arith, ints) in
    subst (λ u. is_same_end u (times_of i) ≡ true) (λ k. record { stop = stop k; start = start k }) (ap is_eq (same_end_self (times_of i)))
