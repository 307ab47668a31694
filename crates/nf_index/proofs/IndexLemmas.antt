-- The order by end and the count of falls, as the order by begin changes.
use Rattle.std.proofs.Common.{◌≡◌, ℕ, Bool, true, false, cond, not, ◌&&◌, ◌||◌, List, [], ◌∷◌, refl, sym, ap, subst, ◌∙◌, true≢false}
use Rattle.std.specs.declared.cmp.Ordering.{Ordering}
use Rattle.std.specs.declared.cmp.Ordering.TheVariants.{Less, Equal, Greater}
use Rattle.std.specs.Ordering.{is_eq, ordering_reverse, match_ordering}
use Rattle.std.specs.Cmp.{IsTotalOrder, int_cmp_total, on_total, then_total}
use Rattle.std.specs.List.{list_any}
use Rattle.std.proofs.lemmas.Map.Lookups.{exact_signed}
use Rattle.nf_core.specs.Intervals.{Interval, interval_cmp, same}
use Rattle.nf_core.specs.Sets.{IsSet, has, inserted, removed}
use Rattle.nf_core.proofs.Public.SameIntervalLemmas.{exact_interval, same_is, same_self, is_equal, both_equal}
use Rattle.nf_core.proofs.Public.SetLemmas.{has_inserted, has_removed, IsSet-inserted, IsSet-removed, same_set}
use Rattle.nf_index.specs.declared.times.Times.{Times}
use Rattle.nf_index.specs.inner.Orders.{times_of, times_cmp, is_same_end, has_times, has_end, falls, IsStored, AreStored, IsIndex}

pub times_cmp_total : IsTotalOrder times_cmp
times_cmp_total = then_total (on_total (λ (t : Times). t.stop) int_cmp_total) (on_total (λ (t : Times). t.start) int_cmp_total)

-- the same times are equal
pub same_end_is : (t u : Times) → is_same_end t u ≡ true → t ≡ u
same_end_is t u e =
    let parts = both_equal _ _ (is_equal (times_cmp t u) e) in
    let stop = exact_signed t.stop u.stop parts.0 in
    let start = exact_signed t.start u.start parts.1 in
    λ k. record { stop = stop k; start = start k }

pub same_end_swapped : (t u : Times) → is_same_end t u ≡ is_same_end u t
same_end_swapped t u = ap is_eq (times_cmp_total.antisymm t u) ∙ turned (times_cmp u t)
  where
    turned : (o : Ordering) → is_eq (ordering_reverse o) ≡ is_eq o
    turned Less = refl
    turned Equal = refl
    turned Greater = refl

-- a test of the members once one is put in
pub any_inserted : (p : Interval → Bool) (i : Interval) (is : List Interval) → list_any p (inserted i is) ≡ (p i || list_any p is)
any_inserted p i [] = refl
any_inserted p i (x ∷ xs) = by (interval_cmp i x) refl (any_inserted p i xs)
  where
    twice : (a b : Bool) → (a || b) ≡ (a || (a || b))
    twice true b = refl
    twice false b = refl

    swapped : (a b c : Bool) → (a || (b || c)) ≡ (b || (a || c))
    swapped true true c = refl
    swapped true false c = refl
    swapped false true c = refl
    swapped false false c = refl

    by : (o : Ordering) → interval_cmp i x ≡ o → list_any p (inserted i xs) ≡ (p i || list_any p xs)
        → list_any p (match_ordering o (i ∷ x ∷ xs) (x ∷ xs) (x ∷ inserted i xs)) ≡ (p i || (p x || list_any p xs))
    by Less e rest = refl
    by Equal e rest = twice (p x) (list_any p xs) ∙ ap (λ j. p j || (p x || list_any p xs)) (sym (exact_interval i x e))
    by Greater e rest = ap (λ b. p x || b) rest ∙ swapped (p x) (p i) (list_any p xs)

-- an interval that was there and is taken out goes back to its place
pub restored : (i : Interval) (is : List Interval) → IsSet is → has is i ≡ true → is ≡ inserted i (removed i is)
restored i is s there = same_set is (inserted i (removed i is)) s (IsSet-inserted i (removed i is) (IsSet-removed i is s)) (λ q. by q (same q i) refl)
  where
    and_true : (b : Bool) → b ≡ (b && true)
    and_true true = refl
    and_true false = refl

    by : (q : Interval) (b : Bool) → same q i ≡ b → has is q ≡ has (inserted i (removed i is)) q
    by q true e = ap (has is) (same_is q i e) ∙ there ∙ sym (has_inserted i (removed i is) q ∙ ap (λ b. b || has (removed i is) q) e)
    by q false e = and_true (has is q) ∙ ap (λ b. has is q && not b) (sym e) ∙ sym (has_removed i is q s) ∙ sym (has_inserted i (removed i is) q ∙ ap (λ b. b || has (removed i is) q) e)

pub gone : (i : Interval) (is : List Interval) → IsSet is → has (removed i is) i ≡ false
gone i is s = has_removed i is i s ∙ ap (λ b. has is i && not b) (same_self i) ∙ never (has is i)
  where
    never : (b : Bool) → (b && false) ≡ false
    never true = refl
    never false = refl

-- an interval that isn't there can't be taken out
pub removed_absent : (i : Interval) (is : List Interval) → has is i ≡ false → removed i is ≡ is
removed_absent i [] absent = refl
removed_absent i (x ∷ xs) absent = by (same i x) refl (removed_absent i xs)
  where
    by : (b : Bool) → same i x ≡ b → (has xs i ≡ false → removed i xs ≡ xs) → cond b xs (x ∷ removed i xs) ≡ x ∷ xs
    by true e rest = absurd (true≢false (sym (ap (λ b. b || has xs i) e) ∙ absent))
    by false e rest = ap (λ ys. x ∷ ys) (rest (sym (ap (λ b. b || has xs i) e) ∙ absent))

-- what is stored with one more is stored
pub stored_besides : (i : Interval) (is : List Interval) → AreStored (inserted i is) → AreStored is
stored_besides i is stored q there = stored q (has_inserted i is q ∙ either (same q i) (has is q) there)
  where
    either : (a b : Bool) → b ≡ true → (a || b) ≡ true
    either true b e = refl
    either false b e = e

-- ---- the index
pub IsIndex-inserted : (i : Interval) (is : List Interval) (ends more : List Times) (n m : ℕ) → IsIndex is ends n → IsStored i
    → ((t : Times) → has_end more t ≡ cond (is_same_end (times_of i) t) true (has_end ends t)) → m ≡ falls (inserted i is) → IsIndex (inserted i is) more m
IsIndex-inserted i is ends more n m index stored entered count = record {
  sorted = IsSet-inserted i is index.sorted;
  stored = λ q there. by q (same q i) refl (sym (has_inserted i is q) ∙ there);
  times = λ t. entered t ∙ at t (is_same_end (times_of i) t) refl;
  counted = count;
}
  where
    by : (q : Interval) (b : Bool) → same q i ≡ b → (same q i || has is q) ≡ true → IsStored q
    by q true e there = subst IsStored (sym (same_is q i e)) stored
    by q false e there = index.stored q (sym (ap (λ b. b || has is q) e) ∙ there)

    at : (t : Times) (b : Bool) → is_same_end (times_of i) t ≡ b → cond b true (has_end ends t) ≡ list_any (has_times t) (inserted i is)
    at t true e = sym (any_inserted (has_times t) i is ∙ ap (λ b. b || list_any (has_times t) is) (same_end_swapped t (times_of i) ∙ e))
    at t false e = index.times t ∙ sym (any_inserted (has_times t) i is ∙ ap (λ b. b || list_any (has_times t) is) (same_end_swapped t (times_of i) ∙ e))

-- an interval was taken out, and its times where no other one has them
pub IsIndex-taken : (i : Interval) (is : List Interval) (ends fewer : List Times) (n m : ℕ) → IsIndex (inserted i is) ends n → IsSet is
    → ((t : Times) → has_end fewer t ≡ (has_end ends t && not (not (list_any (has_times (times_of i)) is) && is_same_end (times_of i) t))) → m ≡ falls is → IsIndex is fewer m
IsIndex-taken i is ends fewer n m index s left count = record {
  sorted = s;
  stored = λ q there. index.stored q (has_inserted i is q ∙ either (same q i) (has is q) there);
  times = λ t. left t ∙ at t (is_same_end (times_of i) t) (list_any (has_times (times_of i)) is) refl refl (index.times t ∙ any_inserted (has_times t) i is);
  counted = count;
}
  where
    either : (a b : Bool) → b ≡ true → (a || b) ≡ true
    either true b e = refl
    either false b e = e

    and_true : (b : Bool) → (b && true) ≡ b
    and_true true = refl
    and_true false = refl

    and_false : (b : Bool) → (b && false) ≡ false
    and_false true = refl
    and_false false = refl

    at : (t : Times) (b c : Bool) → is_same_end (times_of i) t ≡ b → list_any (has_times (times_of i)) is ≡ c
        → has_end ends t ≡ (has_times t i || list_any (has_times t) is)
        → (has_end ends t && not (not (list_any (has_times (times_of i)) is) && is_same_end (times_of i) t)) ≡ list_any (has_times t) is
    at t true true e f all =
        let others : list_any (has_times t) is ≡ true = ap (λ u. list_any (has_times u) is) (sym (same_end_is (times_of i) t e)) ∙ f in
        (λ k. all k && not (not (f k) && is_same_end (times_of i) t)) ∙ and_true (has_times t i || list_any (has_times t) is) ∙ either (has_times t i) (list_any (has_times t) is) others ∙ sym others
    at t true false e f all =
        let others : list_any (has_times t) is ≡ false = ap (λ u. list_any (has_times u) is) (sym (same_end_is (times_of i) t e)) ∙ f in
        (λ k. has_end ends t && not (not (f k) && e k)) ∙ and_false (has_end ends t) ∙ sym others
    at t false c e f all =
        let here : has_times t i ≡ false = same_end_swapped t (times_of i) ∙ e in
        let kept : not (not c && false) ≡ true = ap not (and_false (not c)) in
        (λ k. all k && not (not (f k) && e k)) ∙ (λ k. (here k || list_any (has_times t) is) && kept k) ∙ and_true (list_any (has_times t) is)

-- times that were put in and taken out again leave the order by end as it was
pub IsIndex-restored : (u : Times) (is : List Interval) (ends more back : List Times) (n : ℕ) (entered : Bool) → IsIndex is ends n → entered ≡ not (has_end ends u)
    → ((t : Times) → has_end more t ≡ cond (is_same_end u t) true (has_end ends t))
    → ((t : Times) → has_end back t ≡ (has_end more t && not (entered && is_same_end u t))) → IsIndex is back n
IsIndex-restored u is ends more back n entered index was more_is back_is = record {
  sorted = index.sorted;
  stored = index.stored;
  times = λ t. back_is t ∙ ap (λ b. b && not (entered && is_same_end u t)) (more_is t) ∙ at t (is_same_end u t) (has_end ends u) refl refl ∙ index.times t;
  counted = index.counted;
}
  where
    and_true : (b : Bool) → (b && true) ≡ b
    and_true true = refl
    and_true false = refl

    and_false : (b : Bool) → not (b && false) ≡ true
    and_false true = refl
    and_false false = refl

    at : (t : Times) (b c : Bool) → is_same_end u t ≡ b → has_end ends u ≡ c → (cond (is_same_end u t) true (has_end ends t) && not (entered && is_same_end u t)) ≡ has_end ends t
    at t true true e f =
        let there : has_end ends t ≡ true = ap (has_end ends) (sym (same_end_is u t e)) ∙ f in
        (λ k. cond (e k) true (has_end ends t) && not ((was ∙ ap not f) k && e k)) ∙ sym there
    at t true false e f =
        let absent : has_end ends t ≡ false = ap (has_end ends) (sym (same_end_is u t e)) ∙ f in
        (λ k. cond (e k) true (has_end ends t) && not ((was ∙ ap not f) k && e k)) ∙ sym absent
    at t false c e f = (λ k. cond (e k) true (has_end ends t) && not (entered && e k)) ∙ (λ k. has_end ends t && and_false entered k) ∙ and_true (has_end ends t)
