-- The first times of a part of the order by end, and the place that they lead to.
use Rattle.std.proofs.Common.{◌≡◌, ℤ, ℕ, Bool, true, false, cond, ◌||◌, List, [], ◌∷◌, filter, Option, Some, None, refl, sym, ap, subst, ◌∙◌, true≢false, arith, Bor}
use Rattle.std.specs.Prelude.{◌≤ℤ◌, ◌<ℤ◌, int_le, int_lt, IfSome}
use Rattle.std.specs.declared.cmp.Ordering.{Ordering}
use Rattle.std.specs.declared.cmp.Ordering.TheVariants.{Less, Equal, Greater}
use Rattle.std.specs.Ordering.{is_eq, is_gt, is_le, ordering_reverse}
use Rattle.std.specs.Option.{option_copied}
use Rattle.std.specs.Iterator.{YieldsFirstRef, YieldsLastRef}
use Rattle.std.specs.List.{AllByRecursion}
use Rattle.std.specs.List.Sorted.{IsStrictlySortedBy}
use Rattle.std.proofs.lemmas.Int.{ints}
use Rattle.nf_core.specs.Intervals.{Interval}
use Rattle.nf_core.specs.Sets.{has}
use Rattle.nf_core.proofs.Public.SetLemmas.{any_passes, any_member}
use Rattle.nf_blocks.proofs.Public.HasLemmas.{last_is_most}
use Rattle.nf_index.specs.declared.times.Times.{Times}
use Rattle.nf_index.specs.inner.Orders.{times_cmp, times_of, has_times, has_end, is_same_end, reached, IsStored, AreStored, IsIndex, IsEnd, IsPart, IsPlace}
use Rattle.nf_index.proofs.IndexLemmas.{same_end_is, times_cmp_total}
use Rattle.nf_index.proofs.AscentLemmas.{orders_agree}

pub same_end_self : (t : Times) → times_cmp t t ≡ Equal
same_end_self t = even (times_cmp t t) (times_cmp_total.antisymm t t)
  where
    even : (o : Ordering) → o ≡ ordering_reverse o → o ≡ Equal
    even Less e = absurd cc
    even Equal e = refl
    even Greater e = absurd cc

-- the first of what a test picks
pub record IsFirst (p : Times → Bool) (ts : List Times) (t : Times) : Type 0 where
  pub there : has_end ts t ≡ true
  pub passes : p t ≡ true
  pub least : (u : Times) → has_end ts u ≡ true → p u ≡ true → is_le (times_cmp t u) ≡ true

later_end : (x : Times) (xs : List Times) → AllByRecursion (λ y. times_cmp x y ≡ Less) xs → (u : Times) → has_end xs u ≡ true → is_le (times_cmp x u) ≡ true
later_end x [] all u there = absurd (true≢false (sym there))
later_end x (y ∷ ys) all u there = by (is_same_end u y) refl (later_end x ys all.1 u)
  where
    by : (b : Bool) → is_same_end u y ≡ b → (has_end ys u ≡ true → is_le (times_cmp x u) ≡ true) → is_le (times_cmp x u) ≡ true
    by true e rest = ap (λ v. is_le (times_cmp x v)) (same_end_is u y e) ∙ ap is_le all.0
    by false e rest = rest (sym (ap (λ b. b || has_end ys u) e) ∙ there)

first_picked : (p : Times → Bool) (ts : List Times) → IsStrictlySortedBy times_cmp ts → (t : Times) (rest : List Times) → filter p ts ≡ t ∷ rest → IsFirst p ts t
unfolding IsStrictlySortedBy
first_picked p [] s t rest e = absurd cc
first_picked p (x ∷ xs) s t rest e = by (p x) refl e (first_picked p xs s.1 t rest)
  where
    by : (b : Bool) → p x ≡ b → cond b (x ∷ filter p xs) (filter p xs) ≡ t ∷ rest → (filter p xs ≡ t ∷ rest → IsFirst p xs t) → IsFirst p (x ∷ xs) t
    by true h f later =
        let is : x ≡ t = cc in
        subst (IsFirst p (x ∷ xs)) is (record {
          there = ap (λ o. is_eq o || has_end xs x) (same_end_self x);
          passes = h;
          least = λ u there passes. at u (is_same_end u x) refl there;
        })
      where
        at : (u : Times) (b : Bool) → is_same_end u x ≡ b → (is_same_end u x || has_end xs u) ≡ true → is_le (times_cmp x u) ≡ true
        at u true g there = ap (λ v. is_le (times_cmp x v)) (same_end_is u x g) ∙ ap is_le (same_end_self x)
        at u false g there = later_end x xs s.0 u (sym (ap (λ b. b || has_end xs u) g) ∙ there)
    by false h f later =
        let found = later f in
        record {
          there = either (is_same_end t x) (has_end xs t) found.there;
          passes = found.passes;
          least = λ u there passes. at u (is_same_end u x) refl there passes found;
        }
      where
        either : (a b : Bool) → b ≡ true → (a || b) ≡ true
        either true b g = refl
        either false b g = g

        at : (u : Times) (b : Bool) → is_same_end u x ≡ b → (is_same_end u x || has_end xs u) ≡ true → p u ≡ true → IsFirst p xs t → is_le (times_cmp t u) ≡ true
        at u true g there passes found = absurd (true≢false (sym passes ∙ ap p (same_end_is u x g) ∙ h))
        at u false g there passes found = found.least u (sym (ap (λ b. b || has_end xs u) g) ∙ there) passes

none_picked : (p : Times → Bool) (ts : List Times) → filter p ts ≡ [] → (u : Times) → has_end ts u ≡ true → p u ≡ false
none_picked p [] e u there = absurd (true≢false (sym there))
none_picked p (x ∷ xs) e u there = by (p x) refl e (λ f. none_picked p xs f u)
  where
    by : (b : Bool) → p x ≡ b → cond b (x ∷ filter p xs) (filter p xs) ≡ [] → (filter p xs ≡ [] → has_end xs u ≡ true → p u ≡ false) → p u ≡ false
    by true h f rest = absurd cc
    by false h f rest = at (is_same_end u x) refl
      where
        at : (b : Bool) → is_same_end u x ≡ b → p u ≡ false
        at true g = ap p (same_end_is u x g) ∙ h
        at false g = rest f (sym (ap (λ b. b || has_end xs u) g) ∙ there)

-- ---- times and intervals
-- an interval with given times
pub record HasMember (is : List Interval) (t : Times) : Type 0 where
  pub member : Interval
  pub there : has is member ≡ true
  pub times : t ≡ times_of member

pub member_of_end : (is : List Interval) (ends : List Times) (n : ℕ) → IsIndex is ends n → (t : Times) → has_end ends t ≡ true → HasMember is t
member_of_end is ends n index t there =
    let found = any_passes (has_times t) is (sym (index.times t) ∙ there) in
    record { member = found.member; there = found.there; times = same_end_is t (times_of found.member) found.passes }

pub end_of_member : (is : List Interval) (ends : List Times) (n : ℕ) → IsIndex is ends n → (i : Interval) → has is i ≡ true → has_end ends (times_of i) ≡ true
end_of_member is ends n index i there = index.times (times_of i) ∙ any_member (has_times (times_of i)) is i there (ap is_eq (same_end_self (times_of i)))

pub IsEnd-stored : (i : Interval) → IsStored i → IsEnd (times_of i)
IsEnd-stored i s = record { in_time = s.in_time; least = s.least; most = s.most }

-- ---- places
pub place_of_times : (is : List Interval) → AreStored is → (t : Times) → HasMember is t → t.start ≤ℤ t.stop
place_of_times is stored t m = subst (λ u. u.start ≤ℤ u.stop) (sym m.times) (stored m.member m.there).in_time

pub IsPlace-first : (is : List Interval) (ends part rest : List Times) (n : ℕ) (test : Times → Bool) (r : Option (Bor Times)) → IsIndex is ends n → IsStrictlySortedBy times_cmp ends
    → IsPart test ends part → YieldsFirstRef (λ ts. ts) part r rest → IsPlace (option_copied r)
IsPlace-first is ends part rest n test None index s p y = tt
IsPlace-first is ends part rest n test (Some t) index s p y =
    let first = first_picked p.pick ends s t.now rest (sym p.is ∙ y) in
    place_of_times is index.stored t.now (member_of_end is ends n index t.now first.there)

-- where ends fall nowhere, the intervals from the first one's place on are those whose times pass the test
pub first_reached : (is : List Interval) (ends part rest : List Times) (test : Times → Bool) (r : Option (Bor Times)) → IsIndex is ends 0 → IsStrictlySortedBy times_cmp ends
    → IsPart test ends part → YieldsFirstRef (λ ts. ts) part r rest → ((t u : Times) → test t ≡ true → is_le (times_cmp t u) ≡ true → test u ≡ true)
    → (i : Interval) → has is i ≡ true → reached (option_copied r) i ≡ test (times_of i)
first_reached is ends part rest test None index s p y upward i there =
    let fits = IsEnd-stored i (index.stored i there) in
    sym (sym (p.on (times_of i) fits) ∙ none_picked p.pick ends (sym p.is ∙ y.0) (times_of i) (end_of_member is ends 0 index i there))
first_reached is ends part rest test (Some t) index s p y upward i there =
    let first = first_picked p.pick ends s t.now rest (sym p.is ∙ y) in
    let m = member_of_end is ends 0 index t.now first.there in
    let agree : reached (Some t.now) i ≡ is_le (times_cmp t.now (times_of i)) = subst (λ u. reached (Some u) i ≡ is_le (times_cmp u (times_of i))) (sym m.times) (orders_agree is index.sorted (sym index.counted) m.member i m.there there) in
    let on : p.pick t.now ≡ test t.now = p.on t.now (subst IsEnd (sym m.times) (IsEnd-stored m.member (index.stored m.member m.there))) in
    let on_i : p.pick (times_of i) ≡ test (times_of i) = p.on (times_of i) (IsEnd-stored i (index.stored i there)) in
    agree ∙ by (test (times_of i)) (is_le (times_cmp t.now (times_of i))) refl refl (λ h. first.least (times_of i) (end_of_member is ends 0 index i there) (on_i ∙ h)) (λ h. upward t.now (times_of i) (sym on ∙ first.passes) h)
  where
    by : (b c : Bool) → test (times_of i) ≡ b → is_le (times_cmp t.now (times_of i)) ≡ c
        → (test (times_of i) ≡ true → is_le (times_cmp t.now (times_of i)) ≡ true) → (is_le (times_cmp t.now (times_of i)) ≡ true → test (times_of i) ≡ true)
        → is_le (times_cmp t.now (times_of i)) ≡ test (times_of i)
    by true c e f forth back = forth e ∙ sym e
    by false true e f forth back = absurd (true≢false (sym (back f) ∙ e))
    by false false e f forth back = f ∙ sym e

-- both tests of ends are ones that later times pass too
pub from_upward : (time : ℤ) (t u : Times) → int_le time t.stop ≡ true → is_le (times_cmp t u) ≡ true → int_le time u.stop ≡ true
from_upward time t u e f = grind (arith, ints, e, f)

pub after_upward : (time : ℤ) (t u : Times) → int_lt time t.stop ≡ true → is_le (times_cmp t u) ≡ true → int_lt time u.stop ≡ true
after_upward time t u e f = grind (arith, ints, e, f)

-- ---- the latest end
-- what isn't past the last times doesn't end after them
no_later : (last t : Times) → is_gt (times_cmp t last) ≡ false → t.stop ≤ℤ last.stop
no_later last t e = grind (arith, ints, e)

pub latest_end : (ends walked front : List Times) (r : Option (Bor Times)) → IsStrictlySortedBy times_cmp ends → walked ≡ ends → YieldsLastRef (λ ts. ts) walked r front
    → IfSome (option_copied r) (λ last. (t : Times) → has_end ends t ≡ true → t.stop ≤ℤ last.stop)
latest_end ends walked front None s e y = tt
latest_end ends walked front (Some last) s e y = λ t there. no_later last.now t (last_is_most times_cmp_total ends front last.now t s (sym e ∙ y) there)

-- so from later times on there is no interval
pub past_from : (is : List Interval) (ends : List Times) (time latest : ℤ) → IsIndex is ends 0 → ((t : Times) → has_end ends t ≡ true → t.stop ≤ℤ latest) → latest <ℤ time
    → (i : Interval) → has is i ≡ true → false ≡ int_le time i.stop
past_from is ends time latest index most late i there =
    let end = most (times_of i) (end_of_member is ends 0 index i there) in
    grind (arith, ints)

pub past_after : (is : List Interval) (ends : List Times) (time latest : ℤ) → IsIndex is ends 0 → ((t : Times) → has_end ends t ≡ true → t.stop ≤ℤ latest) → latest ≤ℤ time
    → (i : Interval) → has is i ≡ true → false ≡ int_lt time i.stop
past_after is ends time latest index most late i there =
    let end = most (times_of i) (end_of_member is ends 0 index i there) in
    grind (arith, ints)
