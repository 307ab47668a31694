-- Sums over lists of intervals: where two weights differ at one member alone, and what a member weighs in a sorted list.
use Rattle.std.proofs.Common.{◌≡◌, ℕ, ◌+◌, ◌≤◌, Bool, true, false, cond, not, ◌&&◌, ◌||◌, List, [], ◌∷◌, All, refl, sym, ap, subst, ◌∙◌, true≢false, arith, rules}
use Rattle.std.specs.List.{sum_by, count_by, list_any}
use Rattle.std.proofs.lemmas.List.Sums.{sum_by-cons}
use Rattle.std.proofs.lemmas.List.Elements.{All-head, All-tail}
use Rattle.nf_core.specs.Intervals.{Interval, same}
use Rattle.nf_core.specs.Sets.{IsSet, has}
use Rattle.nf_core.proofs.Public.SameIntervalLemmas.{same_is, same_self, same_swapped}
use Rattle.nf_core.proofs.Public.SetLemmas.{none_again}
use Rattle.nf_pairs.proofs.Public.SumLemmas.{sum_by_agree}
use Rattle.nf_tally.specs.Numbers.{one_at, is_on}

-- ---- members
later : (a b : Bool) → b ≡ true → (a || b) ≡ true
later true b h = refl
later false b h = h

-- a first item is in its list
pub has_first : (x : Interval) (xs : List Interval) → has (x ∷ xs) x ≡ true
has_first x xs = ap (λ b. b || has xs x) (same_self x)

-- and so is each of the others
pub has_later : (x : Interval) (xs : List Interval) (q : Interval) → has xs q ≡ true → has (x ∷ xs) q ≡ true
has_later x xs q there = later (same q x) (has xs q) there

-- what holds of all items holds of a member
pub All-has : (P : Interval → Type 0) (is : List Interval) (q : Interval) → All P is → has is q ≡ true → P q
All-has P [] q all there = absurd (true≢false (sym there))
All-has P (x ∷ xs) q all there = by (same q x) refl there (All-has P xs q (All-tail P x xs all))
  where
    by : (b : Bool) → same q x ≡ b → (b || has xs q) ≡ true → (has xs q ≡ true → P q) → P q
    by true e h rest = subst P (sym (same_is q x e)) (All-head P x xs all)
    by false e h rest = rest h

-- the rest of a sorted list is sorted
pub sorted_rest : (x : Interval) (xs : List Interval) → IsSet (x ∷ xs) → IsSet xs
unfolding Rattle.std.specs.List.Sorted.IsStrictlySortedBy
sorted_rest x xs s = s.1

-- so a member of the rest is another one
apart : (x : Interval) (xs : List Interval) (q : Interval) → IsSet (x ∷ xs) → has xs q ≡ true → same q x ≡ false
apart x xs q s there = by (same q x) refl
  where
    by : (b : Bool) → same q x ≡ b → b ≡ false
    by false e = refl
    by true e = absurd (true≢false (sym there ∙ ap (has xs) (same_is q x e) ∙ none_again x xs s))

-- ---- sums
-- two weights on a sorted list that differ at one member alone have sums that differ by that member's
pub sum_moved : (f g : Interval → ℕ) (p : Interval) (is : List Interval) → IsSet is → has is p ≡ true
    → ((q : Interval) → same q p ≡ false → f q ≡ g q) → sum_by f is + g p ≡ sum_by g is + f p
unfolding Rattle.std.specs.List.Sorted.IsStrictlySortedBy
sum_moved f g p [] s there alike = absurd (true≢false (sym there))
sum_moved f g p (x ∷ xs) s there alike = by (same p x) refl there (λ h. sum_moved f g p xs s.1 h alike)
  where
    by : (b : Bool) → same p x ≡ b → (b || has xs p) ≡ true → (has xs p ≡ true → sum_by f xs + g p ≡ sum_by g xs + f p)
        → sum_by f (x ∷ xs) + g p ≡ sum_by g (x ∷ xs) + f p
    by true e h later =
        let same_one : p ≡ x = same_is p x e in
        let rest : sum_by f xs ≡ sum_by g xs = sum_by_agree f g xs (λ q i. alike q (ap (same q) same_one ∙ apart x xs q s i)) in
        let at_f : f p ≡ f x = ap f same_one in
        let at_g : g p ≡ g x = ap g same_one in
        omega (arith, sum_by-cons f x xs, sum_by-cons g x xs)
    by false e h later =
        let here : f x ≡ g x = alike x (same_swapped x p ∙ e) in
        let rest : sum_by f xs + g p ≡ sum_by g xs + f p = later h in
        omega (arith, sum_by-cons f x xs, sum_by-cons g x xs)

-- a sorted list has each member once
pub member_once : (t : Interval → Bool) (is : List Interval) (q : Interval) → IsSet is
    → sum_by (λ p. cond (t p) (one_at p q) 0) is ≡ cond (has is q && t q) 1 0
unfolding Rattle.std.specs.List.Sorted.IsStrictlySortedBy
member_once t [] q s = refl
member_once t (x ∷ xs) q s = sum_by-cons (λ p. cond (t p) (one_at p q) 0) x xs ∙ ap (λ n. cond (t x) (one_at x q) 0 + n) (member_once t xs q s.1) ∙ by (same q x) refl
  where
    nothing : (b : Bool) → ◌≡◌ {A = ℕ} (cond b 0 0) 0
    nothing true = refl
    nothing false = refl

    by : (b : Bool) → same q x ≡ b → cond (t x) (one_at x q) 0 + cond (has xs q && t q) 1 0 ≡ cond ((same q x || has xs q) && t q) 1 0
    by true e =
        let same_one : q ≡ x = same_is q x e in
        let none : has xs q ≡ false = ap (has xs) same_one ∙ none_again x xs s in
        let here : same x q ≡ true = same_swapped x q ∙ e in
        rw (e, none, here, same_one) (omega arith)
    by false e =
        let away : same x q ≡ false = same_swapped x q ∙ e in
        let head : cond (t x) (one_at x q) 0 ≡ 0 = ap (λ b. cond (t x) (cond b 1 0) 0) away ∙ nothing (t x) in
        rw (e, head) (omega arith)

-- whether some item passes a test, by how many do
pub any_counted : {X : Type 0} (p : X → Bool) (xs : List X) → list_any p xs ≡ is_on (count_by p xs)
any_counted p [] = refl
any_counted p (x ∷ xs) = by (p x) refl (any_counted p xs)
  where
    by : (b : Bool) → p x ≡ b → list_any p xs ≡ is_on (count_by p xs) → (b || list_any p xs) ≡ is_on (count_by p (x ∷ xs))
    by true e rest = sym (ap is_on (sum_by-cons (λ y. cond (p y) 1 0) x xs ∙ ap (λ b. cond b 1 0 + count_by p xs) e) ∙ search rules)
    by false e rest =
        rest
        ∙ sym (ap is_on (sum_by-cons (λ y. cond (p y) 1 0) x xs ∙ ap (λ b. cond b 1 0 + count_by p xs) e ∙ omega arith))

-- a count behind a choice
pub sum_of_choice : {X : Type 0} (b : Bool) (f : X → Bool) (xs : List X) → sum_by (λ x. cond (b && f x) 1 0) xs ≡ cond b (count_by f xs) 0
sum_of_choice true f xs = refl
sum_of_choice false f [] = refl
sum_of_choice false f (x ∷ xs) = sum_by-cons (λ x. 0) x xs ∙ ap (λ n. 0 + n) (sum_of_choice false f xs)
