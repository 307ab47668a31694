-- Sums of weights over lists of intervals.
use Rattle.std.proofs.Common.{◌≡◌, ℕ, ◌+◌, ◌≤◌, Bool, true, false, cond, ◌||◌, List, [], ◌∷◌, filter, sum_by, refl, ap, sym, ◌∙◌, arith}
use Rattle.std.proofs.lemmas.List.Sums.{sum_by-cons}
use Rattle.nf_core.specs.Intervals.{Interval, same}
use Rattle.nf_core.specs.Sets.{has}
use Rattle.nf_core.proofs.Public.SameIntervalLemmas.{same_self}

-- equal weights have equal sums
pub sum_alike : {X : Type 0} (f g : X → ℕ) → ((x : X) → f x ≡ g x) → (xs : List X) → sum_by f xs ≡ sum_by g xs
sum_alike f g alike [] = refl
sum_alike f g alike (x ∷ xs) =
    sum_by-cons f x xs ∙ ap (λ n. n + sum_by f xs) (alike x) ∙ ap (λ n. g x + n) (sum_alike f g alike xs) ∙ sym (sum_by-cons g x xs)

-- so have weights that are equal at each member
pub sum_by_agree : (f g : Interval → ℕ) (is : List Interval) → ((i : Interval) → has is i ≡ true → f i ≡ g i) → sum_by f is ≡ sum_by g is
sum_by_agree f g [] alike = refl
sum_by_agree f g (x ∷ xs) alike =
    let here : f x ≡ g x = alike x (ap (λ b. b || has xs x) (same_self x)) in
    let later = sum_by_agree f g xs (λ i there. alike i (later_there (same i x) (has xs i) there)) in
    sum_by-cons f x xs ∙ ap (λ n. n + sum_by f xs) here ∙ ap (λ n. g x + n) later ∙ sym (sum_by-cons g x xs)
  where
    later_there : (a b : Bool) → b ≡ true → (a || b) ≡ true
    later_there true b h = refl
    later_there false b h = h

-- weights that are 0 at each member sum to 0
pub sum_by_nothing : (f : Interval → ℕ) (is : List Interval) → ((i : Interval) → has is i ≡ true → f i ≡ 0) → sum_by f is ≡ 0
sum_by_nothing f is none = sum_by_agree f (λ i. 0) is none ∙ zeros is
  where
    zeros : (js : List Interval) → sum_by (λ (i : Interval). 0) js ≡ 0
    zeros [] = refl
    zeros (j ∷ js) = zeros js

-- the sum of two weights
pub sum_by_plus : {X : Type 0} (f g : X → ℕ) (xs : List X) → sum_by (λ x. f x + g x) xs ≡ sum_by f xs + sum_by g xs
sum_by_plus f g [] = refl
sum_by_plus f g (x ∷ xs) =
    let whole = sum_by-cons (λ y. f y + g y) x xs in
    let one = sum_by-cons f x xs in
    let other = sum_by-cons g x xs in
    let rest = sum_by_plus f g xs in
    omega arith

-- a sum of sums, in either order
pub sum_by_swap : {X Y : Type 0} (w : X → Y → ℕ) (xs : List X) (ys : List Y) → sum_by (λ x. sum_by (w x) ys) xs ≡ sum_by (λ y. sum_by (λ x. w x y) xs) ys
sum_by_swap w [] ys = sym (zeros ys)
  where
    zeros : {Y : Type 0} (zs : List Y) → sum_by (λ (y : Y). 0) zs ≡ 0
    zeros [] = refl
    zeros (z ∷ zs) = zeros zs
sum_by_swap w (x ∷ xs) ys =
    sum_by-cons (λ x. sum_by (w x) ys) x xs ∙ ap (λ n. sum_by (w x) ys + n) (sum_by_swap w xs ys)
    ∙ sym (sum_by_plus (w x) (λ y. sum_by (λ z. w z y) xs) ys)
    ∙ sum_alike (λ y. w x y + sum_by (λ z. w z y) xs) (λ y. sum_by (λ z. w z y) (x ∷ xs)) (λ y. sym (sum_by-cons (λ z. w z y) x xs)) ys

-- a sum over what a filter keeps
pub sum_by-filter : {X : Type 0} (p : X → Bool) (f : X → ℕ) (xs : List X) → sum_by f (filter p xs) ≡ sum_by (λ x. cond (p x) (f x) 0) xs
sum_by-filter p f [] = refl
sum_by-filter p f (x ∷ xs) = by (p x) (sum_by-filter p f xs) ∙ sym (sum_by-cons (λ y. cond (p y) (f y) 0) x xs)
  where
    by : (b : Bool) → sum_by f (filter p xs) ≡ sum_by (λ y. cond (p y) (f y) 0) xs → sum_by f (cond b (x ∷ filter p xs) (filter p xs)) ≡ cond b (f x) 0 + sum_by (λ y. cond (p y) (f y) 0) xs
    by true e = sum_by-cons f x (filter p xs) ∙ ap (λ n. f x + n) e
    by false e = e ∙ omega arith

-- a filter leaves no more
pub sum_by-filter-le : {X : Type 0} (p : X → Bool) (f : X → ℕ) (xs : List X) → sum_by f (filter p xs) ≤ sum_by f xs
sum_by-filter-le p f [] = omega arith
sum_by-filter-le p f (x ∷ xs) = by (p x) (sum_by-filter-le p f xs)
  where
    by : (b : Bool) → sum_by f (filter p xs) ≤ sum_by f xs → sum_by f (cond b (x ∷ filter p xs) (filter p xs)) ≤ sum_by f (x ∷ xs)
    by true e = let kept = sum_by-cons f x (filter p xs) in let whole = sum_by-cons f x xs in omega arith
    by false e = let whole = sum_by-cons f x xs in omega arith

-- larger weights have larger sums
pub sum_by_at_most : (f g : Interval → ℕ) → ((i : Interval) → f i ≤ g i) → (is : List Interval) → sum_by f is ≤ sum_by g is
sum_by_at_most f g less [] = omega arith
sum_by_at_most f g less (x ∷ xs) =
    let one = sum_by-cons f x xs in
    let other = sum_by-cons g x xs in
    let here = less x in
    let rest = sum_by_at_most f g less xs in
    omega arith
