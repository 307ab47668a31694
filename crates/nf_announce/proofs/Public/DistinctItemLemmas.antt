-- Lists in which no item stands twice.
use Rattle.std.proofs.Common.{◌≡◌, ◌≢◌, ℕ, zero, suc, ◌+◌, ◌<◌, ◌≤◌, Bool, true, false, cond, List, [], ◌∷◌, ◌++◌, drop, map, filter, sym, ap, ◌∙◌, arith}
use Rattle.std.specs.List.{AllByRecursion, range_with_len}
use Rattle.std.specs.List.Sorted.{IsStrictlySortedBy}
use Rattle.std.specs.Cmp.{IsTotalOrder}
use Rattle.std.specs.Ordering.{ordering_reverse}
use Rattle.std.specs.declared.cmp.Ordering.{Ordering}
use Rattle.std.specs.declared.cmp.Ordering.TheVariants.{Less, Greater}

-- no item is one behind it
abbrev pub Apart : {X : Type 0} → List X → Type 0
Apart [] = Unit {0}
Apart (x ∷ xs) = AllByRecursion (λ y. x ≢ y) xs × Apart xs

pub each_weaker : {X : Type 0} (P Q : X → Type 0) → ((x : X) → P x → Q x) → (xs : List X) → AllByRecursion P xs → AllByRecursion Q xs
each_weaker P Q h [] all = tt
each_weaker P Q h (x ∷ xs) all = (h x all.0, each_weaker P Q h xs all.1)

pub each_append : {X : Type 0} (P : X → Type 0) (xs ys : List X) → AllByRecursion P xs → AllByRecursion P ys → AllByRecursion P (xs ++ ys)
each_append P [] ys h k = k
each_append P (x ∷ xs) ys h k = (h.0, each_append P xs ys h.1 k)

pub each_map : {X Y : Type 0} (P : Y → Type 0) (f : X → Y) (xs : List X) → AllByRecursion (λ x. P (f x)) xs → AllByRecursion P (map f xs)
each_map P f [] h = tt
each_map P f (x ∷ xs) h = (h.0, each_map P f xs h.1)

either : {X : Type 0} (P : X → Type 0) (b : Bool) (x y : X) → P x → P y → P (cond b x y)
either P true x y h k = h
either P false x y h k = k

pub each_filter : {X : Type 0} (P : X → Type 0) (p : X → Bool) (xs : List X) → AllByRecursion P xs → AllByRecursion P (filter p xs)
each_filter P p [] h = tt
each_filter P p (x ∷ xs) h = let later = each_filter P p xs h.1 in either (AllByRecursion P) (p x) (x ∷ filter p xs) (filter p xs) (h.0, later) later

pub apart_filter : {X : Type 0} (p : X → Bool) (xs : List X) → Apart xs → Apart (filter p xs)
apart_filter p [] h = tt
apart_filter p (x ∷ xs) h = let later = apart_filter p xs h.1 in either Apart (p x) (x ∷ filter p xs) (filter p xs) (each_filter (λ y. x ≢ y) p xs h.0, later) later

pub apart_drop : {X : Type 0} (n : ℕ) (xs : List X) → Apart xs → Apart (drop n xs)
apart_drop zero xs h = h
apart_drop (suc n) [] h = tt
apart_drop (suc n) (x ∷ xs) h = apart_drop n xs h.1

pub apart_append : {X : Type 0} (xs ys : List X) → Apart xs → Apart ys → AllByRecursion (λ x. AllByRecursion (λ y. x ≢ y) ys) xs → Apart (xs ++ ys)
apart_append [] ys h k cross = k
apart_append (x ∷ xs) ys h k cross = (each_append (λ y. x ≢ y) xs ys h.0 cross.0, apart_append xs ys h.1 k cross.1)

pub apart_map : {X Y : Type 0} (f : X → Y) → ((x y : X) → f x ≡ f y → x ≡ y) → (xs : List X) → Apart xs → Apart (map f xs)
apart_map f back [] h = tt
apart_map f back (x ∷ xs) h = (each_map (λ y. f x ≢ y) f xs (each_weaker (λ y. x ≢ y) (λ y. f x ≢ f y) (λ y other e. other (back x y e)) xs h.0), apart_map f back xs h.1)

less_apart : {K : Type 0} (R : K → K → Ordering) → IsTotalOrder R → (k y : K) → R k y ≡ Less → k ≢ y
less_apart R order k y less e =
    let itself : R k k ≡ Less = ap (R k) e ∙ less in
    let s : Less ≡ Greater = sym itself ∙ order.antisymm k k ∙ ap ordering_reverse itself in absurd cc

-- what ascends is apart
pub apart_sorted : {K : Type 0} (R : K → K → Ordering) → IsTotalOrder R → (ks : List K) → IsStrictlySortedBy R ks → Apart ks
unfolding IsStrictlySortedBy
apart_sorted R order [] h = tt
apart_sorted R order (k ∷ ks) h = (each_weaker (λ y. R k y ≡ Less) (λ y. k ≢ y) (less_apart R order k) ks h.0, apart_sorted R order ks h.1)

-- numbers that follow one another
pub range_from : (a n : ℕ) → AllByRecursion (λ m. a ≤ m) (range_with_len a n)
range_from a zero = tt
range_from a (suc n) = (omega arith, each_weaker (λ m. a + 1 ≤ m) (λ m. a ≤ m) (λ m h. omega arith) (range_with_len (a + 1) n) (range_from (a + 1) n))

pub range_within : (a n : ℕ) → AllByRecursion (λ m. m < a + n) (range_with_len a n)
range_within a zero = tt
range_within a (suc n) = (omega arith, each_weaker (λ m. m < a + 1 + n) (λ m. m < a + suc n) (λ m h. omega arith) (range_with_len (a + 1) n) (range_within (a + 1) n))

pub range_apart : (a n : ℕ) → Apart (range_with_len a n)
range_apart a zero = tt
range_apart a (suc n) = (each_weaker (λ m. a + 1 ≤ m) (λ m. a ≢ m) (λ m h e. omega arith) (range_with_len (a + 1) n) (range_from (a + 1) n), range_apart (a + 1) n)
