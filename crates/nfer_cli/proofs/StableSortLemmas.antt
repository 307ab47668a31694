-- A stable sort by a number gives the items of each number in their order, one number after another.
use Rattle.std.proofs.Common.{◌≡◌, ℕ, zero, suc, ◌+◌, ◌<◌, ◌≤◌, max, Bool, true, false, cond, List, [], ◌∷◌, ◌++◌, map, filter, flat_map, fold, All, IsPermutation, Bor, refl, sym, ap, ◌∙◌, subst, ◌==◌, arith}
use Rattle.std.specs.List.{range_with_len}
use Rattle.std.specs.List.Sorted.{IsSortedByKey, IsStableByKey, IsNonDecreasingBy, ties}
use Rattle.std.specs.Ordering.{nat_cmp, is_lt}
use Rattle.std.proofs.lemmas.Bool.{eqb-true, eqb-false, ne_eqb, eq-eqb}
use Rattle.std.specs.Fn.{Mut, Called, ComputesKey}
use Rattle.std.proofs.lemmas.Fn.{always_returns_same}
use Rattle.std.proofs.lemmas.List.{map-append}
use Rattle.std.proofs.lemmas.Simd.{map-map}
use Rattle.std.proofs.lemmas.List.Elements.{All-nil, All-cons, All-head, All-tail, All-weaker}
use Rattle.std.proofs.lemmas.List.Sorted.{IsNonDecreasingBy-from_sort, All-permutation}
use Rattle.nf_core.specs.Plan.{greatest}

-- the greatest of some numbers and one more is no less than that one
least : (ns : List ℕ) (a : ℕ) → a ≤ fold max a ns
least [] a = omega arith
least (k ∷ ns) a = omega (arith, least ns (max a k))

-- two numbers of which neither is less are equal
tied : (a b : ℕ) → ties (λ (x : ℕ) y. is_lt (nat_cmp x y)) a b ≡ (b == a)
tied a b = grind arith

module _ {X : Type 0} (n : X → ℕ) where
  -- the items of a number
  abbrev pub those : List X → ℕ → List X
  those xs k = filter (λ x. n x == k) xs

  -- the items of so many numbers from one on
  abbrev spread : List X → ℕ → ℕ → List X
  spread xs low count = flat_map (those xs) (range_with_len low count)

  none_spread : (low count : ℕ) → spread [] low count ≡ []
  none_spread low zero = refl
  none_spread low (suc count) = none_spread (low + 1) count

  -- an item stands among those of its number alone
  apart : (y : X) (ys : List X) (k : ℕ) → (n y ≡ k → ⊥) → those (y ∷ ys) k ≡ those ys k
  apart y ys k h = let e = ne_eqb (n y) k h in rw e refl

  among : (y : X) (ys : List X) (k : ℕ) → n y ≡ k → those (y ∷ ys) k ≡ y ∷ those ys k
  among y ys k h = let e = eq-eqb (n y) k h in rw e refl

  -- no item has a number below all of theirs
  none_of : (ys : List X) (k : ℕ) → All (λ y. k < n y) ys → those ys k ≡ []
  none_of [] k h = refl
  none_of (y ∷ ys) k h =
      let first = All-head (λ y. k < n y) y ys h in
      apart y ys k (λ e. omega (arith, first, e)) ∙ none_of ys k (All-tail (λ y. k < n y) y ys h)

  -- an item adds nothing to the items of greater numbers
  past : (y : X) (ys : List X) (low count : ℕ) → n y < low → spread (y ∷ ys) low count ≡ spread ys low count
  past y ys low zero h = refl
  past y ys low (suc count) h =
      let here = apart y ys low (λ e. omega (arith, h, e)) in
      let later = past y ys (low + 1) count (omega (arith, h)) in
      cc

  -- an item before items of no lower numbers comes first
  first_step : (y : X) (ys : List X) (low count : ℕ) (t : Bool) → (n y == low) ≡ t → All (λ z. n y ≤ n z) ys → low ≤ n y
      → (low < n y → spread (y ∷ ys) (low + 1) count ≡ y ∷ spread ys (low + 1) count) → spread (y ∷ ys) low (suc count) ≡ y ∷ spread ys low (suc count)
  first_step y ys low count true e h above rest =
      let same = eqb-true (n y) low e in
      let here = among y ys low same in
      let later = past y ys (low + 1) count (omega (arith, same)) in
      cc
  first_step y ys low count false e h above rest =
      let other = eqb-false (n y) low e in
      let more : low < n y = omega (arith, above, other) in
      let here = apart y ys low other in
      let none = none_of ys low (All-weaker (λ z. n y ≤ n z) (λ z. low < n z) (λ z k. omega (arith, k, more)) ys h) in
      let later = rest more in
      cc

  comes_first : (y : X) (ys : List X) (low count : ℕ) → All (λ z. n y ≤ n z) ys → low ≤ n y → n y < low + count → spread (y ∷ ys) low count ≡ y ∷ spread ys low count
  comes_first y ys low zero h above under = absurd (omega (arith, above, under))
  comes_first y ys low (suc count) h above under =
      first_step y ys low count (n y == low) refl h above (λ more. comes_first y ys (low + 1) count h (omega (arith, more)) (omega (arith, under)))

  -- each item's number is no greater than those after it
  abbrev Rising : List X → Type 0
  Rising [] = Unit {0}
  Rising (y ∷ ys) = All (λ z. n y ≤ n z) ys × Rising ys

  -- what a sort by the number ensures
  rising : (ys : List X) → IsNonDecreasingBy n ys → Rising ys
  rising [] h = tt
  rising (y ∷ ys) h = (λ k d l. h 0 (suc k) d (omega arith) (omega (arith, l)), rising ys (λ i j d l m. h (suc i) (suc j) d (omega (arith, l)) (omega (arith, m))))

  -- such items are those of each number, one number after another
  grouped : (ys : List X) (count : ℕ) → Rising ys → All (λ y. n y < count) ys → spread ys 0 count ≡ ys
  grouped [] count r h = none_spread 0 count
  grouped (y ∷ ys) count r h =
      comes_first y ys 0 count r.0 (omega arith) (omega (arith, All-head (λ y. n y < count) y ys h))
      ∙ ap (λ rest. y ∷ rest) (grouped ys count r.1 (All-tail (λ y. n y < count) y ys h))

  -- no number is above the greatest
  within : (xs : List X) (a : ℕ) → All (λ x. n x < suc (fold max a (map n xs))) xs
  within [] a = All-nil (λ x. n x < suc a)
  within (x ∷ xs) a =
      All-cons (λ x'. n x' < suc (fold max (max a (n x)) (map n xs))) x xs (omega (arith, least (map n xs) (max a (n x)))) (within xs (max a (n x)))

  -- there is an item of a number, or none is in a list
  one_or_none : {P : Type 0} (k : ℕ) (z : X) (zs : List X) (t : Bool) → (n z == k) ≡ t → ((x : X) → n x ≡ k → P) → (those (z ∷ zs) k ≡ [] → P) → ((those zs k ≡ [] → P) → P) → P
  one_or_none k z zs true e some none rest = some z (eqb-true (n z) k e)
  one_or_none k z zs false e some none rest = rest (λ h. none (apart z zs k (eqb-false (n z) k e) ∙ h))

  some_or_none : {P : Type 0} (k : ℕ) (zs : List X) → ((x : X) → n x ≡ k → P) → (those zs k ≡ [] → P) → P
  some_or_none k [] some none = none refl
  some_or_none k (z ∷ zs) some none = one_or_none k z zs (n z == k) refl some none (some_or_none k zs some)

  -- those that an item ties with are those of its number
  tied_those : (x : X) (xs : List X) → filter (ties (λ x y. is_lt (nat_cmp (n x) (n y))) x) xs ≡ those xs (n x)
  tied_those x xs = λ i. filter (λ y. tied (n x) (n y) i) xs

  kept_at : (xs ys : List X) → IsStableByKey n nat_cmp xs ys → (k : ℕ) (x : X) → n x ≡ k → those ys k ≡ those xs k
  kept_at xs ys stable k x e = subst (λ m. those ys m ≡ those xs m) e (sym (tied_those x ys) ∙ stable x ∙ tied_those x xs)

  -- a stable sort leaves the items of a number in their order
  kept : (xs ys : List X) → IsStableByKey n nat_cmp xs ys → (k : ℕ) → those ys k ≡ those xs k
  kept xs ys stable k =
      some_or_none k ys (kept_at xs ys stable k) (λ e. some_or_none k xs (kept_at xs ys stable k) (λ f. e ∙ sym f))

  -- so it gives the items of each number, one number after another
  pub sorted_is_grouped : (xs ys : List X) → IsPermutation xs ys → IsSortedByKey n nat_cmp ys → IsStableByKey n nat_cmp xs ys → ys ≡ flat_map (those xs) (range_with_len 0 (suc (greatest (map n xs))))
  sorted_is_grouped xs ys moved sorted stable =
      let count : ℕ = suc (greatest (map n xs)) in
      sym (grouped ys count (rising ys (IsNonDecreasingBy-from_sort n ys sorted)) (All-permutation (λ x. n x < count) xs ys moved (within xs 0)))
      ∙ (λ i. flat_map (λ k. kept xs ys stable k i) (range_with_len 0 count))

-- what is shown by items that pass a test of what they show
map_filter : {X Y : Type 0} (p : Y → Bool) (v : X → Y) (xs : List X) → map v (filter (λ x. p (v x)) xs) ≡ filter p (map v xs)
map_filter p v [] = refl
map_filter p v (x ∷ xs) = by (p (v x)) (map_filter p v xs) where
  by : (t : Bool) → map v (filter (λ x. p (v x)) xs) ≡ filter p (map v xs) → map v (cond t (x ∷ filter (λ x. p (v x)) xs) (filter (λ x. p (v x)) xs)) ≡ cond t (v x ∷ filter p (map v xs)) (filter p (map v xs))
  by true e = ap (λ l. v x ∷ l) e
  by false e = e

-- what is shown by items of several lists
map_flat_map : {X Y K : Type 0} (v : X → Y) (f : K → List X) (ks : List K) → map v (flat_map f ks) ≡ flat_map (λ k. map v (f k)) ks
map_flat_map v f [] = refl
map_flat_map v f (k ∷ ks) = map-append v (f k) (flat_map f ks) ∙ ap (λ l. map v (f k) ++ l) (map_flat_map v f ks)

-- the same of what the items show, by a closure that answers the number of what an item shows
pub sorted_shown : {X Y : Type 0} (v : X → Y) (n : Y → ℕ) {F : Type 0} {g : Mut F (Bor X × Unit {0}) ℕ} {f : F} (xs ys : List X) (shown : List Y) → map v xs ≡ shown
    → IsPermutation xs ys → ((key : X → ℕ) → ComputesKey g key f → IsSortedByKey key nat_cmp ys) → ((key : X → ℕ) → ComputesKey g key f → IsStableByKey key nat_cmp xs ys)
    → ((a : Bor X × Unit {0}) (r : ℕ) (f' : F) → Called g f a r f' → (r ≡ n (v a.0.now)) × (f' ≡ f))
    → map v ys ≡ flat_map (λ k. filter (λ y. n y == k) shown) (range_with_len 0 (suc (greatest (map n shown))))
sorted_shown {X} v n {F} {g} {f} xs ys shown is moved sorted stable answers =
    let number = λ (x : X). n (v x) in
    let computes : ComputesKey g number f = always_returns_same g (λ a r. r ≡ n (v a.0.now)) f answers in
    let count : ℕ = suc (greatest (map number xs)) in
    let counted : map number xs ≡ map n shown = sym (map-map n v xs) ∙ ap (map n) is in
    ap (map v) (sorted_is_grouped number xs ys moved (sorted number computes) (stable number computes))
    ∙ map_flat_map v (those number xs) (range_with_len 0 count)
    ∙ (λ i. flat_map (λ k. map_filter (λ y. n y == k) v xs i) (range_with_len 0 count))
    ∙ (λ i. flat_map (λ k. filter (λ y. n y == k) (is i)) (range_with_len 0 (suc (greatest (counted i)))))
