-- A sorted list with the elements of another one is that one put in order, where equal means the same.
use Rattle.std.proofs.Common.{◌≡◌, ℕ, suc, ◌+◌, Bool, true, false, cond, List, [], ◌∷◌, get_or, fold, refl, sym, ap, subst, arith}
use Rattle.std.specs.declared.cmp.Ordering.{Ordering}
use Rattle.std.specs.declared.cmp.Ordering.TheVariants.{Less, Equal, Greater}
use Rattle.std.specs.Ordering.{is_lt, is_gt, ordering_reverse}
use Rattle.std.specs.Cmp.{IsTotalOrder}
use Rattle.std.specs.List.{sum_by}
use Rattle.std.specs.List.Sorted.{IsSorted, IsPermutation}
use Rattle.std.proofs.lemmas.Cmp.{upto, tied_itself}
use Rattle.std.proofs.lemmas.List.Sorted.{sum_by-IsPermutation}
use Rattle.std.proofs.lemmas.List.Sums.{sum_by-cons}

-- a test of an order, and of the order taken back
gt_of_reverse : (a b : Ordering) → a ≡ ordering_reverse b → is_lt b ≡ false → is_gt a ≡ false
gt_of_reverse a Less e l = absurd cc
gt_of_reverse a Equal e l = rw e refl
gt_of_reverse a Greater e l = rw e refl

gt_from_gt : (a b : Ordering) → a ≡ ordering_reverse b → is_gt b ≡ true → is_gt a ≡ false
gt_from_gt a Less e g = absurd cc
gt_from_gt a Equal e g = absurd cc
gt_from_gt a Greater e g = rw e refl

-- neither greater: equal
equal_from : (a b : Ordering) → a ≡ ordering_reverse b → is_gt a ≡ false → is_gt b ≡ false → a ≡ Equal
equal_from a Less e g h = let f = subst (λ o. is_gt o ≡ false) e g in absurd cc
equal_from a Equal e g h = e
equal_from a Greater e g h = absurd cc

module _ {K : Type 0} (R : K → K → Ordering) where
  -- an element isn't above those of a list
  abbrev pub Under : K → List K → Type 0
  Under a [] = Unit {0}
  Under a (b ∷ bs) = (is_gt (R a b) ≡ false) × Under a bs

  abbrev pub Ascending : List K → Type 0
  Ascending [] = Unit {0}
  Ascending (b ∷ bs) = Under b bs × Ascending bs

  -- an ordered list with an element put behind those that it doesn't come before
  abbrev pub put : K → List K → List K
  put a [] = a ∷ []
  put a (b ∷ bs) = cond (is_gt (R b a)) (a ∷ b ∷ bs) (b ∷ put a bs)

either : {X : Type 0} (P : X → Type 0) (t : Bool) (x y : X) → P x → P y → P (cond t x y)
either P true x y h k = h
either P false x y h k = k

module _ {K : Type 0} (R : K → K → Ordering) (o : IsTotalOrder R) where
  under_more : (a b : K) (bs : List K) → is_gt (R a b) ≡ false → Under R b bs → Under R a bs
  under_more a b [] h u = tt
  under_more a b (c ∷ bs) h u = (upto o a b c h u.0, under_more a b bs h u.1)

  under_put : (x a : K) (bs : List K) → is_gt (R x a) ≡ false → Under R x bs → Under R x (put R a bs)
  under_put x a [] h u = (h, tt)
  under_put x a (b ∷ bs) h u = either (Under R x) (is_gt (R b a)) (a ∷ b ∷ bs) (b ∷ put R a bs) (h, u) (u.0, under_put x a bs h u.1)

  put_step : (a b : K) (bs : List K) (t : Bool) → is_gt (R b a) ≡ t → Ascending R (b ∷ bs) → Ascending R (put R a bs) → Ascending R (cond t (a ∷ b ∷ bs) (b ∷ put R a bs))
  put_step a b bs true e s r =
      let first = gt_from_gt (R a b) (R b a) (o.antisymm a b) e in
      ((first, under_more a b bs first s.0), s)
  put_step a b bs false e s r = (under_put b a bs e s.0, r)

  ascending_put : (a : K) (bs : List K) → Ascending R bs → Ascending R (put R a bs)
  ascending_put a [] s = (tt, tt)
  ascending_put a (b ∷ bs) s = put_step a b bs (is_gt (R b a)) refl s (ascending_put a bs s.1)

  ascending_all : (items bs : List K) → Ascending R bs → Ascending R (fold (λ bs a. put R a bs) bs items)
  ascending_all [] bs s = s
  ascending_all (a ∷ items) bs s = ascending_all items (put R a bs) (ascending_put a bs s)

  -- what a sort ensures
  ascending_from_sorted : (xs : List K) → IsSorted R xs → Ascending R xs
  ascending_from_sorted [] s = tt
  ascending_from_sorted (b ∷ []) s = (tt, tt)
  ascending_from_sorted (b ∷ c ∷ cs) s =
      let later = ascending_from_sorted (c ∷ cs) (λ k d l h.
      let e : suc k + 1 ≡ suc (k + 1) = omega arith in
      subst (λ n. is_lt (R (get_or (b ∷ c ∷ cs) n d) (get_or (c ∷ cs) k d)) ≡ false) e (s (suc k) d (omega arith) (omega arith))) in
      let first = gt_of_reverse (R b c) (R c b) (o.antisymm b c) (s 0 b (omega arith) (omega arith)) in
      ((first, under_more b c cs first later.0), later)

  sum_put : (f : K → ℕ) (a : K) (bs : List K) → sum_by f (put R a bs) ≡ f a + sum_by f bs
  sum_put f a [] = sum_by-cons f a []
  sum_put f a (b ∷ bs) =
      let later = sum_put f a bs in
      let here = sum_by-cons f b bs in
      either (λ xs. sum_by f xs ≡ f a + sum_by f (b ∷ bs)) (is_gt (R b a)) (a ∷ b ∷ bs) (b ∷ put R a bs)
      (sum_by-cons f a (b ∷ bs))
      (omega (arith, sum_by-cons f b (put R a bs)))

  pub sum_all : (f : K → ℕ) (items bs : List K) → sum_by f (fold (λ bs a. put R a bs) bs items) ≡ sum_by f bs + sum_by f items
  sum_all f [] bs = omega arith
  sum_all f (a ∷ items) bs =
      let later = sum_all f items (put R a bs) in
      let here = sum_put f a bs in
      let first = sum_by-cons f a items in
      omega arith

  -- how many elements are below one
  abbrev below : K → K → ℕ
  below x z = cond (is_gt (R x z)) 1 0

  none_below : (x : K) (xs : List K) → Under R x xs → sum_by (below x) xs ≡ 0
  none_below x [] u = refl
  none_below x (y ∷ ys) u =
      let later = none_below x ys u.1 in
      let here : below x y ≡ 0 = rw u.0 refl in
      omega (arith, sum_by-cons (below x) y ys)

  not_below : (t : Bool) (n : ℕ) → n ≡ cond t 1 0 → n ≡ 0 → t ≡ false
  not_below true n h e = absurd (omega arith)
  not_below false n h e = refl

  heads : (x y : K) (xs ys : List K) → Under R x xs → ((f : K → ℕ) → sum_by f (x ∷ xs) ≡ sum_by f (y ∷ ys)) → is_gt (R x y) ≡ false
  heads x y xs ys u h =
      let mine : below x x ≡ 0 = rw (tied_itself o x) refl in
      let later = none_below x xs u in
      let all = h (below x) in
      let e : below x y ≡ 0 = omega (arith, sum_by-cons (below x) x xs, sum_by-cons (below x) y ys) in
      not_below (is_gt (R x y)) (below x y) refl e

  module _ (exact : (x y : K) → R x y ≡ Equal → x ≡ y) where
    same : (xs ys : List K) → Ascending R xs → Ascending R ys → ((f : K → ℕ) → sum_by f xs ≡ sum_by f ys) → xs ≡ ys
    same [] [] s t h = refl
    same [] (y ∷ ys) s t h = absurd (omega (arith, h (λ _. 1), sum_by-cons (λ _. 1) y ys))
    same (x ∷ xs) [] s t h = absurd (omega (arith, h (λ _. 1), sum_by-cons (λ _. 1) x xs))
    same (x ∷ xs) (y ∷ ys) s t h =
        let first : x ≡ y = exact x y (equal_from (R x y) (R y x) (o.antisymm x y) (heads x y xs ys s.0 h) (heads y x ys xs t.0 (λ f. sym (h f)))) in
        let later : xs ≡ ys = same xs ys s.1 t.1 (λ f.
        let e : f x ≡ f y = ap f first in
        omega (arith, h f, sum_by-cons f x xs, sum_by-cons f y ys)) in
        cc

    -- a sorted list with the elements of another one is that one, put in order element by element
    pub sorted_is_ordered : (xs ys : List K) → IsPermutation xs ys → IsSorted R ys → ys ≡ fold (λ bs a. put R a bs) [] xs
    sorted_is_ordered xs ys p s =
        same ys (fold (λ bs a. put R a bs) [] xs) (ascending_from_sorted ys s) (ascending_all xs [] tt) (λ f.
        let counted = sum_all f xs [] in
        let moved = sum_by-IsPermutation f xs ys p in
        omega arith)
