-- What changes of a sorted list do to it.
use Rattle.std.proofs.Common.{◌≡◌, ℕ, zero, suc, ◌+◌, ◌<◌, ◌≤◌, Bool, true, false, cond, ◌||◌, List, [], ◌∷◌, ◌++◌, length, get_or, take, drop, refl, sym, ap, subst, ◌∙◌, arith}
use Rattle.std.specs.Cmp.{IsTotalOrder}
use Rattle.std.specs.declared.cmp.Ordering.{Ordering}
use Rattle.std.specs.declared.cmp.Ordering.TheVariants.{Less, Equal, Greater}
use Rattle.std.specs.Ordering.{match_ordering, is_eq, ordering_index, ordering_reverse}
use Rattle.std.specs.List.{AllByRecursion, remove}
use Rattle.std.specs.List.Sorted.{IsStrictlySortedBy, IsNonDecreasingBy}
use Rattle.std.specs.BTreeSet.{insert_key}
use Rattle.std.proofs.lemmas.Cmp.{alike_right, tied_back}
use Rattle.std.proofs.lemmas.List.{take-append-drop, drop_more}
use Rattle.std.proofs.lemmas.List.Elements.{All-from_recursion, recursion_from_All, All-get_or}
use Rattle.std.proofs.lemmas.Map.Views.{All-insert_key, All-remove_key}
use Rattle.nf_blocks.specs.Blocks.{has, removed}

module _ {X : Type 0} (P : X → Type 0) where
  pub all_left : (xs ys : List X) → AllByRecursion P (xs ++ ys) → AllByRecursion P xs
  all_left [] ys a = tt
  all_left (x ∷ xs) ys a = (a.0, all_left xs ys a.1)

  pub all_right : (xs ys : List X) → AllByRecursion P (xs ++ ys) → AllByRecursion P ys
  all_right [] ys a = a
  all_right (x ∷ xs) ys a = all_right xs ys a.1

  pub all_both : (xs ys : List X) → AllByRecursion P xs → AllByRecursion P ys → AllByRecursion P (xs ++ ys)
  all_both [] ys a b = b
  all_both (x ∷ xs) ys a b = (a.0, all_both xs ys a.1 b)

  pub all_weaker : (Q : X → Type 0) → ((x : X) → P x → Q x) → (xs : List X) → AllByRecursion P xs → AllByRecursion Q xs
  all_weaker Q f [] a = tt
  all_weaker Q f (x ∷ xs) a = (f x a.0, all_weaker Q f xs a.1)

  pub all_take : (xs : List X) (n : ℕ) → n ≤ length xs → ((k : ℕ) (d : X) → 0 ≤ k → k < n → P (get_or xs k d)) → AllByRecursion P (take n xs)
  all_take [] zero h f = tt
  all_take [] (suc n) h f = tt
  all_take (x ∷ xs) zero h f = tt
  all_take (x ∷ xs) (suc n) h f = (f zero x (omega arith) (omega arith), all_take xs n (omega arith) (λ k d a b. f (suc k) d (omega arith) (omega arith)))

  pub all_drop : (xs : List X) (n : ℕ) → ((k : ℕ) (d : X) → n ≤ k → k < length xs → P (get_or xs k d)) → AllByRecursion P (drop n xs)
  all_drop [] zero f = tt
  all_drop [] (suc n) f = tt
  all_drop (x ∷ xs) zero f = (f zero x (omega arith) (omega arith), all_drop xs zero (λ k d a b. f (suc k) d (omega arith) (omega arith)))
  all_drop (x ∷ xs) (suc n) f = all_drop xs n (λ k d a b. f (suc k) d (omega arith) (omega arith))

-- the element at an index
pub pick : {X : Type 0} (xs : List X) (n : ℕ) → n < length xs → (x : X) × (x ≡ get_or xs n x)
pick [] n h = absurd (omega arith)
pick (x ∷ xs) zero h = (x, refl)
pick (x ∷ xs) (suc n) h = pick xs n (omega arith)

-- a list around one of its elements
pub around : {X : Type 0} (xs : List X) (n : ℕ) (y : X) → n < length xs → y ≡ get_or xs n y → xs ≡ take n xs ++ (y ∷ drop (suc n) xs)
around xs n y h e =
    let step : n + 1 ≡ suc n = omega arith in
    sym (take-append-drop n xs) ∙ ap (λ ys. take n xs ++ ys) (drop_more xs n y h ∙ ap (λ m. get_or xs n y ∷ drop m xs) step ∙ ap (λ z. z ∷ drop (suc n) xs) (sym e))

module _ {T : Type 0} {R : T → T → Ordering} (o : IsTotalOrder R) where
  pub greater_back : (x y : T) → R x y ≡ Less → R y x ≡ Greater
  greater_back x y e = o.antisymm y x ∙ ap ordering_reverse e

  pub less_back : (x y : T) → R x y ≡ Greater → R y x ≡ Less
  less_back x y e = o.antisymm y x ∙ ap ordering_reverse e

  pub sorted_left : (xs ys : List T) → IsStrictlySortedBy R (xs ++ ys) → IsStrictlySortedBy R xs
  unfolding IsStrictlySortedBy
  sorted_left [] ys s = tt
  sorted_left (x ∷ xs) ys s = (all_left (λ y. R x y ≡ Less) xs ys s.0, sorted_left xs ys s.1)

  pub sorted_right : (xs ys : List T) → IsStrictlySortedBy R (xs ++ ys) → IsStrictlySortedBy R ys
  unfolding IsStrictlySortedBy
  sorted_right [] ys s = s
  sorted_right (x ∷ xs) ys s = sorted_right xs ys s.1

  -- what stands before an element of a sorted list is smaller
  pub before_smaller : (xs : List T) (y : T) (ys : List T) → IsStrictlySortedBy R (xs ++ y ∷ ys) → AllByRecursion (λ x. R x y ≡ Less) xs
  unfolding IsStrictlySortedBy
  before_smaller [] y ys s = tt
  before_smaller (x ∷ xs) y ys s = ((all_right (λ z. R x z ≡ Less) xs (y ∷ ys) s.0).0, before_smaller xs y ys s.1)

  -- ---- an element that isn't there
  pub insert_key_gap : (xs ys : List T) (v : T) → AllByRecursion (λ y. R y v ≡ Less) xs → AllByRecursion (λ y. R v y ≡ Less) ys → insert_key R (xs ++ ys) v ≡ xs ++ v ∷ ys
  insert_key_gap [] [] v a b = refl
  insert_key_gap [] (y ∷ ys) v a b = ap (λ c. match_ordering c (v ∷ y ∷ ys) (y ∷ ys) (y ∷ insert_key R ys v)) b.0
  insert_key_gap (x ∷ xs) ys v a b =
      ap (λ c. match_ordering c (v ∷ x ∷ (xs ++ ys)) (x ∷ (xs ++ ys)) (x ∷ insert_key R (xs ++ ys) v)) (greater_back x v a.0)
      ∙ ap (λ zs. x ∷ zs) (insert_key_gap xs ys v a.1 b)

  pub none_greater : (ys : List T) (v : T) → AllByRecursion (λ y. R v y ≡ Less) ys → has R ys v ≡ false
  none_greater [] v b = refl
  none_greater (y ∷ ys) v b = ap (λ c. is_eq c || has R ys v) b.0 ∙ none_greater ys v b.1

  pub has_gap : (xs ys : List T) (v : T) → AllByRecursion (λ y. R y v ≡ Less) xs → AllByRecursion (λ y. R v y ≡ Less) ys → has R (xs ++ ys) v ≡ false
  has_gap [] ys v a b = none_greater ys v b
  has_gap (x ∷ xs) ys v a b = ap (λ c. is_eq c || has R (xs ++ ys) v) (greater_back x v a.0) ∙ has_gap xs ys v a.1 b

  pub removed_none : (xs : List T) (v : T) → has R xs v ≡ false → removed R v xs ≡ xs
  removed_none [] v h = refl
  removed_none (x ∷ xs) v h = by (is_eq (R v x)) h (removed_none xs v)
    where
      by : (b : Bool) → (b || has R xs v) ≡ false → (has R xs v ≡ false → removed R v xs ≡ xs) → cond b xs (x ∷ removed R v xs) ≡ x ∷ xs
      by true e rest = absurd (grind arith)
      by false e rest = ap (λ ys. x ∷ ys) (rest e)

  -- ---- an element that is there
  pub insert_key_tied : (xs : List T) (y : T) (ys : List T) (v : T) → AllByRecursion (λ x. R x v ≡ Less) xs → R v y ≡ Equal → insert_key R (xs ++ y ∷ ys) v ≡ xs ++ y ∷ ys
  insert_key_tied [] y ys v a e = ap (λ c. match_ordering c (v ∷ y ∷ ys) (y ∷ ys) (y ∷ insert_key R ys v)) e
  insert_key_tied (x ∷ xs) y ys v a e =
      ap (λ c. match_ordering c (v ∷ x ∷ (xs ++ y ∷ ys)) (x ∷ (xs ++ y ∷ ys)) (x ∷ insert_key R (xs ++ y ∷ ys) v)) (greater_back x v a.0)
      ∙ ap (λ zs. x ∷ zs) (insert_key_tied xs y ys v a.1 e)

  pub has_tied : (xs : List T) (y : T) (ys : List T) (v : T) → R v y ≡ Equal → has R (xs ++ y ∷ ys) v ≡ true
  has_tied [] y ys v e = ap (λ c. is_eq c || has R ys v) e
  has_tied (x ∷ xs) y ys v e = by (is_eq (R v x)) (has_tied xs y ys v e)
    where
      by : (b : Bool) → has R (xs ++ y ∷ ys) v ≡ true → (b || has R (xs ++ y ∷ ys) v) ≡ true
      by true h = refl
      by false h = h

  pub removed_tied : (xs : List T) (y : T) (ys : List T) (v : T) → AllByRecursion (λ x. R x v ≡ Less) xs → R v y ≡ Equal → removed R v (xs ++ y ∷ ys) ≡ xs ++ ys
  removed_tied [] y ys v a e = ap (λ c. cond (is_eq c) ys (y ∷ removed R v ys)) e
  removed_tied (x ∷ xs) y ys v a e =
      ap (λ c. cond (is_eq c) (xs ++ y ∷ ys) (x ∷ removed R v (xs ++ y ∷ ys))) (greater_back x v a.0) ∙ ap (λ zs. x ∷ zs) (removed_tied xs y ys v a.1 e)

  smaller_tied : (xs : List T) (y v : T) → R y v ≡ Equal → AllByRecursion (λ x. R x y ≡ Less) xs → AllByRecursion (λ x. R x v ≡ Less) xs
  smaller_tied xs y v e a = all_weaker (λ x. R x y ≡ Less) (λ x. R x v ≡ Less) (λ x h. sym (alike_right o y v x e) ∙ h) xs a

  -- an element at an index of a sorted list
  pub record IsFound (xs : List T) (n : ℕ) (v : T) : Type 0 where
    pub there : has R xs v ≡ true
    pub kept : insert_key R xs v ≡ xs
    pub gone : removed R v xs ≡ remove xs n

  pub found_at : (xs : List T) (n : ℕ) (v y : T) → IsStrictlySortedBy R xs → n < length xs → y ≡ get_or xs n y → R y v ≡ Equal → IsFound xs n v
  found_at xs n v y s h e tie =
      let is = around xs n y h e in
      let less = smaller_tied (take n xs) y v tie (before_smaller (take n xs) y (drop (suc n) xs) (subst (IsStrictlySortedBy R) is s)) in
      let back = tied_back o y v tie in
      record {
        there = ap (λ ys. has R ys v) is ∙ has_tied (take n xs) y (drop (suc n) xs) v back;
        kept = ap (λ ys. insert_key R ys v) is ∙ insert_key_tied (take n xs) y (drop (suc n) xs) v less back ∙ sym is;
        gone = ap (λ ys. removed R v ys) is ∙ removed_tied (take n xs) y (drop (suc n) xs) v less back;
      }

  -- ---- a binary search
  rank_below : (x y v : T) → R x y ≡ Less → ordering_index (R x v) ≤ ordering_index (R y v)
  rank_below x y v e = by (R y v) refl (R x v) refl
    where
      by : (c : Ordering) → R y v ≡ c → (d : Ordering) → R x v ≡ d → ordering_index d ≤ ordering_index c
      by Less f d g = subst (λ b. ordering_index b ≤ ordering_index Less) (sym (o.trans x y v e f) ∙ g) (omega arith)
      by Equal f d g = subst (λ b. ordering_index b ≤ ordering_index Equal) (sym (sym (alike_right o y v x f) ∙ e) ∙ g) (omega arith)
      by Greater f Less g = omega arith
      by Greater f Equal g = omega arith
      by Greater f Greater g = omega arith

  pub ranks_rise : (xs : List T) (v : T) → IsStrictlySortedBy R xs → IsNonDecreasingBy (λ y. ordering_index (R y v)) xs
  unfolding IsStrictlySortedBy
  ranks_rise [] v s i j d a b = absurd (omega arith)
  ranks_rise (x ∷ xs) v s zero zero d a b = omega arith
  ranks_rise (x ∷ xs) v s (suc i) zero d a b = absurd (omega arith)
  ranks_rise (x ∷ xs) v s zero (suc j) d a b =
      rank_below x (get_or xs j d) v (All-get_or (λ y. R x y ≡ Less) xs j d (omega arith) (All-from_recursion _ xs s.0))
  ranks_rise (x ∷ xs) v s (suc i) (suc j) d a b = ranks_rise xs v s.1 i j d (omega arith) (omega arith)

  -- ---- order
  pub sorted_insert_key : (xs : List T) (v : T) → IsStrictlySortedBy R xs → IsStrictlySortedBy R (insert_key R xs v)
  unfolding IsStrictlySortedBy
  sorted_insert_key [] v s = (tt, tt)
  sorted_insert_key (x ∷ xs) v s = by (R v x) refl (sorted_insert_key xs v s.1)
    where
      by : (c : Ordering) → R v x ≡ c → IsStrictlySortedBy R (insert_key R xs v) → IsStrictlySortedBy R (match_ordering c (v ∷ x ∷ xs) (x ∷ xs) (x ∷ insert_key R xs v))
      by Less e rest = ((e, all_weaker (λ y. R x y ≡ Less) (λ y. R v y ≡ Less) (λ y l. o.trans v x y e l) xs s.0), s)
      by Equal e rest = s
      by Greater e rest =
          (recursion_from_All (λ y. R x y ≡ Less) (insert_key R xs v) (All-insert_key R v (λ y. R x y ≡ Less) xs (All-from_recursion _ xs s.0) (less_back v x e)), rest)

  pub sorted_removed : (xs : List T) (v : T) → IsStrictlySortedBy R xs → IsStrictlySortedBy R (removed R v xs)
  unfolding IsStrictlySortedBy
  sorted_removed [] v s = s
  sorted_removed (x ∷ xs) v s = by (is_eq (R v x)) (sorted_removed xs v s.1)
    where
      by : (b : Bool) → IsStrictlySortedBy R (removed R v xs) → IsStrictlySortedBy R (cond b xs (x ∷ removed R v xs))
      by true rest = s.1
      by false rest = (recursion_from_All (λ y. R x y ≡ Less) (removed R v xs) (All-remove_key (λ y. is_eq (R v y)) (λ y. R x y ≡ Less) xs (All-from_recursion _ xs s.0)), rest)
