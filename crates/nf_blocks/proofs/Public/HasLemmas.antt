-- What is in a sorted list, whatever the order.
use Rattle.std.proofs.Common.{◌≡◌, Bool, true, false, cond, not, ◌&&◌, ◌||◌, List, [], ◌∷◌, ◌++◌, refl, sym, ap, ◌∙◌, true≢false, subst}
use Rattle.std.specs.Cmp.{IsTotalOrder}
use Rattle.std.specs.declared.cmp.Ordering.{Ordering}
use Rattle.std.specs.declared.cmp.Ordering.TheVariants.{Less, Equal, Greater}
use Rattle.std.specs.Ordering.{match_ordering, is_eq, is_gt}
use Rattle.std.specs.List.{AllByRecursion}
use Rattle.std.specs.List.Sorted.{IsStrictlySortedBy}
use Rattle.std.specs.BTreeMap.{is_at}
use Rattle.std.specs.BTreeSet.{insert_key}
use Rattle.std.proofs.lemmas.Cmp.{alike_right}
use Rattle.std.proofs.lemmas.List.Elements.{All-from_recursion, All-weaker}
use Rattle.std.proofs.lemmas.List.Folds.{list_any_none}
use Rattle.nf_blocks.specs.Blocks.{has, removed}

and_false : (b : Bool) → (b && false) ≡ false
and_false true = refl
and_false false = refl

and_true : (b : Bool) → (b && true) ≡ b
and_true true = refl
and_true false = refl

or_swapped : (a b c : Bool) → (a || (b || c)) ≡ (b || (a || c))
or_swapped true true c = refl
or_swapped true false c = refl
or_swapped false true c = refl
or_swapped false false c = refl

or_once : (a b : Bool) → (a || b) ≡ (a || (a || b))
or_once true b = refl
or_once false b = refl

all_last : {T : Type 0} (P : T → Type 0) (xs : List T) (x : T) → AllByRecursion P (xs ++ x ∷ []) → P x
all_last P [] x a = a.0
all_last P (y ∷ ys) x a = all_last P ys x a.1

module _ {T : Type 0} {R : T → T → Ordering} (o : IsTotalOrder R) where
  -- elements that the order takes for equal are in the same lists
  pub has_alike : (q x : T) (xs : List T) → R q x ≡ Equal → has R xs q ≡ has R xs x
  has_alike q x [] e = refl
  has_alike q x (y ∷ ys) e = ap (λ b. is_eq b || has R ys q) (o.congr q x y e) ∙ ap (λ b. is_eq (R x y) || b) (has_alike q x ys e)

  -- an element that is entered is there, besides those that were
  pub has_inserted : (k : T) (xs : List T) (q : T) → has R (insert_key R xs k) q ≡ (is_eq (R q k) || has R xs q)
  has_inserted k [] q = refl
  has_inserted k (x ∷ xs) q = by (R k x) refl (has_inserted k xs q)
    where
      by : (c : Ordering) → R k x ≡ c → has R (insert_key R xs k) q ≡ (is_eq (R q k) || has R xs q)
          → has R (match_ordering c (k ∷ x ∷ xs) (x ∷ xs) (x ∷ insert_key R xs k)) q ≡ (is_eq (R q k) || (is_eq (R q x) || has R xs q))
      by Less e rest = refl
      by Equal e rest =
          or_once (is_eq (R q x)) (has R xs q) ∙ ap (λ c. is_eq c || (is_eq (R q x) || has R xs q)) (sym (alike_right o k x q e))
      by Greater e rest = ap (λ b. is_eq (R q x) || b) rest ∙ or_swapped (is_eq (R q x)) (is_eq (R q k)) (has R xs q)

  -- the first of a sorted list isn't among the rest
  pub none_again : (x : T) (xs : List T) → IsStrictlySortedBy R (x ∷ xs) → has R xs x ≡ false
  unfolding IsStrictlySortedBy
  none_again x xs s = list_any_none (is_at (R x)) xs (All-weaker (λ y. R x y ≡ Less) (λ y. is_at (R x) y ≡ false) (λ y h. ap is_eq h) xs (All-from_recursion _ xs s.0))

  -- an element that is taken out is gone, and the others stay
  pub has_removed : (k : T) (xs : List T) (q : T) → IsStrictlySortedBy R xs → has R (removed R k xs) q ≡ (has R xs q && not (is_eq (R q k)))
  unfolding IsStrictlySortedBy
  has_removed k [] q s = refl
  has_removed k (x ∷ xs) q s = by (R k x) (R q x) refl refl (has_removed k xs q s.1)
    where
      equal_is : (c : Ordering) → is_eq c ≡ true → c ≡ Equal
      equal_is Less h = absurd (true≢false (sym h))
      equal_is Equal h = refl
      equal_is Greater h = absurd (true≢false (sym h))

      -- one that is tied to x where k isn't is not tied to k
      apart : R q x ≡ Equal → is_eq (R k x) ≡ false → (b : Bool) → is_eq (R q k) ≡ b → is_eq (R q k) ≡ false
      apart f e false g = g
      apart f e true g = absurd (true≢false (sym (ap is_eq (sym (o.congr q k x (equal_is (R q k) g)) ∙ f)) ∙ e))

      kept : (c : Bool) → is_eq (R k x) ≡ false → is_eq (R q x) ≡ c → has R (removed R k xs) q ≡ (has R xs q && not (is_eq (R q k)))
          → (is_eq (R q x) || has R (removed R k xs) q) ≡ ((is_eq (R q x) || has R xs q) && not (is_eq (R q k)))
      kept true e f rest =
          let out : is_eq (R q k) ≡ false = apart (equal_is (R q x) f) e (is_eq (R q k)) refl in
          ap (λ b. b || has R (removed R k xs) q) f ∙ sym (ap (λ b. (b || has R xs q) && not (is_eq (R q k))) f ∙ ap not out)
      kept false e f rest = ap (λ b. b || has R (removed R k xs) q) f ∙ rest ∙ sym (ap (λ b. (b || has R xs q) && not (is_eq (R q k))) f)

      gone : (c : Bool) → R k x ≡ Equal → is_eq (R q x) ≡ c → has R xs q ≡ ((is_eq (R q x) || has R xs q) && not (is_eq (R q k)))
      gone true e f =
          let left : has R xs q ≡ false = has_alike q x xs (equal_is (R q x) f) ∙ none_again x xs s in
          let out : is_eq (R q k) ≡ true = ap is_eq (alike_right o k x q e) ∙ f in
          left ∙ sym (ap (λ b. (is_eq (R q x) || has R xs q) && not b) out ∙ and_false (is_eq (R q x) || has R xs q))
      gone false e f =
          let out : is_eq (R q k) ≡ false = ap is_eq (alike_right o k x q e) ∙ f in
          sym (ap (λ b. (b || has R xs q) && not (is_eq (R q k))) f ∙ ap (λ b. has R xs q && not b) out ∙ and_true (has R xs q))

      by : (c d : Ordering) → R k x ≡ c → R q x ≡ d → has R (removed R k xs) q ≡ (has R xs q && not (is_eq (R q k)))
          → has R (cond (is_eq c) xs (x ∷ removed R k xs)) q ≡ ((is_eq (R q x) || has R xs q) && not (is_eq (R q k)))
      by Equal d e f rest = gone (is_eq (R q x)) e refl
      by Less d e f rest = kept (is_eq (R q x)) (ap is_eq e) refl rest
      by Greater d e f rest = kept (is_eq (R q x)) (ap is_eq e) refl rest

  most : (ys : List T) (x q : T) → IsStrictlySortedBy R (ys ++ x ∷ []) → has R (ys ++ x ∷ []) q ≡ true → is_gt (R q x) ≡ false
  unfolding IsStrictlySortedBy
  most [] x q s h = by (R q x) h
    where
      by : (c : Ordering) → (is_eq c || false) ≡ true → is_gt c ≡ false
      by Less e = refl
      by Equal e = refl
      by Greater e = absurd (true≢false (sym e))
  most (y ∷ ys) x q s h = by (R q y) refl h (most ys x q s.1)
    where
      by : (c : Ordering) → R q y ≡ c → (is_eq c || has R (ys ++ x ∷ []) q) ≡ true
          → (has R (ys ++ x ∷ []) q ≡ true → is_gt (R q x) ≡ false) → is_gt (R q x) ≡ false
      by Less e f rest = rest f
      by Equal e f rest = ap is_gt (o.congr q y x e ∙ all_last (λ z. R y z ≡ Less) ys x s.0)
      by Greater e f rest = rest f

  -- nothing in a sorted list is past its last element
  pub last_is_most : (xs ys : List T) (x q : T) → IsStrictlySortedBy R xs → xs ≡ ys ++ x ∷ [] → has R xs q ≡ true → is_gt (R q x) ≡ false
  last_is_most xs ys x q s e h = most ys x q (subst (IsStrictlySortedBy R) e s) (sym (ap (λ zs. has R zs q) e) ∙ h)
