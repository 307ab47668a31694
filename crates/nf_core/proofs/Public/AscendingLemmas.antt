-- Texts put in their order, each once, ascend.
use Rattle.std.proofs.Common.{◌≡◌, ℕ, true, false, List, [], ◌∷◌, ◌++◌, ◌||◌, length, get_or, fold, All, refl, sym, ap, subst, ◌∙◌, append_assoc, length-append, true≢false, arith, if◌then◌else◌}
use Rattle.std.specs.declared.cmp.Ordering.{Ordering}
use Rattle.std.specs.declared.cmp.Ordering.TheVariants.{Less, Equal, Greater}
use Rattle.std.specs.Ordering.{match_ordering, ordering_reverse, is_eq}
use Rattle.std.specs.Cmp.{IsTotalOrder}
use Rattle.std.specs.Cmp.Lexicographic.{nat_list_cmp_total, nat_list_eq_equiv}
use Rattle.std.specs.List.{list_any, IsDistinct}
use Rattle.std.specs.List.Sorted.{IsStrictlySortedBy}
use Rattle.std.specs.BTreeMap.{is_at}
use Rattle.std.specs.BTreeSet.{insert_key}
use Rattle.std.proofs.Math.Seq.{get_or-append_seam}
use Rattle.std.proofs.lemmas.List.{append-nil, get_or_append_left}
use Rattle.std.proofs.lemmas.List.Elements.{All-from_recursion, recursion_from_All, All-weaker}
use Rattle.std.proofs.lemmas.List.Folds.{list_any_none}
use Rattle.std.proofs.lemmas.Map.Keys.{IsDistinct-from_sorted, apart_from_distinct}
use Rattle.std.proofs.lemmas.Map.Text.{is_eq-slice_cmp}
use Rattle.std.proofs.lemmas.Map.Views.{All-insert_key}
use Rattle.indexmap.specs.IndexSet.{insert_all}
use Rattle.nf_core.specs.Texts.{text_cmp, text_eq}
use Rattle.nf_core.specs.Written.{ascending, each_once}

module _ {K : Type 0} (R : K → K → Ordering) (order : IsTotalOrder R) where
  IsStrictlySortedBy-insert_key : (ks : List K) (k : K) → IsStrictlySortedBy R ks → IsStrictlySortedBy R (insert_key R ks k)
  unfolding IsStrictlySortedBy
  IsStrictlySortedBy-insert_key [] k s = (tt, tt)
  IsStrictlySortedBy-insert_key (x ∷ xs) k s = by (R k x) refl (IsStrictlySortedBy-insert_key xs k s.1)
    where
      by : (o : Ordering) → R k x ≡ o → IsStrictlySortedBy R (insert_key R xs k) → IsStrictlySortedBy R (match_ordering o (k ∷ x ∷ xs) (x ∷ xs) (x ∷ insert_key R xs k))
      by Less e rest = ((e, recursion_from_All _ xs (All-weaker (λ y. R x y ≡ Less) (λ y. R k y ≡ Less) (λ y h. order.trans k x y e h) xs (All-from_recursion _ xs s.0))), s)
      by Equal e rest = s
      by Greater e rest = (recursion_from_All _ (insert_key R xs k) (All-insert_key R k (λ y. R x y ≡ Less) xs (All-from_recursion _ xs s.0) (order.antisymm x k ∙ ap ordering_reverse e)), rest)

  pub IsStrictlySortedBy-fold : (xs ks : List K) → IsStrictlySortedBy R ks → IsStrictlySortedBy R (fold (λ all x. insert_key R all x) ks xs)
  IsStrictlySortedBy-fold [] ks s = s
  IsStrictlySortedBy-fold (x ∷ xs) ks s = IsStrictlySortedBy-fold xs (insert_key R ks x) (IsStrictlySortedBy-insert_key ks x s)

  -- a key that is there changes nothing
  pub insert_key-present : (ks : List K) (k : K) → IsStrictlySortedBy R ks → list_any (is_at (R k)) ks ≡ true → ks ≡ insert_key R ks k
  unfolding IsStrictlySortedBy
  insert_key-present [] k s there = absurd (true≢false (sym there))
  insert_key-present (x ∷ xs) k s there = by (R k x) refl (insert_key-present xs k s.1)
    where
      by : (o : Ordering) → R k x ≡ o → (list_any (is_at (R k)) xs ≡ true → xs ≡ insert_key R xs k) → x ∷ xs ≡ match_ordering o (k ∷ x ∷ xs) (x ∷ xs) (x ∷ insert_key R xs k)
      by Less e rest =
          let after : All (λ y. R k y ≡ Less) xs = All-weaker (λ y. R x y ≡ Less) (λ y. R k y ≡ Less) (λ y h. order.trans k x y e h) xs (All-from_recursion _ xs s.0) in
          let apart : list_any (is_at (R k)) xs ≡ false = list_any_none (is_at (R k)) xs (All-weaker (λ y. R k y ≡ Less) (λ y. is_at (R k) y ≡ false) (λ y h. ap is_eq h) xs after) in
          absurd (true≢false (sym there ∙ (λ i. is_eq (e i) || apart i)))
      by Equal e rest = refl
      by Greater e rest = ap (λ ys. x ∷ ys) (rest (sym (ap (λ o. is_eq o || list_any (is_at (R k)) xs) e) ∙ there))

pub IsStrictlySortedBy-ascending : (texts : List (List ℕ)) → IsStrictlySortedBy text_cmp (ascending texts)
unfolding IsStrictlySortedBy
IsStrictlySortedBy-ascending texts = IsStrictlySortedBy-fold text_cmp nat_list_cmp_total texts [] tt

-- texts that differ are each there once
insert_all-apart : (texts all : List (List ℕ)) → IsDistinct text_eq (all ++ texts) → insert_all text_eq all texts ≡ all ++ texts
insert_all-apart [] all d = sym (append-nil all)
insert_all-apart (x ∷ texts) all d =
    let new : list_any (text_eq x) all ≡ false = list_any_none (text_eq x) all (λ k e h.
    nat_list_eq_equiv.symm x (get_or all k e) ∙ sym (λ i. text_eq (get_or_append_left all (x ∷ texts) e k h i) (get_or-append_seam all x texts e i)) ∙ apart_from_distinct text_eq (all ++ x ∷ texts) k (length all) e d h (rw length-append omega arith)) in
    ap (λ b. insert_all text_eq (if b then all else all ++ x ∷ []) texts) new
    ∙ insert_all-apart texts (all ++ x ∷ []) (subst (IsDistinct text_eq) (sym (append_assoc all (x ∷ []) texts)) d)
    ∙ append_assoc all (x ∷ []) texts

-- and so are texts that ascend
pub each_once-ascending : (texts : List (List ℕ)) → IsStrictlySortedBy text_cmp texts → each_once texts ≡ texts
each_once-ascending texts s = insert_all-apart texts [] (subst (λ e. IsDistinct e texts) (λ i x y. is_eq-slice_cmp x y i) (IsDistinct-from_sorted text_cmp texts s))
