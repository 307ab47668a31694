-- Texts each of which is below the next one.
use Rattle.std.proofs.Common.{◌≡◌, ℕ, true, false, List, [], ◌∷◌, refl, sym, ap, ◌∙◌, true≢false}
use Rattle.std.specs.declared.cmp.Ordering.{Ordering}
use Rattle.std.specs.declared.cmp.Ordering.TheVariants.{Less, Equal, Greater}
use Rattle.std.specs.Ordering.{is_lt}
use Rattle.std.specs.Cmp.Lexicographic.{nat_list_cmp_total}
use Rattle.std.specs.List.{AllByRecursion}
use Rattle.std.specs.List.Sorted.{IsStrictlySortedBy}
use Rattle.std.proofs.lemmas.List.Elements.{All-from_recursion, recursion_from_All, All-weaker}
use Rattle.nf_core.specs.Texts.{text_cmp}
use Rattle.nf_lemmas.proofs.BoolLemmas.{both}
use Rattle.nf_cparse.specs.inner.ManifestParts.{is_below, ascend}

less : (o : Ordering) → is_lt o ≡ true → o ≡ Less
less Less h = refl
less Equal h = absurd cc
less Greater h = absurd cc

below_all : (x : List ℕ) (xs : List (List ℕ)) → is_below x xs ≡ true → IsStrictlySortedBy text_cmp xs → AllByRecursion (λ y. text_cmp x y ≡ Less) xs
unfolding IsStrictlySortedBy
below_all x [] h s = tt
below_all x (y ∷ ys) h s =
    let first = less (text_cmp x y) h in
    (first, recursion_from_All _ ys (All-weaker (λ z. text_cmp y z ≡ Less) (λ z. text_cmp x z ≡ Less) (λ z l. nat_list_cmp_total.trans x y z first l) ys (All-from_recursion _ ys s.0)))

pub ascend_sorted : (texts : List (List ℕ)) → ascend texts ≡ true → IsStrictlySortedBy text_cmp texts
unfolding IsStrictlySortedBy
ascend_sorted [] h = tt
ascend_sorted (x ∷ xs) h =
    let p = both (is_below x xs) (ascend xs) h in
    (below_all x xs p.0 (ascend_sorted xs p.1), ascend_sorted xs p.1)

pub sorted_ascend : (texts : List (List ℕ)) → IsStrictlySortedBy text_cmp texts → ascend texts ≡ true
unfolding IsStrictlySortedBy
sorted_ascend [] s = refl
sorted_ascend (x ∷ []) s = refl
sorted_ascend (x ∷ y ∷ ys) s = rw (s.0.0, sorted_ascend (y ∷ ys) s.1) refl

-- keys that don't ascend are no name's
pub not_ascending : (texts others : List (List ℕ)) → ascend texts ≡ false → others ≡ texts → IsStrictlySortedBy text_cmp others → ⊥
not_ascending texts others h e s = true≢false (sym (sorted_ascend others s) ∙ ap ascend e ∙ h)
