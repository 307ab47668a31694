-- What a binary search in the block of an element says of the whole list.
use Rattle.std.proofs.Common.{◌≡◌, ℕ, suc, ◌+◌, ◌<◌, ◌≤◌, false, List, ◌∷◌, ◌++◌, length, get_or, take, drop, sym, ap, subst, ◌∙◌, arith, append_assoc, length-append}
use Rattle.std.specs.Cmp.{IsTotalOrder}
use Rattle.std.specs.Global.{Vec}
use Rattle.std.specs.declared.cmp.Ordering.{Ordering}
use Rattle.std.specs.declared.cmp.Ordering.TheVariants.{Less, Equal, Greater}
use Rattle.std.specs.Ordering.{ordering_index}
use Rattle.std.specs.List.{AllByRecursion, insert}
use Rattle.std.specs.List.Sorted.{IsStrictlySortedBy, IsNonDecreasingBy, IsPartitionPoint}
use Rattle.std.specs.BTreeSet.{insert_key}
use Rattle.std.proofs.lemmas.List.{take-append-drop}
use Rattle.nf_blocks.specs.Blocks.{has}
use Rattle.nf_blocks.specs.inner.Flat.{flat}
use Rattle.nf_blocks.specs.inner.Places.{items_at, start_of}
use Rattle.nf_blocks.specs.inner.Gaps.{IsBlockOf}
use Rattle.nf_blocks.proofs.BlockLemmas.{flat_at, in_middle, item_at, place_bound}
use Rattle.nf_blocks.proofs.ChangeLemmas.{pick, all_both, all_weaker, all_take, all_drop, sorted_left, sorted_right, less_back, insert_key_gap, has_gap, IsFound, found_at, ranks_rise}

module _ {T : Type 0} {R : T → T → Ordering} (o : IsTotalOrder R) (bs : List (Vec T)) (at p : ℕ) (v : T) (s : IsStrictlySortedBy R (flat bs)) where
  -- no element is equal, and a place is the one for it
  pub record IsFree : Type 0 where
    pub none : has R (flat bs) v ≡ false
    pub placed : insert_key R (flat bs) v ≡ insert (flat bs) (start_of bs at + p) v
    pub bound : start_of bs at + p ≤ length (flat bs)

  pub free_at : (ys : List T) → ys ≡ items_at bs at → IsBlockOf R bs v at → p ≤ length ys
      → (IsNonDecreasingBy (λ y. ordering_index (R y v)) ys → IsPartitionPoint (λ y. R y v ≡ Less) (λ y. R y v ≡ Greater) ys p) → IsFree
  free_at ys e block h search =
      let before = flat (take at bs) in
      let behind = flat (drop (suc at) bs) in
      let step : at + 1 ≡ suc at = omega arith in
      let is : flat bs ≡ before ++ (ys ++ behind) = flat_at bs at ∙ ap (λ zs. before ++ (zs ++ behind)) (sym e) in
      let sorted = sorted_left o ys behind (sorted_right o before (ys ++ behind) (subst (IsStrictlySortedBy R) is s)) in
      let parts = search (ranks_rise o ys v sorted) in
      let smaller = all_both (λ y. R y v ≡ Less) before (take p ys) block.smaller (all_take (λ y. R y v ≡ Less) ys p h parts.0) in
      let after = subst (λ n. AllByRecursion (λ y. R v y ≡ Less) (flat (drop n bs))) step block.greater in
      let greater = all_both (λ y. R v y ≡ Less) (drop p ys) behind
      (all_weaker (λ y. R y v ≡ Greater) (λ y. R v y ≡ Less) (λ y g. less_back o y v g) (drop p ys) (all_drop (λ y. R y v ≡ Greater) ys p parts.1)) after in
      let whole : flat bs ≡ (before ++ take p ys) ++ (drop p ys ++ behind) =
      is ∙ ap (λ zs. before ++ (zs ++ behind)) (sym (take-append-drop p ys)) ∙ regroup before (take p ys) (drop p ys) behind in
      record {
        none = ap (λ zs. has R zs v) whole ∙ has_gap o (before ++ take p ys) (drop p ys ++ behind) v smaller greater;
        placed =
            ap (λ zs. insert_key R zs v) whole
            ∙ insert_key_gap o (before ++ take p ys) (drop p ys ++ behind) v smaller greater
            ∙ sym (regroup before (take p ys) (v ∷ drop p ys) behind)
            ∙ sym (in_middle before ys behind p v h)
            ∙ ap (λ zs. insert zs (start_of bs at + p) v) (sym is);
        bound = omega (arith, ap length is, length-append before (ys ++ behind), length-append ys behind);
      }
    where
      regroup : (xs ys zs ws : List T) → xs ++ ((ys ++ zs) ++ ws) ≡ (xs ++ ys) ++ (zs ++ ws)
      regroup xs ys zs ws = ap (λ us. xs ++ us) (append_assoc ys zs ws) ∙ sym (append_assoc xs ys (zs ++ ws))

  -- an equal element is at a place
  pub taken_at : (ys : List T) → ys ≡ items_at bs at → p < length ys → ((d : T) → R (get_or ys p d) v ≡ Equal) → IsFound o (flat bs) (start_of bs at + p) v
  taken_at ys e h tie =
      let inside : p < length (items_at bs at) = omega (arith, ap length e) in
      let bound = place_bound bs at p inside in
      let x = pick (flat bs) (start_of bs at + p) bound in
      let there : x.0 ≡ get_or ys p x.0 = x.1 ∙ item_at bs at p x.0 inside ∙ ap (λ zs. get_or zs p x.0) (sym e) in
      found_at o (flat bs) (start_of bs at + p) v x.0 s bound x.1 (ap (λ y. R y v) there ∙ tie x.0)
