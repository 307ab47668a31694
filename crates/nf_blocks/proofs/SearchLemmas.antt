-- In which block an element stands.
use Rattle.std.proofs.Common.{◌≡◌, ℕ, suc, ◌+◌, ◌-◌, ◌<◌, ◌≤◌, Bool, true, false, inl, inr, List, [], ◌∷◌, ◌++◌, length, get_or, take, drop, refl, sym, ap, append-nil, subst, ◌∙◌, arith, true≢false}
use Rattle.std.specs.Cmp.{IsTotalOrder}
use Rattle.std.specs.Global.{Vec}
use Rattle.std.specs.declared.cmp.Ordering.{Ordering}
use Rattle.std.specs.declared.cmp.Ordering.TheVariants.{Less, Equal, Greater}
use Rattle.std.specs.Ordering.{is_lt}
use Rattle.std.specs.List.{AllByRecursion}
use Rattle.std.specs.List.Sorted.{IsStrictlySortedBy, IsPartitionedBy}
use Rattle.std.proofs.lemmas.List.{drop_all}
use Rattle.nf_blocks.specs.inner.Flat.{flat}
use Rattle.nf_blocks.specs.inner.Places.{last_passes, items_at, AreFilled}
use Rattle.nf_blocks.specs.inner.Gaps.{ends_before, IsBlockOf}
use Rattle.std.specs.List.Sorted.{IsPartitionPoint}
use Rattle.std.proofs.lemmas.Bool.{cases_lt}
use Rattle.nf_blocks.proofs.BlockLemmas.{flat_at, items_is}
use Rattle.nf_blocks.proofs.CutLemmas.{Falls, blocks_parted}
use Rattle.nf_blocks.proofs.ChangeLemmas.{pick, all_left, all_both, all_weaker, all_take, sorted_left, sorted_right, less_back}

pub last_of : {T : Type 0} (p : T → Bool) (xs : List T) (d : T) → 0 < length xs → last_passes p xs ≡ p (get_or xs (length xs - 1) d)
last_of p [] d h = absurd (omega arith)
last_of p (x ∷ []) d h = refl
last_of p (x ∷ y ∷ ys) d h =
    let e : suc (length (y ∷ ys) - 1) ≡ length (x ∷ y ∷ ys) - 1 = omega arith in
    last_of p (y ∷ ys) d (omega arith) ∙ ap (λ n. p (get_or (x ∷ y ∷ ys) n d)) e

last_behind : {T : Type 0} (p : T → Bool) (xs : List T) (y : T) (ys : List T) → last_passes p (xs ++ y ∷ ys) ≡ last_passes p (y ∷ ys)
last_behind p [] y ys = refl
last_behind p (x ∷ []) y ys = refl
last_behind p (x ∷ z ∷ xs) y ys = last_behind p (z ∷ xs) y ys

module _ {T : Type 0} {R : T → T → Ordering} (o : IsTotalOrder R) (v : T) where
  abbrev ends : List T → Bool
  ends xs = ends_before R v xs

  less_is : (c : Ordering) → is_lt c ≡ true → c ≡ Less
  less_is Less e = refl
  less_is Equal e = absurd (true≢false (sym e))
  less_is Greater e = absurd (true≢false (sym e))

  -- all of a sorted list whose last element is smaller is smaller
  all_smaller : (xs : List T) → IsStrictlySortedBy R xs → ends xs ≡ true → AllByRecursion (λ x. R x v ≡ Less) xs
  unfolding IsStrictlySortedBy
  all_smaller [] s e = tt
  all_smaller (x ∷ []) s e = (less_is (R x v) e, tt)
  all_smaller (x ∷ y ∷ ys) s e =
      let rest = all_smaller (y ∷ ys) s.1 e in
      (o.trans x y v s.0.0 rest.0, rest)

  -- what stands behind an element that isn't smaller is greater
  past : (x y : T) (c : Ordering) → R x v ≡ c → is_lt c ≡ false → R x y ≡ Less → R v y ≡ Less
  past x y Less f e l = absurd (true≢false e)
  past x y Equal f e l = sym (o.congr x v y f) ∙ l
  past x y Greater f e l = o.trans v x y (less_back o x v f) l

  all_greater : (xs ys : List T) → IsStrictlySortedBy R (xs ++ ys) → ends xs ≡ false → AllByRecursion (λ y. R v y ≡ Less) ys
  unfolding IsStrictlySortedBy
  all_greater [] ys s e = absurd (true≢false e)
  all_greater (x ∷ []) ys s e = all_weaker (λ y. R x y ≡ Less) (λ y. R v y ≡ Less) (λ y l. past x y (R x v) refl e l) ys s.0
  all_greater (x ∷ z ∷ xs) ys s e = all_greater (z ∷ xs) ys s.1 e

  smaller_before : Falls R (λ x. is_lt (R x v))
  smaller_before = record { before = λ x y l e. ap is_lt (o.trans x y v l (less_is (R y v) e)) }

  -- the blocks that end before an element come first
  pub ends_first : (bs : List (Vec T)) → IsStrictlySortedBy R (flat bs) → AreFilled bs → IsPartitionedBy (λ (b : Vec T). ends b.items) bs
  ends_first bs s f = blocks_parted o smaller_before bs s f

  flat_smaller : (bs : List (Vec T)) → IsStrictlySortedBy R (flat bs) → AllByRecursion (λ (b : Vec T). ends b.items ≡ true) bs → AllByRecursion (λ x. R x v ≡ Less) (flat bs)
  flat_smaller [] s a = tt
  flat_smaller (b ∷ bs) s a =
      all_both (λ x. R x v ≡ Less) b.items (flat bs) (all_smaller b.items (sorted_left o b.items (flat bs) s) a.0) (flat_smaller bs (sorted_right o b.items (flat bs) s) a.1)

  -- the first block that doesn't end before an element
  pub first_block : (bs : List (Vec T)) (at : ℕ) → IsStrictlySortedBy R (flat bs) → AllByRecursion (λ (b : Vec T). ends b.items ≡ true) (take at bs) → ends (items_at bs at) ≡ false → IsBlockOf R bs v at
  first_block bs at s a e =
      let parts = subst (IsStrictlySortedBy R) (flat_at bs at) s in
      let step : suc at ≡ at + 1 = omega arith in
      record {
        smaller = flat_smaller (take at bs) (sorted_left o (flat (take at bs)) _ parts) a;
        greater = subst (λ n. AllByRecursion (λ y. R v y ≡ Less) (flat (drop n bs))) step (all_greater (items_at bs at) (flat (drop (suc at) bs)) (sorted_right o (flat (take at bs)) _ parts) e);
      }

  -- the last block, where it ends before the element
  pub last_block : (bs : List (Vec T)) (at : ℕ) → at + 1 ≡ length bs → IsStrictlySortedBy R (flat bs) → 0 < length (items_at bs at) → ends (items_at bs at) ≡ true → IsBlockOf R bs v at
  last_block bs at n s some e =
      let parts = subst (IsStrictlySortedBy R) (flat_at bs at) s in
      let whole = subst (λ ys. IsStrictlySortedBy R (flat (take at bs) ++ (items_at bs at ++ flat ys))) (drop_all (suc at) bs (omega arith)) parts in
      record {
        smaller = front (flat (take at bs)) (items_at bs at) whole some e;
        greater = subst (λ ys. AllByRecursion (λ y. R v y ≡ Less) (flat ys)) (sym (drop_all (at + 1) bs (omega arith))) tt;
      }
    where
      front : (xs ys : List T) → IsStrictlySortedBy R (xs ++ (ys ++ [])) → 0 < length ys → ends ys ≡ true → AllByRecursion (λ x. R x v ≡ Less) xs
      front xs [] s h e = absurd (omega arith)
      front xs (y ∷ ys) s h e =
          all_left (λ x. R x v ≡ Less) xs (y ∷ (ys ++ [])) (all_smaller (xs ++ (y ∷ (ys ++ []))) s (last_behind (λ x. is_lt (R x v)) xs y (ys ++ []) ∙ ap (λ zs. ends (y ∷ zs)) (append-nil ys) ∙ e))

  -- a block that doesn't end before the element is within the blocks whose part it bounds
  pub part_within : (bs : List (Vec T)) (n i : ℕ) (b : Vec T) → n < length bs → i ≤ length bs → n + 1 ≡ length bs → b ≡ get_or bs n b → ends b.items ≡ false
      → ((k : ℕ) (d : Vec T) → 0 ≤ k → k < i → ends (get_or bs k d).items ≡ true) → i < length bs
  part_within bs n i b h j e is f all =
      elim (cases_lt i (length bs)) [
        | inl w ↦ w
        | inr w ↦ absurd (true≢false (sym (all n b (omega arith) (omega arith)) ∙ ap (λ (c : Vec T). ends c.items) (sym is) ∙ f))
      ]

  -- a search by the blocks' last elements
  pub searched_block : (bs : List (Vec T)) (at : ℕ) → at < length bs → IsStrictlySortedBy R (flat bs)
      → IsPartitionPoint (λ (b : Vec T). ends b.items ≡ true) (λ (b : Vec T). ends b.items ≡ false) bs at → IsBlockOf R bs v at
  searched_block bs at h s parts =
      let x = pick bs at h in
      first_block bs at s (all_take (λ (b : Vec T). ends b.items ≡ true) bs at (omega arith) parts.0)
      (ap ends (items_is bs at x.0 h x.1) ∙ ap (λ (c : Vec T). ends c.items) x.1 ∙ parts.1 at x.0 (omega arith) h)
