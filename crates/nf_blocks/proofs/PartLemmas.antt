-- Parts of the elements of blocks.
use Rattle.std.proofs.Common.{◌≡◌, ℕ, zero, suc, ◌+◌, ◌-◌, ◌<◌, ◌≤◌, List, [], ◌∷◌, ◌++◌, length, take, drop, refl, sym, ap, ◌∙◌, append_assoc, append-nil, length-append, arith}
use Rattle.std.specs.Global.{Vec}
use Rattle.std.proofs.Math.Seq.{take-append-add, drop-append-add}
use Rattle.std.proofs.lemmas.List.{take-append-le, drop-append-le, drop-take, drop_all, take_rest, length-take}
use Rattle.nf_blocks.specs.inner.Flat.{flat}
use Rattle.nf_blocks.specs.inner.Places.{items_at, start_of}
use Rattle.nf_blocks.proofs.BlockLemmas.{flat-append, flat_at}

none : {X : Type 0} (xs : List X) → length xs ≡ 0 → xs ≡ []
none [] e = refl
none (x ∷ xs) e = absurd (omega arith)

module _ {T : Type 0} where
  -- a list around the last of the blocks that are left
  pub last_block_out : (whole front back items : List T) (bs cs : List (Vec T)) (b : Vec T) → whole ≡ front ++ (flat bs ++ back) → length back ≡ 0 → bs ≡ cs ++ b ∷ [] → items ≡ b.items
      → whole ≡ front ++ (flat cs ++ items)
  last_block_out whole front back items bs cs b w e f i =
      w
      ∙ ap (λ ys. front ++ (flat bs ++ ys)) (none back e)
      ∙ ap (λ ys. front ++ ys) (append-nil (flat bs) ∙ ap flat f ∙ flat-append cs (b ∷ []) ∙ ap (λ ys. flat cs ++ ys) (append-nil b.items ∙ sym i))

  -- the elements before a place
  pub take_to : (bs : List (Vec T)) (at w : ℕ) → w ≤ length (items_at bs at) → take (start_of bs at + w) (flat bs) ≡ flat (take at bs) ++ take w (items_at bs at)
  take_to bs at w h =
      ap (λ xs. take (start_of bs at + w) xs) (flat_at bs at)
      ∙ take-append-add (flat (take at bs)) (items_at bs at ++ flat (drop (suc at) bs)) w
      ∙ ap (λ xs. flat (take at bs) ++ xs) (take-append-le w (items_at bs at) (flat (drop (suc at) bs)) h)

  -- the blocks up to one, around an earlier one
  flat_to : (bs : List (Vec T)) (a b : ℕ) → a < b → flat (take b bs) ≡ flat (take a bs) ++ (items_at bs a ++ flat (drop (suc a) (take b bs)))
  flat_to [] zero zero h = absurd (omega arith)
  flat_to [] zero (suc b) h = refl
  flat_to [] (suc a) zero h = absurd (omega arith)
  flat_to [] (suc a) (suc b) h = refl
  flat_to (x ∷ bs) zero zero h = absurd (omega arith)
  flat_to (x ∷ bs) zero (suc b) h = refl
  flat_to (x ∷ bs) (suc a) zero h = absurd (omega arith)
  flat_to (x ∷ bs) (suc a) (suc b) h =
      ap (λ xs. x.items ++ xs) (flat_to bs a b (omega arith)) ∙ sym (append_assoc x.items (flat (take a bs)) (items_at bs a ++ flat (drop (suc a) (take b bs))))

  -- a block ends before a later one begins
  start_later : (bs : List (Vec T)) (a b : ℕ) → a < b → start_of bs a + length (items_at bs a) ≤ start_of bs b
  start_later bs a b h =
      omega (arith, ap length (flat_to bs a b h), length-append (flat (take a bs)) (items_at bs a ++ flat (drop (suc a) (take b bs))), length-append (items_at bs a) (flat (drop (suc a) (take b bs))))

  part_of : (xs : List (Vec T)) (a b : ℕ) → a < b → drop (suc a) (take b xs) ≡ take (b - (a + 1)) (drop (a + 1) xs)
  part_of xs a b h =
      let step : suc a ≡ a + 1 = omega arith in
      let whole : b ≡ (a + 1) + (b - (a + 1)) = omega arith in
      ap (λ n. drop n (take b xs)) step ∙ ap (λ n. drop (a + 1) (take n xs)) whole ∙ drop-take (a + 1) (b - (a + 1)) xs

  module _ (bs : List (Vec T)) (a v b w : ℕ) where
    -- the elements from a place up to another
    abbrev pub part : List T
    part = drop (start_of bs a + v) (take (start_of bs b + w) (flat bs))

    -- in several blocks
    pub part_over : (xs ys : List T) → xs ≡ items_at bs a → ys ≡ items_at bs b → a < b → v ≤ length (items_at bs a) → w ≤ length (items_at bs b)
        → take (length xs - v) (drop v xs) ++ (flat (take (b - (a + 1)) (drop (a + 1) bs)) ++ take w ys) ≡ part
    part_over xs ys e f h k l =
        let before = flat (take a bs) in
        let first = items_at bs a in
        let whole = flat (drop (suc a) (take b bs)) in
        let some = flat (take (b - (a + 1)) (drop (a + 1) bs)) in
        let last = take w (items_at bs b) in
        let taken : take (start_of bs b + w) (flat bs) ≡ before ++ (first ++ (whole ++ last)) =
        take_to bs b w l
        ∙ ap (λ xs. xs ++ last) (flat_to bs a b h)
        ∙ append_assoc before (first ++ whole) last
        ∙ ap (λ xs. before ++ xs) (append_assoc first whole last) in
        ap (λ zs. zs ++ (some ++ take w ys)) (take_rest xs v ∙ ap (λ zs. drop v zs) e)
        ∙ ap (λ zs. drop v first ++ (some ++ take w zs)) f
        ∙ sym (ap (λ zs. drop (start_of bs a + v) zs) taken
        ∙ drop-append-add before (first ++ (whole ++ last)) v
        ∙ drop-append-le v first (whole ++ last) k
        ∙ ap (λ cs. drop v first ++ (flat cs ++ last)) (part_of bs a b h))

    -- in one block
    pub part_in : (xs : List T) → xs ≡ items_at bs a → a ≡ b → v < w → w ≤ length (items_at bs b) → take (w - v) (drop v xs) ++ [] ≡ part
    part_in xs f e h l =
        let whole : w ≡ v + (w - v) = omega arith in
        let place : start_of bs b + w ≡ start_of bs a + w = ap (λ n. start_of bs n + w) (sym e) in
        let fits : w ≤ length (items_at bs a) = omega (arith, ap (λ n. length (items_at bs n)) e) in
        append-nil (take (w - v) (drop v xs))
        ∙ ap (λ zs. take (w - v) (drop v zs)) f
        ∙ sym (ap (λ n. drop (start_of bs a + v) (take n (flat bs))) place
        ∙ ap (λ zs. drop (start_of bs a + v) zs) (take_to bs a w fits)
        ∙ drop-append-add (flat (take a bs)) (take w (items_at bs a)) v
        ∙ ap (λ n. drop v (take n (items_at bs a))) whole
        ∙ drop-take v (w - v) (items_at bs a))

    -- none, where the second isn't behind the first
    part_none : start_of bs b + w ≤ start_of bs a + v → [] ≡ part
    part_none h =
        let xs = take (start_of bs b + w) (flat bs) in
        let short : length xs ≤ start_of bs b + w = omega (arith, length-take (start_of bs b + w) (flat bs)) in
        sym (drop_all (start_of bs a + v) xs (omega arith))

    pub part_before : b < a → w ≤ length (items_at bs b) → [] ≡ part
    part_before h l = part_none (omega (arith, start_later bs b a h))

    pub part_same : a ≡ b → w ≤ v → [] ≡ part
    part_same e h = part_none (omega (arith, ap (λ n. start_of bs n) e))
