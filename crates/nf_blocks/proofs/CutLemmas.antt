-- What a cut says of a sorted list, and of the blocks that hold one.
use Rattle.std.proofs.Common.{◌≡◌, ℕ, zero, suc, ◌+◌, ◌<◌, ◌≤◌, Bool, true, false, not, cond, ◌&&◌, ◌||◌, inl, inr, List, [], ◌∷◌, ◌++◌, length, get_or, take, drop, filter, refl, sym, ap, subst, ◌∙◌, arith, true≢false, length-append}
use Rattle.std.specs.Cmp.{IsTotalOrder}
use Rattle.std.specs.Global.{Vec}
use Rattle.std.specs.declared.cmp.Ordering.{Ordering}
use Rattle.std.specs.declared.cmp.Ordering.TheVariants.{Less, Equal, Greater}
use Rattle.std.specs.Ordering.{is_gt, is_lt, is_eq}
use Rattle.std.specs.List.{AllByRecursion}
use Rattle.std.specs.List.Sorted.{IsStrictlySortedBy, IsPartitionedBy, IsPartitionPoint}
use Rattle.std.proofs.Math.Seq.{take-append-add, drop-append-add}
use Rattle.std.proofs.lemmas.Bool.{cases_lt}
use Rattle.std.proofs.lemmas.List.{get_or_default, drop_all, drop_more, take_all, take-append-le, drop-append-le, take-append-drop}
use Rattle.std.proofs.lemmas.List.Elements.{All-from_recursion, All-tail, All-get_or}
use Rattle.nf_blocks.specs.Blocks.{has}
use Rattle.nf_blocks.specs.inner.Flat.{flat}
use Rattle.nf_blocks.specs.inner.Places.{last_passes, items_at, AreFilled}
use Rattle.nf_blocks.specs.inner.Cuts.{is_left, index_of, IsCut, IsPlace}
use Rattle.nf_blocks.specs.declared.cuts.Cut.{Cut}
use Rattle.nf_blocks.specs.declared.cuts.Cut.TheVariants.{First, Before, Behind, Last}
use Rattle.nf_blocks.specs.declared.cuts.Place.{Place}
use Rattle.nf_blocks.proofs.BlockLemmas.{flat_at, items_is, item_at, place_bound}
use Rattle.nf_blocks.proofs.ChangeLemmas.{pick, none_greater, all_left, all_right, all_both, all_weaker, all_take, all_drop, sorted_left, sorted_right, greater_back, less_back}

-- no block stands behind the last
pub no_items : {X : Type 0} (bs : List (Vec X)) (at : ℕ) → length bs ≤ at → items_at bs at ≡ []
no_items [] at h = refl
no_items (b ∷ bs) zero h = absurd (omega arith)
no_items (b ∷ bs) (suc at) h = no_items bs at (omega arith)

-- what an element is said to be, at its index whatever stands elsewhere
pub at_index : {X : Type 0} (f : X → Bool) (xs : List X) (n : ℕ) (x : X) (c : Bool) → x ≡ get_or xs n x → n < length xs → f x ≡ c → (d : X) → f (get_or xs n d) ≡ c
at_index f xs n x c is h e d = ap f (get_or_default xs n d x h ∙ sym is) ∙ e

-- where elements that pass come first: past one that passes, and at one that doesn't or at the end
pub parted_at : {X : Type 0} (f : X → Bool) (xs : List X) (m n : ℕ) → m + 1 ≡ n → IsPartitionedBy f xs → m < length xs → ((d : X) → f (get_or xs m d) ≡ true)
    → ((d : X) → n < length xs → f (get_or xs n d) ≡ false) → IsPartitionPoint (λ y. f y ≡ true) (λ y. f y ≡ false) xs n
parted_at {X} f xs m n step parted h passes fails = (λ k d a b. parted k m d (omega arith) h (passes d), λ k d a b. by k d a b (f (get_or xs k d)) refl)
  where
    by : (k : ℕ) (d : X) → n ≤ k → k < length xs → (c : Bool) → f (get_or xs k d) ≡ c → f (get_or xs k d) ≡ false
    by k d a b true e = absurd (true≢false (sym (parted n k d a b e) ∙ fails d (omega arith)))
    by k d a b false e = e

-- a test that passes in front of each element that passes
pub record Falls {T : Type 0} (R : T → T → Ordering) (p : T → Bool) : Type 0 where
  pub before : (x y : T) → R x y ≡ Less → p y ≡ true → p x ≡ true

module _ {T : Type 0} {R : T → T → Ordering} (o : IsTotalOrder R) {p : T → Bool} (falls : Falls R p) where
  not_behind : (x y : T) → R x y ≡ Less → p x ≡ false → p y ≡ false
  not_behind x y l e = by (p y) refl
    where
      by : (b : Bool) → p y ≡ b → p y ≡ false
      by true f = absurd (true≢false (sym (falls.before x y l f) ∙ e))
      by false f = f

  all_pass : (xs : List T) → IsStrictlySortedBy R xs → last_passes p xs ≡ true → AllByRecursion (λ x. p x ≡ true) xs
  unfolding IsStrictlySortedBy
  all_pass [] s e = tt
  all_pass (x ∷ []) s e = (e, tt)
  all_pass (x ∷ y ∷ ys) s e =
      let rest = all_pass (y ∷ ys) s.1 e in
      (falls.before x y s.0.0 rest.0, rest)

  none_pass : (xs ys : List T) → IsStrictlySortedBy R (xs ++ ys) → last_passes p xs ≡ false → AllByRecursion (λ y. p y ≡ false) ys
  unfolding IsStrictlySortedBy
  none_pass [] ys s e = absurd (true≢false e)
  none_pass (x ∷ []) ys s e = all_weaker (λ y. R x y ≡ Less) (λ y. p y ≡ false) (λ y l. not_behind x y l e) ys s.0
  none_pass (x ∷ z ∷ xs) ys s e = none_pass (z ∷ xs) ys s.1 e

  last_fails : (xs : List T) → 0 < length xs → AllByRecursion (λ y. p y ≡ false) xs → last_passes p xs ≡ false
  last_fails [] h a = absurd (omega arith)
  last_fails (x ∷ []) h a = a.0
  last_fails (x ∷ y ∷ ys) h a = last_fails (y ∷ ys) (omega arith) a.1

  last_passed : (xs : List T) → AllByRecursion (λ y. p y ≡ true) xs → last_passes p xs ≡ true
  last_passed [] a = refl
  last_passed (x ∷ []) a = a.0
  last_passed (x ∷ y ∷ ys) a = last_passed (y ∷ ys) a.1

  all_in_block : (P : T → Type 0) (bs : List (Vec T)) (j : ℕ) (d : Vec T) → j < length bs → AllByRecursion P (flat bs) → AllByRecursion P (get_or bs j d).items
  all_in_block P [] j d h a = absurd (omega arith)
  all_in_block P (b ∷ bs) zero d h a = all_left P b.items (flat bs) a
  all_in_block P (b ∷ bs) (suc j) d h a = all_in_block P bs j d (omega arith) (all_right P b.items (flat bs) a)

  -- the elements that pass come first
  pub elements_parted : (xs : List T) → IsStrictlySortedBy R xs → IsPartitionedBy p xs
  unfolding IsStrictlySortedBy
  elements_parted [] s i j d a h e = absurd (omega arith)
  elements_parted (x ∷ xs) s zero zero d a h e = e
  elements_parted (x ∷ xs) s (suc i) zero d a h e = absurd (omega arith)
  elements_parted (x ∷ xs) s zero (suc j) d a h e =
      falls.before x (get_or xs j d) (All-get_or (λ y. R x y ≡ Less) xs j d (omega arith) (All-from_recursion _ xs s.0)) e
  elements_parted (x ∷ xs) s (suc i) (suc j) d a h e = elements_parted xs s.1 i j d (omega arith) (omega arith) e

  -- the blocks whose last element passes come first
  pub blocks_parted : (bs : List (Vec T)) → IsStrictlySortedBy R (flat bs) → AreFilled bs → IsPartitionedBy (λ (b : Vec T). last_passes p b.items) bs
  blocks_parted [] s f i j d a h e = absurd (omega arith)
  blocks_parted (b ∷ bs) s f zero zero d a h e = e
  blocks_parted (b ∷ bs) s f (suc i) zero d a h e = absurd (omega arith)
  blocks_parted (b ∷ bs) s f zero (suc j) d a h e = by (last_passes p b.items) refl
    where
      by : (c : Bool) → last_passes p b.items ≡ c → last_passes p b.items ≡ true
      by true g = g
      by false g =
          let later = all_in_block (λ y. p y ≡ false) bs j d (omega arith) (none_pass b.items (flat bs) s g) in
          let some : 0 < length (get_or bs j d).items = All-get_or (λ (w : Vec T). 0 < length w.items) bs j d (omega arith) (All-tail (λ (w : Vec T). 0 < length w.items) b bs f) in
          absurd (true≢false (sym e ∙ last_fails (get_or bs j d).items some later))
  blocks_parted (b ∷ bs) s f (suc i) (suc j) d a h e =
      blocks_parted bs (sorted_right o b.items (flat bs) s) (All-tail (λ (w : Vec T). 0 < length w.items) b bs f) i j d (omega arith) (omega arith) e

  flat_pass : (bs : List (Vec T)) → IsStrictlySortedBy R (flat bs) → AllByRecursion (λ (b : Vec T). last_passes p b.items ≡ true) bs → AllByRecursion (λ x. p x ≡ true) (flat bs)
  flat_pass [] s a = tt
  flat_pass (b ∷ bs) s a =
      all_both (λ x. p x ≡ true) b.items (flat bs) (all_pass b.items (sorted_left o b.items (flat bs) s) a.0) (flat_pass bs (sorted_right o b.items (flat bs) s) a.1)

  -- in what stands in and behind the first block whose last element doesn't pass, the elements that pass come first
  module _ (bs : List (Vec T)) (at within : ℕ) (s : IsStrictlySortedBy R (flat bs)) where
    abbrev block : List T
    block = items_at bs at

    abbrev behind : List T
    behind = flat (drop (suc at) bs)

    none_behind : IsPartitionPoint (λ (b : Vec T). last_passes p b.items ≡ true) (λ (b : Vec T). last_passes p b.items ≡ false) bs at
        → AllByRecursion (λ y. p y ≡ false) behind
    none_behind parts = elim (cases_lt at (length bs)) [
      | inl h ↦
          let x = pick bs at h in
          let fails : last_passes p block ≡ false = ap (last_passes p) (items_is bs at x.0 h x.1) ∙ ap (λ (c : Vec T). last_passes p c.items) x.1 ∙ parts.1 at x.0 (omega arith) h in
          none_pass block behind (sorted_right o (flat (take at bs)) (block ++ behind) (subst (IsStrictlySortedBy R) (flat_at bs at) s)) fails
      | inr h ↦ subst (λ cs. AllByRecursion (λ y. p y ≡ false) (flat cs)) (sym (drop_all (suc at) bs (omega arith))) tt
    ]

    -- all elements of the block pass only where there is no such block
    not_all : IsPartitionPoint (λ (b : Vec T). last_passes p b.items ≡ true) (λ (b : Vec T). last_passes p b.items ≡ false) bs at
        → AllByRecursion (λ y. p y ≡ true) block → length bs ≤ at
    not_all parts all = elim (cases_lt at (length bs)) [
      | inl h ↦
          let x = pick bs at h in
          let fails : last_passes p block ≡ false = ap (last_passes p) (items_is bs at x.0 h x.1) ∙ ap (λ (c : Vec T). last_passes p c.items) x.1 ∙ parts.1 at x.0 (omega arith) h in
          absurd (true≢false (sym (last_passed block all) ∙ fails))
      | inr h ↦ h
    ]

    pub found_place : (items : List T) → items ≡ block → at ≤ length bs → within ≤ length items
        → IsPartitionPoint (λ (b : Vec T). last_passes p b.items ≡ true) (λ (b : Vec T). last_passes p b.items ≡ false) bs at
        → (IsPartitionedBy p items → IsPartitionPoint (λ y. p y ≡ true) (λ y. p y ≡ false) items within)
        → IsPlace p bs (record { block = at; within = within })
    found_place items e h v parts found =
        let w = subst (λ zs. within ≤ length zs) e v in
        let search = subst (λ zs. IsPartitionedBy p zs → IsPartitionPoint (λ y. p y ≡ true) (λ y. p y ≡ false) zs within) e found in
        let before = flat (take at bs) in
        let is : flat bs ≡ before ++ (block ++ behind) = flat_at bs at in
        let sorted = subst (IsStrictlySortedBy R) is s in
        let inside = search (elements_parted block (sorted_left o block behind (sorted_right o before (block ++ behind) sorted))) in
        let left = all_take (λ y. p y ≡ true) block within w inside.0 in
        let front = flat_pass (take at bs) (sorted_left o before (block ++ behind) sorted) (all_take (λ (b : Vec T). last_passes p b.items ≡ true) bs at h parts.0) in
        let taken : take (length before + within) (flat bs) ≡ before ++ take within block =
        ap (take (length before + within)) is ∙ take-append-add before (block ++ behind) within ∙ ap (λ zs. before ++ zs) (take-append-le within block behind w) in
        let dropped : drop (length before + within) (flat bs) ≡ drop within block ++ behind =
        ap (drop (length before + within)) is ∙ drop-append-add before (block ++ behind) within ∙ drop-append-le within block behind w in
        record {
          cut = record {
            left = subst (AllByRecursion (λ y. p y ≡ true)) (sym taken) (all_both (λ y. p y ≡ true) before (take within block) front left);
            right = subst (AllByRecursion (λ y. p y ≡ false)) (sym dropped)
                (all_both (λ y. p y ≡ false) (drop within block) behind (all_drop (λ y. p y ≡ false) block within inside.1) (none_behind parts));
            bound = omega (arith, ap length is, length-append before (block ++ behind), length-append block behind);
          };
          past = λ full.
              let whole : length bs ≤ at = not_all parts (subst (AllByRecursion (λ y. p y ≡ true)) (take_all within block full) left) in
              omega (arith, ap (λ cs. length (flat cs)) (take_all at bs whole));
        }

module _ {T : Type 0} {R : T → T → Ordering} (o : IsTotalOrder R) where
  is_greater : (c : Ordering) → is_gt c ≡ true → c ≡ Greater
  is_greater Less e = absurd (true≢false (sym e))
  is_greater Equal e = absurd (true≢false (sym e))
  is_greater Greater e = refl

  -- what is before a cut, falls
  pub cut_falls : (cut : Cut T) → Falls R (is_left R cut)
  cut_falls First = record { before = λ x y l e. absurd (true≢false (sym e)) }
  cut_falls (Before v) = record {
    before = λ x y l e. ap is_gt (greater_back o x v.now (o.trans x y v.now l (less_back o v.now y (is_greater (R v.now y) e))));
  }
  cut_falls (Behind v) = record { before = λ x y l e. by x y l e (R v.now x) refl }
    where
      by : (x y : T) → R x y ≡ Less → not (is_lt (R v.now y)) ≡ true → (c : Ordering) → R v.now x ≡ c → not (is_lt (R v.now x)) ≡ true
      by x y l e Less f = absurd (true≢false (sym e ∙ ap (λ d. not (is_lt d)) (o.trans v.now x y f l)))
      by x y l e Equal f = ap (λ d. not (is_lt d)) f
      by x y l e Greater f = ap (λ d. not (is_lt d)) f
  cut_falls Last = record { before = λ x y l e. refl }

  -- ---- whether an element is there
  has_first : (y : T) (ys : List T) (v : T) → IsStrictlySortedBy R (y ∷ ys) → is_gt (R v y) ≡ false → has R (y ∷ ys) v ≡ is_eq (R v y)
  unfolding IsStrictlySortedBy
  has_first y ys v s e = by (R v y) refl
    where
      by : (c : Ordering) → R v y ≡ c → has R (y ∷ ys) v ≡ is_eq (R v y)
      by Less f = ap (λ c. is_eq c || has R ys v) f ∙ none_greater o ys v (all_weaker (λ z. R y z ≡ Less) (λ z. R v z ≡ Less) (λ z l. o.trans v y z f l) ys s.0) ∙ sym (ap is_eq f)
      by Equal f = ap (λ c. is_eq c || has R ys v) f ∙ sym (ap is_eq f)
      by Greater f = absurd (true≢false (sym (ap is_gt f) ∙ e))

  has_front : (xs : List T) (v : T) (n : ℕ) → AllByRecursion (λ x. is_gt (R v x) ≡ true) (take n xs) → has R xs v ≡ has R (drop n xs) v
  has_front [] v zero a = refl
  has_front [] v (suc n) a = refl
  has_front (x ∷ xs) v zero a = refl
  has_front (x ∷ xs) v (suc n) a = ap (λ c. is_eq c || has R xs v) (is_greater (R v x) a.0) ∙ has_front xs v n a.1

  module _ (bs : List (Vec T)) (v : T) (place : Place) (s : IsStrictlySortedBy R (flat bs)) (found : IsPlace (λ x. is_gt (R v x)) bs place) where
    -- the element behind the place decides
    pub has_by : (x : T) → place.within < length (items_at bs place.block) → x ≡ get_or (items_at bs place.block) place.within x → has R (flat bs) v ≡ is_eq (R v x)
    has_by x h e =
        let xs = flat bs in
        let n = index_of bs place in
        let is : drop n xs ≡ x ∷ drop (n + 1) xs =
        drop_more xs n x (place_bound bs place.block place.within h) ∙ ap (λ y. y ∷ drop (n + 1) xs) (item_at bs place.block place.within x h ∙ sym e) in
        let sorted = subst (IsStrictlySortedBy R) is (sorted_right o (take n xs) (drop n xs) (subst (IsStrictlySortedBy R) (sym (take-append-drop n xs)) s)) in
        let first = subst (AllByRecursion (λ y. is_gt (R v y) ≡ false)) is found.cut.right in
        has_front xs v n found.cut.left ∙ ap (λ ys. has R ys v) is ∙ has_first x (drop (n + 1) xs) v sorted first.0

    -- no element is behind the place
    pub has_nothing : length (items_at bs place.block) ≤ place.within → has R (flat bs) v ≡ false
    has_nothing h =
        let n = index_of bs place in
        has_front (flat bs) v n found.cut.left ∙ ap (λ ys. has R ys v) (drop_all n (flat bs) (found.past h))

-- ---- a part
pub between_cuts : {T : Type 0} (p q r : T → Bool) (xs : List T) (m n : ℕ) → ((x : T) → r x ≡ (not (p x) && q x)) → IsCut p xs m → IsCut q xs n
    → drop m (take n xs) ≡ filter r xs
between_cuts {T} p q r xs m n is a b = by xs m n a.left a.right b.left b.right
  where
    nothing : (k : ℕ) → [] ≡ drop {A = T} k []
    nothing zero = refl
    nothing (suc k) = refl

    none : (P : T → Type 0) (zs : List T) → AllByRecursion P (take zero zs)
    none P [] = tt
    none P (z ∷ zs) = tt

    goes : (x : T) (ys zs : List T) → ys ≡ zs → r x ≡ false → ys ≡ cond (r x) (x ∷ zs) zs
    goes x ys zs e f = e ∙ sym (ap (λ c. cond c (x ∷ zs) zs) f)

    stays : (x : T) (ys zs : List T) → ys ≡ zs → r x ≡ true → x ∷ ys ≡ cond (r x) (x ∷ zs) zs
    stays x ys zs e f = ap (λ ws. x ∷ ws) e ∙ sym (ap (λ c. cond c (x ∷ zs) zs) f)

    left : (x : T) → p x ≡ true → r x ≡ false
    left x e = is x ∙ ap (λ c. not c && q x) e

    right : (x : T) → p x ≡ false → q x ≡ false → r x ≡ false
    right x e f = is x ∙ ap (λ c. not c && q x) e ∙ f

    inside : (x : T) → p x ≡ false → q x ≡ true → r x ≡ true
    inside x e f = is x ∙ ap (λ c. not c && q x) e ∙ f

    by : (xs : List T) (m n : ℕ) → AllByRecursion (λ x. p x ≡ true) (take m xs) → AllByRecursion (λ x. p x ≡ false) (drop m xs)
        → AllByRecursion (λ x. q x ≡ true) (take n xs) → AllByRecursion (λ x. q x ≡ false) (drop n xs) → drop m (take n xs) ≡ filter r xs
    by [] zero zero a b c d = refl
    by [] zero (suc n) a b c d = refl
    by [] (suc m) zero a b c d = refl
    by [] (suc m) (suc n) a b c d = refl
    by (x ∷ xs) zero zero a b c d = goes x [] (filter r xs) (by xs zero zero (none (λ y. p y ≡ true) xs) b.1 (none (λ y. q y ≡ true) xs) d.1) (right x b.0 d.0)
    by (x ∷ xs) zero (suc n) a b c d = stays x (take n xs) (filter r xs) (by xs zero n (none (λ y. p y ≡ true) xs) b.1 c.1 d) (inside x b.0 c.0)
    by (x ∷ xs) (suc m) zero a b c d = goes x [] (filter r xs) (nothing m ∙ by xs m zero a.1 b (none (λ y. q y ≡ true) xs) d.1) (left x a.0)
    by (x ∷ xs) (suc m) (suc n) a b c d = goes x (drop m (take n xs)) (filter r xs) (by xs m n a.1 b c.1 d) (left x a.0)

-- what is between two bounds is not before the one cut, and before the other
pub is_between : (f e p q : Bool) → p ≡ not f → q ≡ not e → (f && not e) ≡ (not p && q)
is_between f e p q a b = sym (ap (λ c. not c && q) a ∙ ap (λ c. not (not f) && c) b ∙ ap (λ c. c && not e) (twice f))
  where
    twice : (c : Bool) → not (not c) ≡ c
    twice true = refl
    twice false = refl
