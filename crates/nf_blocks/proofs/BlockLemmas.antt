-- Where the elements of blocks stand, and what changes of blocks do to them.
use Rattle.std.proofs.Common.{◌≡◌, ℕ, zero, suc, ◌+◌, ◌-◌, ◌<◌, ◌≤◌, List, [], ◌∷◌, ◌++◌, length, get_or, set, take, drop, Result, Ok, Err, if◌then◌else◌, true≢false, refl, sym, ap, subst, ◌∙◌, append_assoc, length-append, arith}
use Rattle.std.specs.Global.{Vec}
use Rattle.std.specs.Result.{is_ok, IsOk, OnOk, OnErr}
use Rattle.std.specs.List.{insert, remove}
use Rattle.std.proofs.lemmas.List.{get_or-append-add, get_or_append_left, take_all}
use Rattle.std.proofs.lemmas.List.Edits.{insert-append_left, insert-append_right, remove-append_left, remove-append_right}
use Rattle.std.proofs.lemmas.List.Elements.{All-append, All-cons, All-take, All-drop, All-nil, All-head}
use Rattle.std.specs.declared.cmp.Ordering.{Ordering}
use Rattle.std.specs.List.Sorted.{IsStrictlySortedBy}
use Rattle.nf_blocks.specs.inner.Flat.{flat, AreBlocks}
use Rattle.nf_blocks.specs.inner.Places.{items_at, start_of, AreFilled}

next : (n : ℕ) → suc n ≡ n + 1
next n = omega arith

module _ {T : Type 0} where
  pub flat-append : (ps bs : List (Vec T)) → flat (ps ++ bs) ≡ flat ps ++ flat bs
  flat-append [] bs = refl
  flat-append (p ∷ ps) bs = ap (λ xs. p.items ++ xs) (flat-append ps bs) ∙ sym (append_assoc p.items (flat ps) (flat bs))

  -- what stands before a block, in it, and behind it
  pub flat_at : (bs : List (Vec T)) (at : ℕ) → flat bs ≡ flat (take at bs) ++ (items_at bs at ++ flat (drop (suc at) bs))
  flat_at [] zero = refl
  flat_at [] (suc at) = refl
  flat_at (b ∷ bs) zero = refl
  flat_at (b ∷ bs) (suc at) = ap (λ xs. b.items ++ xs) (flat_at bs at) ∙ sym (append_assoc b.items (flat (take at bs)) (items_at bs at ++ flat (drop (suc at) bs)))

  flat_set : (bs : List (Vec T)) (at : ℕ) (b : Vec T) → at < length bs → flat (set bs at b) ≡ flat (take at bs) ++ (b.items ++ flat (drop (suc at) bs))
  flat_set [] at b h = absurd (omega arith)
  flat_set (x ∷ bs) zero b h = refl
  flat_set (x ∷ bs) (suc at) b h = ap (λ xs. x.items ++ xs) (flat_set bs at b (omega arith)) ∙ sym (append_assoc x.items (flat (take at bs)) (b.items ++ flat (drop (suc at) bs)))

  pub items_is : (bs : List (Vec T)) (at : ℕ) (b : Vec T) → at < length bs → b ≡ get_or bs at b → items_at bs at ≡ b.items
  items_is [] at b h e = absurd (omega arith)
  items_is (x ∷ bs) zero b h e = ap (λ (v : Vec T). v.items) (sym e)
  items_is (x ∷ bs) (suc at) b h e = items_is bs at b (omega arith) e

  items_set : (bs : List (Vec T)) (at : ℕ) (b : Vec T) → at < length bs → items_at (set bs at b) at ≡ b.items
  items_set [] at b h = absurd (omega arith)
  items_set (x ∷ bs) zero b h = refl
  items_set (x ∷ bs) (suc at) b h = items_set bs at b (omega arith)

  start_suc : (bs : List (Vec T)) (at : ℕ) → flat (take (suc at) bs) ≡ flat (take at bs) ++ items_at bs at
  start_suc [] zero = refl
  start_suc [] (suc at) = refl
  start_suc (b ∷ bs) zero = by b.items
    where
      by : (xs : List T) → xs ++ [] ≡ xs
      by [] = refl
      by (x ∷ xs) = ap (λ ys. x ∷ ys) (by xs)
  start_suc (b ∷ bs) (suc at) = ap (λ xs. b.items ++ xs) (start_suc bs at) ∙ sym (append_assoc b.items (flat (take at bs)) (items_at bs at))

  -- a block begins where the one before it ends
  pub start_next : (bs : List (Vec T)) (at : ℕ) → start_of bs (at + 1) ≡ start_of bs at + length (items_at bs at)
  start_next bs at = subst (λ n. start_of bs n ≡ start_of bs at + length (items_at bs at)) (next at) (ap length (start_suc bs at) ∙ length-append (flat (take at bs)) (items_at bs at))

  -- the last block ends where all ends
  pub last_end : (bs : List (Vec T)) (at : ℕ) → at + 1 ≡ length bs → start_of bs at + length (items_at bs at) ≡ length (flat bs)
  last_end bs at e = sym (start_next bs at) ∙ ap (λ cs. length (flat cs)) (take_all (at + 1) bs (omega arith))

  pub in_middle : (xs bs cs : List T) (p : ℕ) (v : T) → p ≤ length bs → insert (xs ++ (bs ++ cs)) (length xs + p) v ≡ xs ++ (insert bs p v ++ cs)
  in_middle xs bs cs p v h =
      let e : length xs + p - length xs ≡ p = omega arith in
      insert-append_right xs (bs ++ cs) (length xs) (length xs + p) v refl (omega arith)
      ∙ ap (λ n. xs ++ insert (bs ++ cs) n v) e
      ∙ ap (λ ys. xs ++ ys) (insert-append_left bs cs p v h)

  out_of_middle : (xs bs cs : List T) (p : ℕ) → p < length bs → remove (xs ++ (bs ++ cs)) (length xs + p) ≡ xs ++ (remove bs p ++ cs)
  out_of_middle xs bs cs p h =
      let e : length xs + p - length xs ≡ p = omega arith in
      remove-append_right xs (bs ++ cs) (length xs) (length xs + p) refl (omega arith)
      ∙ ap (λ n. xs ++ remove (bs ++ cs) n) e
      ∙ ap (λ ys. xs ++ ys) (remove-append_left bs cs p h)

  -- ---- changes
  pub flat_insert : (bs : List (Vec T)) (at place : ℕ) (v : T) (b : Vec T) → at < length bs → place ≤ length (items_at bs at) → b.items ≡ insert (items_at bs at) place v
      → flat (set bs at b) ≡ insert (flat bs) (start_of bs at + place) v
  flat_insert bs at place v b h p e =
      flat_set bs at b h
      ∙ ap (λ xs. flat (take at bs) ++ (xs ++ flat (drop (suc at) bs))) e
      ∙ sym (in_middle (flat (take at bs)) (items_at bs at) (flat (drop (suc at) bs)) place v p)
      ∙ ap (λ xs. insert xs (start_of bs at + place) v) (sym (flat_at bs at))

  pub flat_kept : (bs : List (Vec T)) (at : ℕ) (b : Vec T) → at < length bs → b.items ≡ items_at bs at → flat (set bs at b) ≡ flat bs
  flat_kept bs at b h e = flat_set bs at b h ∙ ap (λ xs. flat (take at bs) ++ (xs ++ flat (drop (suc at) bs))) e ∙ sym (flat_at bs at)

  pub flat_remove : (bs : List (Vec T)) (at place : ℕ) (b : Vec T) → at < length bs → place < length (items_at bs at) → b.items ≡ remove (items_at bs at) place
      → flat (set bs at b) ≡ remove (flat bs) (start_of bs at + place)
  flat_remove bs at place b h p e =
      flat_set bs at b h
      ∙ ap (λ xs. flat (take at bs) ++ (xs ++ flat (drop (suc at) bs))) e
      ∙ sym (out_of_middle (flat (take at bs)) (items_at bs at) (flat (drop (suc at) bs)) place p)
      ∙ ap (λ xs. remove xs (start_of bs at + place)) (sym (flat_at bs at))

  -- an empty block that is taken out takes nothing with it
  pub flat_without : (bs : List (Vec T)) (at : ℕ) (b : Vec T) → at < length bs → b.items ≡ [] → flat (remove (set bs at b) at) ≡ flat (set bs at b)
  flat_without bs at b h e =
      let new = set bs at b in
      flat-append (take at new) (drop (suc at) new)
      ∙ sym (flat_at new at ∙ ap (λ xs. flat (take at new) ++ (xs ++ flat (drop (suc at) new))) (items_set bs at b h ∙ e))

  pub item_at : (bs : List (Vec T)) (at place : ℕ) (d : T) → place < length (items_at bs at) → get_or (flat bs) (start_of bs at + place) d ≡ get_or (items_at bs at) place d
  item_at bs at place d h =
      ap (λ xs. get_or xs (start_of bs at + place) d) (flat_at bs at)
      ∙ get_or-append-add (flat (take at bs)) (items_at bs at ++ flat (drop (suc at) bs)) place d
      ∙ get_or_append_left (items_at bs at) (flat (drop (suc at) bs)) d place h

  pub place_bound : (bs : List (Vec T)) (at place : ℕ) → place < length (items_at bs at) → start_of bs at + place < length (flat bs)
  place_bound bs at place h =
      omega (arith, ap length (flat_at bs at), length-append (flat (take at bs)) (items_at bs at ++ flat (drop (suc at) bs)), length-append (items_at bs at) (flat (drop (suc at) bs)))

  -- ---- a block in two
  flat_split_suc : (bs : List (Vec T)) (at : ℕ) (b c : Vec T) → at < length bs → items_at bs at ≡ b.items ++ c.items → flat (insert (set bs at b) (suc at) c) ≡ flat bs
  flat_split_suc [] at b c h e = absurd (omega arith)
  flat_split_suc (x ∷ bs) zero b c h e = sym (append_assoc b.items c.items (flat bs)) ∙ ap (λ xs. xs ++ flat bs) (sym e)
  flat_split_suc (x ∷ bs) (suc at) b c h e = ap (λ xs. x.items ++ xs) (flat_split_suc bs at b c (omega arith) e)

  pub flat_split : (bs : List (Vec T)) (at : ℕ) (b c : Vec T) → at < length bs → items_at bs at ≡ b.items ++ c.items → flat (insert (set bs at b) (at + 1) c) ≡ flat bs
  flat_split bs at b c h e = subst (λ n. flat (insert (set bs at b) n c) ≡ flat bs) (next at) (flat_split_suc bs at b c h e)

  first_suc : (bs : List (Vec T)) (at : ℕ) (b c : Vec T) → at < length bs → items_at (insert (set bs at b) (suc at) c) at ≡ b.items
  first_suc [] at b c h = absurd (omega arith)
  first_suc (x ∷ bs) zero b c h = refl
  first_suc (x ∷ bs) (suc at) b c h = first_suc bs at b c (omega arith)

  second_suc : (bs : List (Vec T)) (at : ℕ) (b c : Vec T) → at < length bs → items_at (insert (set bs at b) (suc at) c) (suc at) ≡ c.items
  second_suc [] at b c h = absurd (omega arith)
  second_suc (x ∷ bs) zero b c h = refl
  second_suc (x ∷ bs) (suc at) b c h = second_suc bs at b c (omega arith)

  pub split_first : (bs : List (Vec T)) (at : ℕ) (b c : Vec T) → at < length bs → items_at (insert (set bs at b) (at + 1) c) at ≡ b.items
  split_first bs at b c h = subst (λ n. items_at (insert (set bs at b) n c) at ≡ b.items) (next at) (first_suc bs at b c h)

  pub split_second : (bs : List (Vec T)) (at : ℕ) (b c : Vec T) → at < length bs → items_at (insert (set bs at b) (at + 1) c) (at + 1) ≡ c.items
  split_second bs at b c h = subst (λ n. items_at (insert (set bs at b) n c) n ≡ c.items) (next at) (second_suc bs at b c h)

  -- ---- no block is empty
  pub filled_insert : (bs : List (Vec T)) (n : ℕ) (c : Vec T) → AreFilled bs → 0 < length c.items → AreFilled (insert bs n c)
  filled_insert bs n c f h = All-append (λ (b : Vec T). 0 < length b.items) (take n bs) (c ∷ drop n bs) (All-take (λ (b : Vec T). 0 < length b.items) n bs f) (All-cons (λ (b : Vec T). 0 < length b.items) c (drop n bs) h (All-drop (λ (b : Vec T). 0 < length b.items) n bs f))

  pub filled_one : (b : Vec T) (bs : List (Vec T)) → AreFilled (b ∷ bs) → 0 < length (flat (b ∷ bs))
  filled_one b bs f = let h : 0 < length b.items = All-head (λ (v : Vec T). 0 < length v.items) b bs f in omega (arith, length-append b.items (flat bs), h)

  -- ---- what calls answer
  pub put_ok : {A E : Type 0} (r : Result A E) (bs : List (Vec T)) (at place : ℕ) (v : T) (b c : Vec T) → at < length bs → b ≡ get_or bs at b → place ≤ length (items_at bs at)
      → c.items ≡ (if is_ok r then insert b.items place v else b.items) → OnOk r (flat (set bs at c) ≡ insert (flat bs) (start_of bs at + place) v)
  put_ok (Ok x) bs at place v b c h i p e = flat_insert bs at place v c h p (e ∙ ap (λ ys. insert ys place v) (sym (items_is bs at b h i)))
  put_ok (Err x) bs at place v b c h i p e = tt

  pub put_err : {A E : Type 0} (r : Result A E) (bs : List (Vec T)) (at place : ℕ) (v : T) (b c : Vec T) → at < length bs → b ≡ get_or bs at b
      → c.items ≡ (if is_ok r then insert b.items place v else b.items) → OnErr r (flat (set bs at c) ≡ flat bs)
  put_err (Ok x) bs at place v b c h i e = tt
  put_err (Err x) bs at place v b c h i e = flat_kept bs at c h (e ∙ sym (items_is bs at b h i))

  pub first_filled : (bs : List (Vec T)) → 0 < length bs → AreFilled bs → 0 < length (items_at bs 0)
  first_filled [] h f = absurd (omega arith)
  first_filled (b ∷ bs) h f = All-head (λ (v : Vec T). 0 < length v.items) b bs f

  pub some_flat : (bs : List (Vec T)) → 0 < length bs → AreFilled bs → 0 < length (flat bs)
  some_flat [] h f = absurd (omega arith)
  some_flat (b ∷ bs) h f = filled_one b bs f

  pub uncons : (xs : List T) (x : T) (ys : List T) → 0 < length xs → x ≡ get_or xs 0 x → ys ≡ remove xs 0 → xs ≡ x ∷ ys
  uncons [] x ys h e f = absurd (omega arith)
  uncons (z ∷ zs) x ys h e f = ap (λ w. w ∷ zs) (sym e) ∙ ap (λ ws. x ∷ ws) (sym f)

  pub no_blocks : (R : T → T → Ordering) → AreBlocks R [] 0
  unfolding IsStrictlySortedBy
  no_blocks R = record { sorted = tt; filled = All-nil (λ (v : Vec T). 0 < length v.items); counted = refl }

pub if_ok : {A E Y : Type 0} (r : Result A E) (x y : Y) → IsOk r → (if is_ok r then x else y) ≡ x
if_ok (Ok a) x y h = refl
if_ok (Err e) x y h = absurd (true≢false (sym h))

pub on_ok : {A E : Type 0} {P : Type 0} (r : Result A E) → P → OnOk r P
on_ok (Ok a) p = p
on_ok (Err e) p = tt
