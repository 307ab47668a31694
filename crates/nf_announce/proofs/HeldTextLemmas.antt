-- The announcements of what the heads hold, head by head.
use Rattle.std.proofs.Common.{◌≡◌, ℕ, ◌+◌, Bool, true, false, cond, List, [], ◌∷◌, ◌++◌, length, map, filter, flat_map, None, refl, sym, ap, ◌∙◌, arith}
use Rattle.std.specs.List.{range_with_len}
use Rattle.std.proofs.lemmas.List.{append-nil, map-append, map-id}
use Rattle.std.proofs.lemmas.List.Elements.{filter-append}
use Rattle.std.proofs.lemmas.List.FromFn.{map-range_with_len_more}
use Rattle.std.proofs.lemmas.Grind.{flat_map-append}
use Rattle.nf_core.specs.Plan.{Plan, is_head}
use Rattle.nf_core.specs.declared.intervals.Named.{Named}
use Rattle.nf_model.specs.Changes.{Content, heads, named, pool_of}
use Rattle.nf_announce.specs.Announcements.{Announcement, announcement, unsigned_line, in_order, shown, held_text}
use Rattle.nf_announce.specs.inner.LineTexts.{line_after}

-- one more number
numbers_more : (n : ℕ) → range_with_len 0 (n + 1) ≡ range_with_len 0 n ++ n ∷ []
numbers_more n =
    sym (map-id (range_with_len 0 (n + 1))) ∙ map-range_with_len_more (λ (m : ℕ). m) 0 n n (omega arith) ∙ ap (λ (ns : List ℕ). ns ++ n ∷ []) (map-id (range_with_len 0 n))

module _ {X : Type 0} (f : Named → X) (items : ℕ → List Named) (p : ℕ → Bool) where
  -- what is made of the items of the numbers below one that pass a test
  abbrev pub made_below : ℕ → List X
  made_below n = map f (flat_map items (filter p (range_with_len 0 n)))

  made_append : (n : ℕ) → made_below (n + 1) ≡ made_below n ++ map f (flat_map items (filter p (n ∷ [])))
  made_append n =
      ap (λ ns. map f (flat_map items (filter p ns))) (numbers_more n) ∙ ap (λ ns. map f (flat_map items ns)) (filter-append p (range_with_len 0 n) (n ∷ []))
      ∙ ap (map f) (flat_map-append items (filter p (range_with_len 0 n)) (filter p (n ∷ []))) ∙ map-append f (flat_map items (filter p (range_with_len 0 n))) (flat_map items (filter p (n ∷ [])))

  -- a number that passes
  pub made_more : (n : ℕ) (before after : List X) → p n ≡ true → before ≡ made_below n → after ≡ before ++ map f (items n) → after ≡ made_below (n + 1)
  made_more n before after h e more =
      more ∙ ap (λ xs. xs ++ map f (items n)) e
      ∙ sym (made_append n ∙ ap (λ b. made_below n ++ map f (flat_map items (cond b (n ∷ []) []))) h ∙ ap (λ xs. made_below n ++ map f xs) (append-nil (items n)))

  -- and one that doesn't
  pub made_same : (n : ℕ) (before : List X) → p n ≡ false → before ≡ made_below n → before ≡ made_below (n + 1)
  made_same n before h e =
      e ∙ sym (made_append n ∙ ap (λ b. made_below n ++ map f (flat_map items (cond b (n ∷ []) []))) h ∙ append-nil (made_below n))

-- lines without a sign
lines_shown : (items : List Announcement) → flat_map (line_after None) items ≡ flat_map (λ line. line ++ 10 ∷ []) (map unsigned_line items)
lines_shown [] = refl
lines_shown (a ∷ items) = ap (λ rest. (unsigned_line a ++ 10 ∷ []) ++ rest) (lines_shown items)

held_is : (content : Content) → flat_map (line_after None) (in_order (map (announcement content.plan) (flat_map (λ n. named n (pool_of content n)) (heads content.plan)))) ≡ held_text content
unfolding held_text shown
held_is content = lines_shown (in_order (map (announcement content.plan) (flat_map (λ n. named n (pool_of content n)) (heads content.plan))))

-- the text of the announcements of all names that are heads
pub held_lines : (content : Content) (plan : Plan) → content.plan ≡ plan → (n : ℕ) → n ≡ length plan.names → (items : List Announcement)
    → items ≡ made_below (announcement plan) (λ m. named m (pool_of content m)) (is_head plan) n → (lines start : List ℕ) → start ≡ [] → lines ≡ start ++ flat_map (line_after None) (in_order items)
    → lines ≡ held_text content
held_lines content plan same n ends items made lines start none e =
    let text = λ (p : Plan) (k : ℕ). flat_map (line_after None) (in_order (made_below (announcement p) (λ m. named m (pool_of content m)) (is_head p) k)) in
    e ∙ (λ i. none i ++ flat_map (line_after None) (in_order (made i))) ∙ ap (text plan) ends ∙ ap (λ (p : Plan). text p (length p.names)) (sym same) ∙ held_is content
