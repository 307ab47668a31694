-- Items that are read one after the other.
use Rattle.std.proofs.Common.{◌≡◌, ℕ, List, [], ◌∷◌, ◌++◌, refl, sym, ap, ◌∙◌, subst}
use Rattle.std.proofs.lemmas.List.{append_assoc, append-nil}
use Rattle.nf_cparse.specs.inner.Readings.{AreListed, ends, more}

module _ {A : Type 0} (Item : List ℕ → A → List ℕ → Type 0) (End : List ℕ → List ℕ → Type 0) where
  -- a reader found these items between two places: whatever is listed from the later one on is listed behind them, and nothing else is
  pub record IsSoFar (start : List ℕ) (found : List A) (now : List ℕ) : Type 0 where
    pub goes_on : (xs : List A) (rest : List ℕ) → AreListed Item End now xs rest → AreListed Item End start (found ++ xs) rest
    pub comes_from : (xs : List A) (rest : List ℕ) → AreListed Item End start xs rest → (ys : List A) × (xs ≡ found ++ ys) × AreListed Item End now ys rest

  pub so_far_start : (start : List ℕ) → IsSoFar start [] start
  so_far_start start = record {
    goes_on = λ xs rest l. l;
    comes_from = λ xs rest l. (xs, refl, l);
  }

  pub so_far_ends : (start : List ℕ) (found : List A) (now rest : List ℕ) → IsSoFar start found now → End now rest → AreListed Item End start found rest
  so_far_ends start found now rest s e = subst (λ xs. AreListed Item End start xs rest) (append-nil found) (s.goes_on [] rest (ends e))

  -- where neither an item nor the end comes next, nothing is listed
  pub nothing_next : (now : List ℕ) → ((x : A) (next : List ℕ) → Item now x next → ⊥) → ((rest : List ℕ) → End now rest → ⊥) → (xs : List A) (rest : List ℕ) → AreListed Item End now xs rest → ⊥
  nothing_next now no_item no_end _ rest (ends e) = no_end rest e
  nothing_next now no_item no_end _ rest (more {next = next} {x = x} i l) = no_item x next i

  pub so_far_stops : (start : List ℕ) (found : List A) (now : List ℕ) → IsSoFar start found now → ((x : A) (next : List ℕ) → Item now x next → ⊥) → ((rest : List ℕ) → End now rest → ⊥)
      → (xs : List A) (rest : List ℕ) → AreListed Item End start xs rest → ⊥
  so_far_stops start found now s no_item no_end xs rest l = let p = s.comes_from xs rest l in nothing_next now no_item no_end p.0 rest p.2

  -- the laws of items and of the end: one item comes next, or else one end
  module _ (apart : (bytes next rest : List ℕ) (x : A) → Item bytes x next → End bytes rest → ⊥)
      (same : (bytes next other : List ℕ) (x y : A) → Item bytes x next → Item bytes y other → (x ≡ y) × (next ≡ other))
      (one_end : (bytes rest other : List ℕ) → End bytes rest → End bytes other → rest ≡ other) where
    pub behind_item : (now next : List ℕ) (x : A) → Item now x next → (xs : List A) (rest : List ℕ) → AreListed Item End now xs rest → (ys : List A) × (xs ≡ x ∷ ys) × AreListed Item End next ys rest
    behind_item now next x i _ rest (ends e) = absurd (apart now next rest x i e)
    behind_item now next x i _ rest (more {next = other} {x = y} {xs = ys} j l) =
        let p = same now next other x y i j in
        (ys, ap (λ z. z ∷ ys) (sym p.0), subst (λ bytes. AreListed Item End bytes ys rest) (sym p.1) l)

    pub so_far_more : (start : List ℕ) (found : List A) (now next : List ℕ) (x : A) → IsSoFar start found now → Item now x next → IsSoFar start (found ++ x ∷ []) next
    so_far_more start found now next x s i = record {
      goes_on = λ xs rest l. subst (λ ys. AreListed Item End start ys rest) (sym (append_assoc found (x ∷ []) xs)) (s.goes_on (x ∷ xs) rest (more i l));
      comes_from = λ xs rest l.
          let p = s.comes_from xs rest l in
          let q = behind_item now next x i p.0 rest p.2 in
          (q.0, p.1 ∙ ap (λ zs. found ++ zs) q.1 ∙ sym (append_assoc found (x ∷ []) q.0), q.2);
    }

    -- one list is read, up to one place
    pub listed_same : (bytes : List ℕ) (xs ys : List A) (rest other : List ℕ) → AreListed Item End bytes xs rest → AreListed Item End bytes ys other → (xs ≡ ys) × (rest ≡ other)
    listed_same bytes _ _ rest other (ends e) (ends f) = (refl, one_end bytes rest other e f)
    listed_same bytes _ _ rest other (ends e) (more {next = next} {x = x} i l) = absurd (apart bytes next rest x i e)
    listed_same bytes _ _ rest other (more {next = next} {x = x} i l) (ends e) = absurd (apart bytes next other x i e)
    listed_same bytes _ _ rest other (more {next = next} {x = x} {xs = xs} i l) (more {next = following} {x = y} {xs = ys} j m) =
        let p = same bytes next following x y i j in
        let q = listed_same next xs ys rest other l (subst (λ b. AreListed Item End b ys other) (sym p.1) m) in
        (λ k. p.0 k ∷ q.0 k, q.1)
