-- The first LF of a piece.
use Rattle.std.proofs.Common.{◌≡◌, ℕ, zero, suc, ◌<◌, ◌≤◌, Bool, true, false, cond, ltb, List, [], ◌∷◌, length, get_or, refl, ap, arith, Option, Some, None, sym, ◌∙◌, ⊎_elim}
use Rattle.std.specs.List.{list_any, position, position_or_len, before_first}
use Rattle.std.proofs.lemmas.Bool.{or_left, or_right, ltb-false, lt-ltb, le-ltb, cases_lt, false≢true, false_from_ne_true}
use Rattle.std.proofs.lemmas.List.Folds.{list_any_none}
use Rattle.std.proofs.lemmas.List.Quantifiers.{position-Some}
use Rattle.std.proofs.lemmas.List.Sums.{fails_before_first, passes_at_first, position_or_len_is}
use Rattle.std.proofs.lemmas.List.{get_or-take, length-take}
use Rattle.memchr.specs.Find.{IsFirstByte}

-- the first byte that passes a test, as a search finds it
module _ (test : ℕ → Bool) (bytes : List ℕ) where
  abbrev placed : ℕ → Option ℕ
  placed n = cond (ltb n (length bytes)) (Some n) None

  pub first_place : (found : Option ℕ) → IsFirstByte test bytes found → found ≡ position test bytes
  first_place None h =
      let is = position_or_len_is test bytes (length bytes) 0 (omega arith) (λ k below. false_from_ne_true _ (h k (omega arith) below)) (λ below. absurd (omega arith)) in
      let past = le-ltb (length bytes) (length bytes) (omega arith) in
      sym (ap placed is ∙ rw past refl)
  first_place (Some n) h =
      let is = position_or_len_is test bytes n 0 (omega (arith, h.0.high)) (λ k below. false_from_ne_true _ (h.0.before k (omega arith) below)) (λ below. h.1) in
      let within = lt-ltb n (length bytes) h.0.high in
      sym (ap placed is ∙ rw within refl)

module _ {X : Type 0} (p : X → Bool) where
  -- an element that passes is one of the list
  pub any_at : (xs : List X) (i : ℕ) (d : X) → i < length xs → p (get_or xs i d) ≡ true → list_any p xs ≡ true
  any_at [] i d h e = absurd (omega arith)
  any_at (x ∷ xs) zero d h e = or_left (p x) (list_any p xs) e
  any_at (x ∷ xs) (suc i) d h e = or_right (p x) (list_any p xs) (any_at xs i d (omega arith) e)

  -- where a place is found, an element passes
  pub any_found : (xs : List X) (i : ℕ) (d : X) → position p xs ≡ Some i → list_any p xs ≡ true
  any_found xs i d e = let first = position-Some p xs i d e in any_at xs i d first.0 first.1

  -- where none is found, none passes
  not_below : (b : Bool) (n : ℕ) → cond b (Some n) None ≡ None → b ≡ false
  not_below true n e = absurd cc
  not_below false n e = refl

  pub none_found : (xs : List X) → position p xs ≡ None → list_any p xs ≡ false
  none_found xs e =
      let past : length xs ≤ position_or_len p xs = ltb-false _ _ (not_below _ _ e) in
      list_any_none p xs (λ k d h. fails_before_first p xs k d (omega arith))

  -- none passes before the first one that does
  pub none_before : (xs : List X) → list_any p (before_first p xs) ≡ false
  none_before xs = list_any_none p (before_first p xs) (λ k d h.
      let below : k < position_or_len p xs = omega (arith, length-take (position_or_len p xs) xs) in
      rw (get_or-take (position_or_len p xs) xs k d below) (fails_before_first p xs k d below))

  -- where an element passes, there is a first one
  pub place_found : (xs : List X) → list_any p xs ≡ true → position_or_len p xs < length xs
  place_found xs h = ⊎_elim (λ below. below)
      (λ past. absurd (false≢true (sym (list_any_none p xs (λ k d below. fails_before_first p xs k d (omega arith))) ∙ h)))
      (cases_lt (position_or_len p xs) (length xs))

  -- where none passes, all stand before the first one that does
  pub all_before : (xs : List X) → list_any p xs ≡ false → length (before_first p xs) ≡ length xs
  all_before [] h = refl
  all_before (x ∷ xs) h = ⊎_elim
      (λ below. absurd (false≢true (sym h ∙ any_at (x ∷ xs) (position_or_len p (x ∷ xs)) x below (passes_at_first p (x ∷ xs) x below))))
      (λ past. omega (arith, past, length-take (position_or_len p (x ∷ xs)) (x ∷ xs)))
      (cases_lt (position_or_len p (x ∷ xs)) (length (x ∷ xs)))
