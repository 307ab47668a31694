-- Runs of bytes of one class, and the first byte of another.
use Rattle.std.proofs.Common.{◌≡◌, ℕ, ◌<◌, ◌≤◌, Bool, true, false, List, length, take, get_or, ap, ◌∙◌, ⊎_elim, subst, arith}
use Rattle.std.specs.List.{list_all, prefix_len, position_or_len}
use Rattle.std.proofs.lemmas.List.{get_or-take, length-take-le}
use Rattle.std.proofs.lemmas.List.Folds.{list_all_at, length-prefix_len}
use Rattle.std.proofs.lemmas.List.Sums.{list_all-from_AllPass, prefix_len_passes, prefix_len_stops, position_or_len_is, fails_before_first, passes_at_first}
use Rattle.std.proofs.lemmas.Bool.{cases_lt, both_ways}

module _ (p : ℕ → Bool) (xs : List ℕ) where
  -- the run passes
  pub run_all : list_all p (take (prefix_len p xs) xs) ≡ true
  run_all = list_all-from_AllPass p (take (prefix_len p xs) xs) (λ k d h.
      let l : k < prefix_len p xs = omega (arith, length-prefix_len p xs) in
      ap p (get_or-take (prefix_len p xs) xs k d l) ∙ prefix_len_passes p xs k d l)

  -- no longer front passes
  pub run_past : (m : ℕ) → prefix_len p xs < m → m ≤ length xs → list_all p (take m xs) ≡ false
  run_past m h l = list_all_at p (take m xs) (prefix_len p xs) 0 (omega (arith, length-take-le m xs l))
      (ap p (get_or-take m xs (prefix_len p xs) 0 h) ∙ prefix_len_stops p xs 0 (omega arith))

  -- a run whose first byte passes is not empty
  pub run_some : p (get_or xs 0 0) ≡ true → 0 < length xs → 0 < prefix_len p xs
  run_some h l =
      let apart = λ (n : ℕ) (e : n ≡ 0) (f : p (get_or xs n 0) ≡ false). both_ways (p (get_or xs 0 0)) (subst (λ m. p (get_or xs m 0) ≡ false) e f) h in
      ⊎_elim (λ k. k) (λ k.
      let none : prefix_len p xs ≡ 0 = omega arith in
      let stops = prefix_len_stops p xs 0 (omega arith) in
      absurd (apart (prefix_len p xs) none stops)) (cases_lt 0 (prefix_len p xs))

  -- a front that reaches past the first byte of a class has it at the same place
  pub first_in : (k : ℕ) → position_or_len p xs < k → k ≤ length xs → position_or_len p (take k xs) ≡ position_or_len p xs
  first_in k h l = position_or_len_is p (take k xs) (position_or_len p xs) 0 (omega (arith, length-take-le k xs l))
      (λ j i. ap p (get_or-take k xs j 0 (omega arith)) ∙ fails_before_first p xs j 0 i)
      (λ i. ap p (get_or-take k xs (position_or_len p xs) 0 h) ∙ passes_at_first p xs 0 (omega arith))

  -- a front before it has none
  pub first_past : (k : ℕ) → k ≤ position_or_len p xs → k ≤ length xs → position_or_len p (take k xs) ≡ k
  first_past k h l = position_or_len_is p (take k xs) k 0 (omega (arith, length-take-le k xs l))
      (λ j i. ap p (get_or-take k xs j 0 i) ∙ fails_before_first p xs j 0 (omega arith))
      (λ i. absurd (omega (arith, length-take-le k xs l)))
