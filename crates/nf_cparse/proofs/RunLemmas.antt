-- Runs of bytes of one class.
use Rattle.std.proofs.Common.{◌≡◌, ℕ, suc, ◌+◌, Bool, true, false, ◌&&◌, cond, List, [], ◌∷◌, ◌++◌, length, take, drop, get_or, refl, sym, subst, arith}
use Rattle.std.specs.List.{list_all, prefix_len}
use Rattle.std.proofs.lemmas.List.{take_at}
use Rattle.std.proofs.Math.Seq.{drop-append_seam}
use Rattle.nf_lemmas.proofs.BoolLemmas.{both}

module _ (p : ℕ → Bool) where
  -- the run at the front passes
  pub run_passes : (xs : List ℕ) → list_all p (take (prefix_len p xs) xs) ≡ true
  run_passes [] = refl
  run_passes (x ∷ xs) = by (p x) refl (run_passes xs)
    where
      by : (b : Bool) → p x ≡ b → list_all p (take (prefix_len p xs) xs) ≡ true → list_all p (take (cond b (1 + prefix_len p xs) 0) (x ∷ xs)) ≡ true
      by true e rest =
          let one : suc (prefix_len p xs) ≡ 1 + prefix_len p xs = omega arith in
          let all : (p x && list_all p (take (prefix_len p xs) xs)) ≡ true = rw (e, rest) refl in
          subst (λ n. list_all p (take n (x ∷ xs)) ≡ true) one all
      by false e rest = refl

  -- what stands behind it does not go on with it, where 0 doesn't pass
  pub run_stops : p 0 ≡ false → (xs : List ℕ) → p (get_or (drop (prefix_len p xs) xs) 0 0) ≡ false
  run_stops none [] = none
  run_stops none (x ∷ xs) = by (p x) refl (run_stops none xs)
    where
      by : (b : Bool) → p x ≡ b → p (get_or (drop (prefix_len p xs) xs) 0 0) ≡ false → p (get_or (drop (cond b (1 + prefix_len p xs) 0) (x ∷ xs)) 0 0) ≡ false
      by true e rest =
          let one : suc (prefix_len p xs) ≡ 1 + prefix_len p xs = omega arith in
          subst (λ n. p (get_or (drop n (x ∷ xs)) 0 0) ≡ false) one rest
      by false e rest = e

  -- the run at the front of a word and a rest that doesn't go on with it is the word
  pub run_is : (word rest : List ℕ) → list_all p word ≡ true → p (get_or rest 0 0) ≡ false → prefix_len p (word ++ rest) ≡ length word
  run_is [] [] h r = refl
  run_is [] (x ∷ rest) h r = rw r refl
  run_is (x ∷ word) rest h r =
      let parts = both (p x) (list_all p word) h in
      let one : 1 + length word ≡ length (x ∷ word) = omega arith in
      rw (parts.0, run_is word rest parts.1 r) one

  pub run_word : (bytes word rest : List ℕ) → bytes ≡ word ++ rest → list_all p word ≡ true → p (get_or rest 0 0) ≡ false → word ≡ take (prefix_len p bytes) bytes
  run_word bytes word rest is h r = rw (is, run_is word rest h r) (sym (take_at word rest (length word) refl))

  pub run_rest : (bytes word rest : List ℕ) → bytes ≡ word ++ rest → list_all p word ≡ true → p (get_or rest 0 0) ≡ false → rest ≡ drop (prefix_len p bytes) bytes
  run_rest bytes word rest is h r = rw (is, run_is word rest h r) (sym (drop-append_seam word rest))
