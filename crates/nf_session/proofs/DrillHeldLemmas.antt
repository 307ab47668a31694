-- What heads hold, counted name by name, and the row of a made line.
use Rattle.std.proofs.Common.{◌≡◌, ◌<◌, ℕ, ℤ, ◌+◌, ◌-◌, ◌^◌, min, Bool, true, false, cond, List, [], ◌∷◌, ◌++◌, length, filter, sum_by, if◌then◌else◌, pos, codes, get_or, take, zero, suc, slice_get, Option, Some, refl, sym, ◌∙◌, ap, arith}
use Rattle.std.specs.List.{range_with_len}
use Rattle.std.proofs.lemmas.List.{append-nil, map-id}
use Rattle.std.proofs.lemmas.List.Elements.{filter-append}
use Rattle.std.proofs.lemmas.List.FromFn.{map-range_with_len_more}
use Rattle.std.proofs.lemmas.List.Sums.{sum_by-append}
use Rattle.std.proofs.lemmas.List.{map_more}
use Rattle.nf_core.specs.declared.values.Value.{Value}
use Rattle.nf_core.specs.declared.values.Value.TheVariants.{Int}
use Rattle.nf_line.specs.Rows.{row_of}
use Rattle.nf_session.specs.inner.Drilling.{cell_of}
use Rattle.nf_session.specs.Drill.{counted}
use Rattle.nf_session.proofs.DrillLemmas.{counted_more, one_sum}

module _ (size : ℕ → ℕ) (p : ℕ → Bool) where
  -- the sizes of the numbers below one that pass a test
  abbrev pub sizes_below : ℕ → ℕ
  sizes_below n = sum_by size (filter p (range_with_len 0 n))

  numbers_more : (n : ℕ) → range_with_len 0 (n + 1) ≡ range_with_len 0 n ++ n ∷ []
  numbers_more n = sym (map-id (range_with_len 0 (n + 1))) ∙ map-range_with_len_more (λ (m : ℕ). m) 0 n n (omega arith) ∙ ap (λ (ns : List ℕ). ns ++ n ∷ []) (map-id (range_with_len 0 n))

  one_size : (n : ℕ) (b : Bool) → sum_by size (cond b (n ∷ []) []) ≡ cond b (size n) 0
  one_size n true = one_sum size n
  one_size n false = refl

  sizes_more : (n : ℕ) → sizes_below (n + 1) ≡ sizes_below n + cond (p n) (size n) 0
  sizes_more n =
      ap (λ ns. sum_by size (filter p ns)) (numbers_more n) ∙ ap (sum_by size) (filter-append p (range_with_len 0 n) (n ∷ []))
      ∙ sum_by-append size (filter p (range_with_len 0 n)) (filter p (n ∷ [])) ∙ ap (λ k. sizes_below n + k) (one_size n (p n))

  -- one more number
  pub held_more : (n held more next : ℕ) → held ≡ counted (sizes_below n) → more ≡ cond (p n) (counted (size n)) 0 → next ≡ counted (held + more) → next ≡ counted (sizes_below (n + 1))
  held_more n held more next is more_is next_is = by (p n) refl
    where
      by : (b : Bool) → p n ≡ b → next ≡ counted (sizes_below (n + 1))
      by true e = omega (arith, is, more_is, next_is, ap (λ b. cond b (counted (size n)) 0) e, sizes_more n, ap (λ b. cond b (size n) 0) e)
      by false e = omega (arith, is, more_is, next_is, ap (λ b. cond b (counted (size n)) 0) e, sizes_more n, ap (λ b. cond b (size n) 0) e)

-- a row with the cell of one key more
got : (keys : List (List ℕ)) (place : ℕ) (key : List ℕ) → slice_get keys place ≡ Some key → (place < length keys) × (get_or keys place [] ≡ key)
got [] place key e = absurd cc
got (first ∷ keys) zero key e = (omega arith, cc)
got (first ∷ keys) (suc place) key e = let later = got keys place key e in (omega (arith, later.0), later.1)

pub row_more : (keys : List (List ℕ)) (place bit : ℕ) (key : List ℕ) (row now : List (Option Value)) (cell : Option Value) → slice_get keys place ≡ Some key
    → row ≡ row_of (take place keys) ((codes "k", Int (pos bit)) ∷ []) → cell ≡ cell_of key bit → now ≡ row ++ cell ∷ []
    → now ≡ row_of (take (place + 1) keys) ((codes "k", Int (pos bit)) ∷ [])
row_more keys place bit key row now cell at so_far is now_is =
    let key_at = got keys place key at in
    now_is ∙ (λ i. so_far i ++ (is ∙ ap (λ k. cell_of k bit) (sym key_at.1)) i ∷ [])
    ∙ sym (map_more (λ k. cell_of k bit) keys place [] key_at.0)
