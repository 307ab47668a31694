-- Items put into a list one by one are all there.
use Rattle.std.proofs.Common.{◌≡◌, ℕ, List, [], ◌∷◌, fold, Contains, refl, sym, subst, ◌⊎◌, inl, inr, arith}
use Rattle.std.specs.declared.cmp.Ordering.{Ordering}
use Rattle.std.specs.declared.cmp.Ordering.TheVariants.{Less, Equal, Greater}
use Rattle.std.specs.Ordering.{match_ordering}
use Rattle.std.specs.BTreeSet.{insert_key}
use Rattle.std.proofs.lemmas.List.Elements.{All-nil, All-cons, All-contains, Contains-get_or, Contains-append_left, Contains-append_right, Contains-append_cases}
use Rattle.std.proofs.lemmas.Map.Lookups.{CmpEqualImpliesEq, exact_bytes}
use Rattle.nf_core.specs.Texts.{text_cmp}
use Rattle.nf_core.specs.Written.{ascending}

-- by an insert that puts its item there and keeps the others
module _ {K : Type 0} (insert : List K → K → List K) (puts : (ks : List K) (k : K) → Contains (insert ks k) k) (keeps : (ks : List K) (k t : K) → Contains ks t → Contains (insert ks k) t) where
  Contains-fold_old : (xs ks : List K) (t : K) → Contains ks t → Contains (fold insert ks xs) t
  Contains-fold_old [] ks t h = h
  Contains-fold_old (x ∷ xs) ks t h = Contains-fold_old xs (insert ks x) t (keeps ks x t h)

  pub Contains-fold : (xs ks : List K) (t : K) → Contains xs t → Contains (fold insert ks xs) t
  Contains-fold [] ks t h = absurd (omega (arith, h.1))
  Contains-fold (x ∷ xs) ks t h = by (Contains-append_cases (x ∷ []) xs t h) (Contains-fold xs (insert ks x) t)
    where
      by : Contains (x ∷ []) t ⊎ Contains xs t → (Contains xs t → Contains (fold insert ks (x ∷ xs)) t) → Contains (fold insert ks (x ∷ xs)) t
      by (inl a) rest =
          let is : t ≡ x = All-contains (λ s. s ≡ x) (x ∷ []) t (All-cons (λ s. s ≡ x) x [] refl (All-nil (λ s. s ≡ x))) a in
          Contains-fold_old xs (insert ks x) t (subst (Contains (insert ks x)) (sym is) (puts ks x))
      by (inr b) rest = rest b

-- an insert in order
module _ {K : Type 0} (R : K → K → Ordering) (exact : CmpEqualImpliesEq R) where
  Contains-insert_key : (ks : List K) (k : K) → Contains (insert_key R ks k) k
  Contains-insert_key [] k = Contains-get_or (k ∷ []) 0 k (omega arith)
  Contains-insert_key (x ∷ xs) k = by (R k x) refl (Contains-insert_key xs k)
    where
      by : (o : Ordering) → R k x ≡ o → Contains (insert_key R xs k) k → Contains (match_ordering o (k ∷ x ∷ xs) (x ∷ xs) (x ∷ insert_key R xs k)) k
      by Less e rest = Contains-get_or (k ∷ x ∷ xs) 0 k (omega arith)
      by Equal e rest = subst (Contains (x ∷ xs)) (sym (exact k x e)) (Contains-get_or (x ∷ xs) 0 x (omega arith))
      by Greater e rest = Contains-append_right (x ∷ []) (insert_key R xs k) k rest

  Contains-insert_key_old : (ks : List K) (k t : K) → Contains ks t → Contains (insert_key R ks k) t
  Contains-insert_key_old [] k t h = absurd (omega (arith, h.1))
  Contains-insert_key_old (x ∷ xs) k t h = by (R k x) (Contains-append_cases (x ∷ []) xs t h) (Contains-insert_key_old xs k t)
    where
      by : (o : Ordering) → Contains (x ∷ []) t ⊎ Contains xs t → (Contains xs t → Contains (insert_key R xs k) t) → Contains (match_ordering o (k ∷ x ∷ xs) (x ∷ xs) (x ∷ insert_key R xs k)) t
      by Less o rest = Contains-append_right (k ∷ []) (x ∷ xs) t h
      by Equal o rest = h
      by Greater (inl a) rest = Contains-append_left (x ∷ []) (insert_key R xs k) t a
      by Greater (inr b) rest = Contains-append_right (x ∷ []) (insert_key R xs k) t (rest b)

-- texts put in their order are all there
pub Contains-ascending : (texts : List (List ℕ)) (t : List ℕ) → Contains texts t → Contains (ascending texts) t
Contains-ascending texts t h = Contains-fold (λ all text. insert_key text_cmp all text) (Contains-insert_key text_cmp exact_bytes) (Contains-insert_key_old text_cmp exact_bytes) texts [] t h
