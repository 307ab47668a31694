-- Names and their levels as two lists, and as one list of pairs.
use Rattle.std.proofs.Common.{◌≡◌, ℕ, suc, ◌+◌, Bool, true, false, cond, not, nat_lt, Some, None, option_and_then, List, [], ◌∷◌, ◌++◌, length, position, slice_get, bytes_eq, refl, sym, ap, ◌∙◌, arith, inl, inr, length-append, if◌then◌else◌, ◌||◌}
use Rattle.std.specs.List.{list_any, position_or_len, zip}
use Rattle.std.specs.Map.{lookup}
use Rattle.std.proofs.lemmas.Bool.{cases_lt, lt-ltb, le-ltb}
use Rattle.indexmap.specs.IndexSet.{insert_key}
use Rattle.nf_core.specs.Texts.{text_eq}
use Rattle.nf_core.specs.Written.{Levels, level_of_name}

module _ {K V : Type 0} (test : K → Bool) where
  -- what stands with the first key that passes is at the place of that key
  pub lookup-zip : (ks : List K) (vs : List V) → length ks ≡ length vs → lookup test (zip ks vs) ≡ option_and_then (slice_get vs) (position test ks)
  lookup-zip [] vs e = refl
  lookup-zip (k ∷ ks) [] e = absurd (omega (arith, e))
  lookup-zip (k ∷ ks) (v ∷ vs) e = by (test k) (lookup-zip ks vs (omega (arith, e)))
    where
      further : (b : Bool) (p q : ℕ) → q ≡ suc p → option_and_then (slice_get (v ∷ vs)) (cond b (Some q) None) ≡ option_and_then (slice_get vs) (cond b (Some p) None)
      further true p q is = ap (slice_get (v ∷ vs)) is
      further false p q is = refl

      next : (p n : ℕ) → nat_lt (1 + p) (suc n) ≡ nat_lt p n
      next p n = elim (cases_lt p n) [ inl h ↦ lt-ltb (1 + p) (suc n) (omega (arith, h)) ∙ sym (lt-ltb p n h) | inr h ↦ le-ltb (1 + p) (suc n) (omega (arith, h)) ∙ sym (le-ltb p n h) ]

      by : (b : Bool) → lookup test (zip ks vs) ≡ option_and_then (slice_get vs) (position test ks)
          → cond b (Some v) (lookup test (zip ks vs)) ≡ option_and_then (slice_get (v ∷ vs)) (cond (nat_lt (cond (not b) (1 + position_or_len test ks) 0) (suc (length ks))) (Some (cond (not b) (1 + position_or_len test ks) 0)) None)
      by true rest = ap (λ b. option_and_then (slice_get (v ∷ vs)) (cond b (Some 0) None)) (sym (lt-ltb 0 (suc (length ks)) (omega arith)))
      by false rest =
          rest
          ∙ sym (further (nat_lt (position_or_len test ks) (length ks)) (position_or_len test ks) (1 + position_or_len test ks) (omega arith))
          ∙ ap (λ b. option_and_then (slice_get (v ∷ vs)) (cond b (Some (1 + position_or_len test ks)) None)) (sym (next (position_or_len test ks) (length ks)))

  -- where nothing is found, no key passes
  pub none-zip : (ks : List K) (vs : List V) → length ks ≡ length vs → lookup test (zip ks vs) ≡ None → list_any test ks ≡ false
  none-zip [] vs e none = refl
  none-zip (k ∷ ks) [] e none = absurd (omega (arith, e))
  none-zip (k ∷ ks) (v ∷ vs) e none = by (test k) none (none-zip ks vs (omega (arith, e)))
    where
      by : (b : Bool) → cond b (Some v) (lookup test (zip ks vs)) ≡ None → (lookup test (zip ks vs) ≡ None → list_any test ks ≡ false) → (b || list_any test ks) ≡ false
      by true n rest = absurd (cc)
      by false n rest = rest n

-- one more pair
pub zip-push : {K V : Type 0} (ks : List K) (vs : List V) (k : K) (v : V) → length ks ≡ length vs → zip (ks ++ k ∷ []) (vs ++ v ∷ []) ≡ zip ks vs ++ (k, v) ∷ []
zip-push [] [] k v e = refl
zip-push [] (y ∷ vs) k v e = absurd (omega (arith, e))
zip-push (x ∷ ks) [] k v e = absurd (omega (arith, e))
zip-push (x ∷ ks) (y ∷ vs) k v e = ap (λ rest. (x, y) ∷ rest) (zip-push ks vs k v (omega (arith, e)))

module _ (names : List (List ℕ)) (levels : List ℕ) (name : List ℕ) (level : ℕ) (each : length names ≡ length levels) (none : lookup (bytes_eq name) (zip names levels) ≡ None) where
  pub inserted_last : insert_key text_eq names name ≡ names ++ name ∷ []
  inserted_last = ap (λ b. if b then names else names ++ name ∷ []) (none-zip (bytes_eq name) names levels each none)

  -- a name without a level goes last with its level
  pub zip-insert_key : zip (insert_key text_eq names name) (levels ++ level ∷ []) ≡ zip names levels ++ (name, level) ∷ []
  zip-insert_key = ap (λ ns. zip ns (levels ++ level ∷ [])) inserted_last ∙ zip-push names levels name level each

-- one more of both
pub same_length : {K V : Type 0} (ks : List K) (vs : List V) (k : K) (v : V) → length ks ≡ length vs → length (ks ++ k ∷ []) ≡ length (vs ++ v ∷ [])
same_length ks vs k v e = length-append ks (k ∷ []) ∙ ap (λ n. n + 1) e ∙ sym (length-append vs (v ∷ []))

-- what is said of the pairs as they are seen holds of them as they are kept
pub lookup_seen : (kept seen : Levels) (name : List ℕ) → kept ≡ seen → level_of_name seen name ≡ None → level_of_name kept name ≡ None
lookup_seen kept seen name is none = ap (λ levels. level_of_name levels name) is ∙ none
