-- The steps of loops that sum over what is left.
use Rattle.std.proofs.Common.{◌≡◌, ℕ, ◌+◌, ◌<◌, ◌≤◌, List, [], ◌∷◌, length, get_or, drop, sum_by, All, ap, sym, subst, ◌∙◌, arith}
use Rattle.std.proofs.lemmas.List.{at_drop_all}
use Rattle.std.proofs.lemmas.List.Elements.{All-head, All-tail}
use Rattle.std.proofs.lemmas.List.Sums.{sum_by-cons, sum_by-drop_more}

module _ {X : Type 0} (P : X → Type 0) where
  -- what holds of each that is left holds of the next one, and of the rest
  pub All-next : (left rest : List X) (x : X) → left ≡ x ∷ rest → All P left → P x
  All-next left rest x next h = All-head P x rest (subst (All P) next h)

  pub All-rest : (left rest : List X) (x : X) → left ≡ x ∷ rest → All P left → All P rest
  All-rest left rest x next h = All-tail P x rest (subst (All P) next h)

  pub All-item : (xs : List X) (i : ℕ) (x : X) → i < length xs → x ≡ get_or xs i x → All P xs → P x
  All-item xs i x within is h = subst P (sym is) (h i x within)

module _ {X : Type 0} (f : X → ℕ) where
  -- ---- over an iterator
  pub more_eq : (left rest : List X) (x : X) (a b t : ℕ) → left ≡ x ∷ rest → a + sum_by f left ≡ t → b ≡ a + f x → b + sum_by f rest ≡ t
  more_eq left rest x a b t next was more = let step = ap (sum_by f) next ∙ sum_by-cons f x rest in omega arith

  pub more_le : (left rest : List X) (x : X) (a b t : ℕ) → left ≡ x ∷ rest → a + sum_by f left ≤ t → b ≤ a + f x → b + sum_by f rest ≤ t
  more_le left rest x a b t next was more = let step = ap (sum_by f) next ∙ sum_by-cons f x rest in omega arith

  pub none_left : (left : List X) (a t : ℕ) → left ≡ [] → a + sum_by f left ≡ t → a ≡ t
  none_left left a t none was = let step : sum_by f left ≡ 0 = ap (sum_by f) none in omega arith

  -- ---- over a slice
  item_sum : (xs : List X) (i : ℕ) (x : X) → i < length xs → x ≡ get_or xs i x → sum_by f (drop i xs) ≡ f x + sum_by f (drop (i + 1) xs)
  item_sum xs i x within is = let step = sum_by-drop_more f xs i x within in let here = ap f is in omega arith

  pub slice_eq : (xs : List X) (i : ℕ) (x : X) (a b t : ℕ) → i < length xs → x ≡ get_or xs i x → a + sum_by f (drop i xs) ≡ t → b ≡ a + f x → b + sum_by f (drop (i + 1) xs) ≡ t
  slice_eq xs i x a b t within is was more = let step = item_sum xs i x within is in omega arith

  pub slice_le : (xs : List X) (i : ℕ) (x : X) (a b t : ℕ) → i < length xs → x ≡ get_or xs i x → a + sum_by f (drop i xs) ≤ t → b ≤ a + f x → b + sum_by f (drop (i + 1) xs) ≤ t
  slice_le xs i x a b t within is was more = let step = item_sum xs i x within is in omega arith

  pub slice_done : (xs : List X) (i a t : ℕ) → length xs ≤ i → a + sum_by f (drop i xs) ≡ t → a ≡ t
  slice_done xs i a t past was = let step : sum_by f (drop i xs) ≡ 0 = at_drop_all (λ (ys : List X). sum_by f ys) xs i past in omega arith
