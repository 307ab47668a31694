-- The steps of loops over what is left of a list.
use Rattle.std.proofs.Common.{◌≡◌, ℕ, ◌+◌, ◌<◌, ◌≤◌, List, [], ◌∷◌, length, get_or, drop, sum_by, All, ap, sym, subst, ◌∙◌}
use Rattle.std.proofs.lemmas.List.{at_drop_all}
use Rattle.std.proofs.lemmas.List.Elements.{All-head, All-tail}
use Rattle.std.proofs.lemmas.List.Sums.{sum_by-cons, sum_by-drop_more}

module _ {X : Type 0} (P : X → Type 0) where
  -- what holds of each that is left holds of the next one, and of the rest
  pub All-next : (left rest : List X) (x : X) → left ≡ x ∷ rest → All P left → P x
  All-next left rest x next h = All-head P x rest (subst (All P) next h)

  pub All-rest : (left rest : List X) (x : X) → left ≡ x ∷ rest → All P left → All P rest
  All-rest left rest x next h = All-tail P x rest (subst (All P) next h)

  pub All-item : (xs : List X) (i : ℕ) (x : X) → i < length xs → x ≡ get_or xs i x → All P xs → P x
  All-item xs i x within is h = subst P (sym is) (h i x within)

module _ {X : Type 0} (f : X → ℕ) where
  -- a sum over what is left is the next one's and that over the rest
  pub next_sum : (left rest : List X) (x : X) → left ≡ x ∷ rest → sum_by f left ≡ f x + sum_by f rest
  next_sum left rest x next = ap (sum_by f) next ∙ sum_by-cons f x rest

  pub none_sum : (left : List X) → left ≡ [] → sum_by f left ≡ 0
  none_sum left none = ap (sum_by f) none

  pub item_sum : (xs : List X) (i : ℕ) (x : X) → i < length xs → x ≡ get_or xs i x → sum_by f (drop i xs) ≡ f x + sum_by f (drop (i + 1) xs)
  item_sum xs i x within is = sum_by-drop_more f xs i x within ∙ ap (λ y. f y + sum_by f (drop (i + 1) xs)) (sym is)

  pub past_sum : (xs : List X) (i : ℕ) → length xs ≤ i → sum_by f (drop i xs) ≡ 0
  past_sum xs i past = at_drop_all (λ (ys : List X). sum_by f ys) xs i past
