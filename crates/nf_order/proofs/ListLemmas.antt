-- Lists: what a filter keeps, what a map gives, and the greatest of some numbers.
use Rattle.std.proofs.Common.{◌≡◌, ℕ, zero, suc, ◌<◌, ◌≤◌, max, Bool, true, false, cond, List, [], ◌∷◌, length, get_or, map, filter, flat_map, fold, slice_get, Contains, Some, refl, sym, ap, subst, ◌∙◌, ◌⊎◌, inl, inr, arith}
use Rattle.std.proofs.lemmas.Bool.{false≢true}
use Rattle.std.proofs.lemmas.List.Elements.{Contains-get_or, Contains-append_left, Contains-append_right, Contains-append_cases}
use Rattle.nf_core.specs.Plan.{greatest}

module _ {A : Type 0} where
  -- an item is the first or one of the others
  pub Contains-cases : (y : A) (ys : List A) (x : A) → Contains (y ∷ ys) x → (y ≡ x) ⊎ Contains ys x
  Contains-cases y ys x (zero, h, is) = inl is
  Contains-cases y ys x (suc k, h, is) = inr (k, omega (arith, h), is)

  pub Contains-first : (y : A) (ys : List A) → Contains (y ∷ ys) y
  Contains-first y ys = Contains-get_or (y ∷ ys) 0 y (omega arith)

  pub Contains-later : (y : A) (ys : List A) (x : A) → Contains ys x → Contains (y ∷ ys) x
  Contains-later y ys x h = Contains-append_right (y ∷ []) ys x h

module _ {A B : Type 0} (f : A → B) where
  pub Contains-map_from : (xs : List A) (y : B) → Contains (map f xs) y → (x : A) × (Contains xs x) × (f x ≡ y)
  Contains-map_from [] y h = absurd (omega (arith, h.1))
  Contains-map_from (x ∷ xs) y h = by (Contains-cases (f x) (map f xs) y h) (Contains-map_from xs y)
    where
      by : (f x ≡ y) ⊎ Contains (map f xs) y → (Contains (map f xs) y → (z : A) × (Contains xs z) × (f z ≡ y)) → (z : A) × (Contains (x ∷ xs) z) × (f z ≡ y)
      by (inl e) rest = (x, Contains-first x xs, e)
      by (inr c) rest = let r = rest c in (r.0, Contains-later x xs r.0 r.1, r.2)

  -- two maps that agree at each item
  pub map_alike : (g : A → B) (xs : List A) → ((x : A) → Contains xs x → f x ≡ g x) → map f xs ≡ map g xs
  map_alike g [] each = refl
  map_alike g (x ∷ xs) each = λ i. each x (Contains-first x xs) i ∷ map_alike g xs (λ y c. each y (Contains-later x xs y c)) i

module _ {A B : Type 0} (f : A → List B) (p : A → Bool) where
  -- what is read of the items that pass a test
  pub Contains-passed : (xs : List A) (x : A) (y : B) → Contains xs x → p x ≡ true → Contains (f x) y → Contains (flat_map f (filter p xs)) y
  Contains-passed [] x y h e c = absurd (omega (arith, h.1))
  Contains-passed (z ∷ zs) x y h e c = by (p z) refl (Contains-cases z zs x h) (λ there. Contains-passed zs x y there e c)
    where
      by : (b : Bool) → p z ≡ b → (z ≡ x) ⊎ Contains zs x → (Contains zs x → Contains (flat_map f (filter p zs)) y) → Contains (flat_map f (cond b (z ∷ filter p zs) (filter p zs))) y
      by true q (inl is) rest = Contains-append_left (f z) (flat_map f (filter p zs)) y (subst (λ w. Contains (f w) y) (sym is) c)
      by true q (inr there) rest = Contains-append_right (f z) (flat_map f (filter p zs)) y (rest there)
      by false q (inl is) rest = absurd (false≢true (sym q ∙ ap p is ∙ e))
      by false q (inr there) rest = rest there

  pub Contains-passed_from : (xs : List A) (y : B) → Contains (flat_map f (filter p xs)) y → (x : A) × (Contains xs x) × (p x ≡ true) × (Contains (f x) y)
  Contains-passed_from [] y h = absurd (omega (arith, h.1))
  Contains-passed_from (z ∷ zs) y h = by (p z) refl h (Contains-passed_from zs y)
    where
      by : (b : Bool) → p z ≡ b → Contains (flat_map f (cond b (z ∷ filter p zs) (filter p zs))) y → (Contains (flat_map f (filter p zs)) y → (x : A) × (Contains zs x) × (p x ≡ true) × (Contains (f x) y))
          → (x : A) × (Contains (z ∷ zs) x) × (p x ≡ true) × (Contains (f x) y)
      by true q c rest = elim (Contains-append_cases (f z) (flat_map f (filter p zs)) y c) [
        | inl here ↦ (z, Contains-first z zs, q, here)
        | inr there ↦ let r = rest there in (r.0, Contains-later z zs r.0 r.1, r.2, r.3)
      ]
      by false q c rest = let r = rest c in (r.0, Contains-later z zs r.0 r.1, r.2, r.3)

-- the greatest of some numbers and one more
pub fold-max_least : (xs : List ℕ) (a : ℕ) → a ≤ fold max a xs
fold-max_least [] a = omega arith
fold-max_least (x ∷ xs) a = omega (arith, fold-max_least xs (max a x))

fold-max_each : (xs : List ℕ) (a x : ℕ) → Contains xs x → x ≤ fold max a xs
fold-max_each [] a x h = absurd (omega (arith, h.1))
fold-max_each (y ∷ ys) a x h = elim (Contains-cases y ys x h) [ inl e ↦ omega (arith, e, fold-max_least ys (max a y)) | inr c ↦ fold-max_each ys (max a y) x c ]

fold-max_within : (xs : List ℕ) (a m : ℕ) → a ≤ m → ((x : ℕ) → Contains xs x → x ≤ m) → fold max a xs ≤ m
fold-max_within [] a m h each = h
fold-max_within (x ∷ xs) a m h each =
    let first : x ≤ m = each x (Contains-first x xs) in
    fold-max_within xs (max a x) m (omega arith) (λ y c. each y (Contains-later x xs y c))

pub greatest-each : (xs : List ℕ) (x : ℕ) → Contains xs x → x ≤ greatest xs
greatest-each xs x h = fold-max_each xs 0 x h

pub greatest-within : (xs : List ℕ) (m : ℕ) → ((x : ℕ) → Contains xs x → x ≤ m) → greatest xs ≤ m
greatest-within xs m each = fold-max_within xs 0 m (omega arith) each

-- what holds of the first items holds of one of them
pub All-slice_get : {A B : Type 0} (f : A → B) (P : B → Type 0) (xs : List A) (i n : ℕ) (y : B) → slice_get (map f xs) i ≡ Some y → i < n → ((k : ℕ) (d : A) → k < length xs → k < n → P (f (get_or xs k d))) → P y
All-slice_get f P [] i n y e h each = cc
All-slice_get f P (x ∷ xs) zero n y e h each = let is : f x ≡ y = cc in subst P is (each 0 x (omega arith) h)
All-slice_get f P (x ∷ xs) (suc i) zero y e h each = absurd (omega (arith, h))
All-slice_get f P (x ∷ xs) (suc i) (suc n) y e h each = All-slice_get f P xs i n y e (omega (arith, h)) (λ k d there within. each (suc k) d (omega (arith, there)) (omega (arith, within)))
