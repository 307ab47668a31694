-- What holds of lists that are made item by item, and of the first item.
use Rattle.std.proofs.Common.{◌≡◌, ℕ, zero, suc, ◌<◌, Bool, true, false, List, [], ◌∷◌, length, get_or, map, Contains, sym, ap, subst, ◌∙◌, arith}
use Rattle.std.specs.Prelude.{All, flat_map}
use Rattle.std.proofs.lemmas.List.{length-map, get_or-map}
use Rattle.std.proofs.lemmas.List.Elements.{All-nil, All-append, All-head, All-tail, Contains-append_left, Contains-append_right}

-- what holds of all that is made of each item holds of the whole
pub All-flat_map : {X Y : Type 0} (P : Y → Type 0) (f : X → List Y) (xs : List X) → All (λ x. All P (f x)) xs → All P (flat_map f xs)
All-flat_map P f [] h = All-nil P
All-flat_map P f (x ∷ xs) h = All-append P (f x) (flat_map f xs) (All-head (λ x. All P (f x)) x xs h) (All-flat_map P f xs (All-tail (λ x. All P (f x)) x xs h))

-- what is in the list of an item is in the lists of all items
pub Contains-flat_map : {A B : Type 0} (f : A → List B) (xs : List A) (x : A) (y : B) → Contains xs x → Contains (f x) y → Contains (flat_map f xs) y
Contains-flat_map {A} {B} f xs x y there in_its = at xs there.0 there.1 there.2
  where
    at : (zs : List A) (k : ℕ) → k < length zs → get_or zs k x ≡ x → Contains (flat_map f zs) y
    at [] k h is = absurd (omega (arith, h))
    at (z ∷ zs) zero h is = Contains-append_left (f z) (flat_map f zs) y (subst (λ w. Contains (f w) y) (sym is) in_its)
    at (z ∷ zs) (suc k) h is = Contains-append_right (f z) (flat_map f zs) y (at zs k (omega (arith, h)) is)

pub Contains-map : {A B : Type 0} (f : A → B) (xs : List A) (x : A) → Contains xs x → Contains (map f xs) (f x)
Contains-map f xs x there = (there.0, subst (λ n. there.0 < n) (sym (length-map xs f)) there.1, get_or-map f xs there.0 x (f x) there.1 ∙ ap f there.2)

-- a list of numbers whose first one is of a class without 0 is not empty
pub has_first : (p : ℕ → Bool) (xs : List ℕ) → p 0 ≡ false → p (get_or xs 0 0) ≡ true → 0 < length xs
has_first p [] n h = absurd cc
has_first p (x ∷ xs) n h = omega arith
