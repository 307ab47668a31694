-- Pairs of two lists.
use Rattle.std.proofs.Common.{◌≡◌, List, [], ◌∷◌, refl}
use Rattle.std.specs.List.{zip}

-- a list with no partners has no pairs
pub zip_nil : {A B : Type 0} (xs : List A) → zip {X = B} xs [] ≡ []
zip_nil [] = refl
zip_nil (x ∷ xs) = refl
