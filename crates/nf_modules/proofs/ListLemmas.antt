-- Items of lists by their places.
use Rattle.std.proofs.Common.{◌≡◌, ◌⊎◌, inl, inr, ℕ, zero, suc, ◌+◌, ◌<◌, Bool, true, false, cond, List, [], ◌∷◌, ◌++◌, length, map, take, drop, get_or, slice_get, Some, Contains, refl, sym, ap, add-one, arith}
use Rattle.std.specs.List.{items_where_true, AllZip}

-- an item stays where it is behind a longer list
pub slice_get-kept : {X : Type 0} (xs : List X) (x y : X) (i : ℕ) → slice_get xs i ≡ Some y → slice_get (xs ++ x ∷ []) i ≡ Some y
slice_get-kept [] x y i e = cc
slice_get-kept (z ∷ xs) x y zero e = e
slice_get-kept (z ∷ xs) x y (suc i) e = slice_get-kept xs x y i e

-- the last item
pub slice_get-last : {X : Type 0} (xs : List X) (x : X) (i : ℕ) → i ≡ length xs → slice_get (xs ++ x ∷ []) i ≡ Some x
slice_get-last [] x zero e = refl
slice_get-last [] x (suc i) e = absurd (omega arith)
slice_get-last (z ∷ xs) x zero e = absurd (omega arith)
slice_get-last (z ∷ xs) x (suc i) e = slice_get-last xs x i (omega arith)

-- an item is an earlier one or the last one
pub slice_get-push : {X : Type 0} (xs : List X) (x y : X) (i : ℕ) → slice_get (xs ++ x ∷ []) i ≡ Some y → (slice_get xs i ≡ Some y) ⊎ ((i ≡ length xs) × (x ≡ y))
slice_get-push [] x y zero e = inr (refl, (cc))
slice_get-push [] x y (suc i) e = cc
slice_get-push (z ∷ xs) x y zero e = inl e
slice_get-push (z ∷ xs) x y (suc i) e = elim (slice_get-push xs x y i e) [ inl h ↦ inl h | inr h ↦ inr (omega (arith, h.0), h.1) ]

-- an item that stands at a place is one of the list
pub Contains-at : {X : Type 0} (xs : List X) (x : X) (i : ℕ) → slice_get xs i ≡ Some x → Contains xs x
Contains-at [] x i e = cc
Contains-at (y ∷ xs) x zero e = (0, omega arith, (cc))
Contains-at (y ∷ xs) x (suc i) e = let h : Contains xs x = Contains-at xs x i e in (suc h.0, omega arith, h.2)

-- an item of a list stands at a place
pub at_Contains : {X : Type 0} (xs : List X) (x : X) → Contains xs x → (i : ℕ) × (slice_get xs i ≡ Some x)
at_Contains [] x h = absurd (omega arith)
at_Contains (y ∷ xs) x (zero, h, e) = (0, ap Some e)
at_Contains (y ∷ xs) x (suc k, h, e) = let r : (i : ℕ) × (slice_get xs i ≡ Some x) = at_Contains xs x (k, omega arith, e) in (suc r.0, r.1)

items_suc : {X : Type 0} (bs : List Bool) (xs : List X) (i : ℕ) (x : X) → length bs ≡ length xs → slice_get xs i ≡ Some x → items_where_true (take (suc i) bs) (take (suc i) xs) ≡ items_where_true (take i bs) (take i xs) ++ cond (get_or bs i false) (x ∷ []) []
items_suc [] [] i x long at = cc
items_suc [] (y ∷ xs) i x long at = absurd (omega arith)
items_suc (b ∷ bs) [] i x long at = cc
items_suc (true ∷ bs) (y ∷ xs) zero x long at = let same : y ≡ x = cc in ap (λ z. z ∷ []) same
items_suc (false ∷ bs) (y ∷ xs) zero x long at = refl
items_suc (true ∷ bs) (y ∷ xs) (suc i) x long at = ap (λ items. y ∷ items) (items_suc bs xs i x (omega arith) at)
items_suc (false ∷ bs) (y ∷ xs) (suc i) x long at = items_suc bs xs i x (omega arith) at

-- the items at which a list of truth values says true, and one more
pub items_more : {X : Type 0} (bs : List Bool) (xs : List X) (i : ℕ) (x : X) → length bs ≡ length xs → slice_get xs i ≡ Some x → items_where_true (take (i + 1) bs) (take (i + 1) xs) ≡ items_where_true (take i bs) (take i xs) ++ cond (get_or bs i false) (x ∷ []) []
items_more bs xs i x long at = rw add-one (items_suc bs xs i x long at)

-- a relation that holds at each place
pub AllZip-at : {X : Type 0} (R : X → Bool → Type 0) (xs : List X) (bs : List Bool) → length bs ≡ length xs → ((i : ℕ) (x : X) → slice_get xs i ≡ Some x → R x (get_or bs i false)) → AllZip R xs bs
AllZip-at R [] [] long each = tt
AllZip-at R [] (b ∷ bs) long each = absurd (omega arith)
AllZip-at R (x ∷ xs) [] long each = absurd (omega arith)
AllZip-at R (x ∷ xs) (b ∷ bs) long each = (each 0 x refl, AllZip-at R xs bs (omega arith) (λ i y e. each (suc i) y e))

-- a truth value that is given for each item
pub AllZip-map : {X : Type 0} (R : X → Bool → Type 0) (test : X → Bool) (xs : List X) → ((x : X) → Contains xs x → R x (test x)) → AllZip R xs (map test xs)
AllZip-map R test [] each = tt
AllZip-map R test (x ∷ xs) each = (each x (0, omega arith, refl), AllZip-map R test xs (λ y h. each y (suc h.0, omega arith, h.2)))

split_suc : {X : Type 0} (xs : List X) (i : ℕ) (x : X) → i < length xs → x ≡ get_or xs i x → xs ≡ take i xs ++ x ∷ drop (suc i) xs
split_suc [] i x h is = absurd (omega arith)
split_suc (y ∷ xs) zero x h is = ap (λ z. z ∷ xs) (sym is)
split_suc (y ∷ xs) (suc i) x h is = ap (λ zs. y ∷ zs) (split_suc xs i x (omega arith) is)

-- a list at one of its places
pub split_at : {X : Type 0} (xs : List X) (i : ℕ) (x : X) → i < length xs → x ≡ get_or xs i x → xs ≡ take i xs ++ x ∷ drop (i + 1) xs
split_at xs i x h is = rw add-one (split_suc xs i x h is)

-- a list without items
pub empty_list : {X : Type 0} (xs : List X) → length xs ≡ 0 → xs ≡ []
empty_list [] e = refl
empty_list (x ∷ xs) e = absurd (omega arith)

no_items : {X : Type 0} (bs : List Bool) → items_where_true {X = X} bs [] ≡ []
no_items [] = refl
no_items (b ∷ bs) = refl

-- the items at which a list of truth values says true, up to a place and from it on
pub items_split : {X : Type 0} (bs : List Bool) (xs : List X) (k : ℕ) → items_where_true bs xs ≡ items_where_true (take k bs) (take k xs) ++ items_where_true (drop k bs) (drop k xs)
items_split bs xs zero = refl
items_split [] xs (suc k) = refl
items_split (b ∷ bs) [] (suc k) = sym (no_items (drop k bs))
items_split (true ∷ bs) (x ∷ xs) (suc k) = ap (λ items. x ∷ items) (items_split bs xs k)
items_split (false ∷ bs) (x ∷ xs) (suc k) = items_split bs xs k
