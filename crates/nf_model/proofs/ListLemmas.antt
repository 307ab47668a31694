-- Lists that grow by one item's part at a time.
use Rattle.std.proofs.Common.{◌≡◌, ℕ, ◌+◌, Bool, true, false, cond, List, [], ◌∷◌, ◌++◌, take, map, filter, Some, All, refl, ap, sym, ◌∙◌, subst, append_assoc, arith, if◌then◌else◌, slice_get}
use Rattle.std.specs.List.{range_with_len, flat_map}
use Rattle.std.proofs.lemmas.List.{append-nil, take_more, map-id}
use Rattle.std.proofs.lemmas.List.Elements.{filter-append, All-nil, All-cons, All-head, All-tail}
use Rattle.std.proofs.lemmas.List.FromFn.{map-range_with_len_more}
use Rattle.std.proofs.lemmas.Grind.{flat_map-append}
use Rattle.std.proofs.lemmas.Option.{slice_get_within, get_or_from_slice_get}

-- one more number, and what is made of it
pub made_more : {X : Type 0} (f : ℕ → X) (n : ℕ) → map f (range_with_len 0 (n + 1)) ≡ map f (range_with_len 0 n) ++ f n ∷ []
made_more f n = map-range_with_len_more f 0 n n (omega arith)

-- one more number
pub numbers_more : (n : ℕ) → range_with_len 0 (n + 1) ≡ range_with_len 0 n ++ n ∷ []
numbers_more n =
    sym (map-id (range_with_len 0 (n + 1))) ∙ made_more (λ m. m) n ∙ ap (λ (ns : List ℕ). ns ++ n ∷ []) (map-id (range_with_len 0 n))

-- one more item
pub items_more : {X : Type 0} (xs : List X) (i : ℕ) (x : X) → slice_get xs i ≡ Some x → take (i + 1) xs ≡ take i xs ++ x ∷ []
items_more xs i x is =
    take_more xs i x (slice_get_within xs i x is) ∙ ap (λ y. take i xs ++ y ∷ []) (get_or_from_slice_get xs i x x is)

-- what one item gives, where it passes a test
one_filtered : {X Y : Type 0} (f : X → List Y) (p : X → Bool) (x : X) → flat_map f (filter p (x ∷ [])) ≡ (if p x then f x else [])
one_filtered f p x = elim (p x) as (λ b. flat_map f (cond b (x ∷ []) []) ≡ (if b then f x else [])) [ true ↦ append-nil (f x) | false ↦ refl ]

-- a list of what the items that pass a test give, after one more item
pub filtered_more : {X Y : Type 0} (f : X → List Y) (p : X → Bool) (begun so_far more : List Y) (xs ys : List X) (x : X) → ys ≡ xs ++ x ∷ []
    → so_far ≡ begun ++ flat_map f (filter p xs) → more ≡ so_far ++ (if p x then f x else []) → more ≡ begun ++ flat_map f (filter p ys)
filtered_more f p begun so_far more xs ys x next so step =
    let parts : flat_map f (filter p ys) ≡ flat_map f (filter p xs) ++ (if p x then f x else []) =
    ap (λ zs. flat_map f (filter p zs)) next ∙ ap (flat_map f) (filter-append p xs (x ∷ [])) ∙ flat_map-append f (filter p xs) (filter p (x ∷ []))
    ∙ ap (λ zs. flat_map f (filter p xs) ++ zs) (one_filtered f p x) in
    step ∙ ap (λ zs. zs ++ (if p x then f x else [])) so ∙ append_assoc begun (flat_map f (filter p xs)) (if p x then f x else [])
    ∙ ap (λ zs. begun ++ zs) (sym parts)

-- what holds of each item that is left holds of each after the next one
pub All-rest : {X : Type 0} (P : X → Type 0) (left rest : List X) (x : X) → left ≡ x ∷ rest → All P left → All P rest
All-rest P left rest x next h = All-tail P x rest (subst (All P) next h)

-- what holds of each item holds of the one at a place
pub All-at : {X : Type 0} (P : X → Type 0) (xs : List X) (i : ℕ) (x : X) → All P xs → slice_get xs i ≡ Some x → P x
All-at P xs i x h is = subst P (get_or_from_slice_get xs i x x is) (h i x (slice_get_within xs i x is))

-- what holds of each member of joined lists holds of each member of each of them
pub All-left : {X : Type 0} (P : X → Type 0) (xs ys : List X) → All P (xs ++ ys) → All P xs
All-left P [] ys h = All-nil P
All-left P (x ∷ xs) ys h = All-cons P x xs (All-head P x (xs ++ ys) h) (All-left P xs ys (All-tail P x (xs ++ ys) h))

pub All-right : {X : Type 0} (P : X → Type 0) (xs ys : List X) → All P (xs ++ ys) → All P ys
All-right P [] ys h = h
All-right P (x ∷ xs) ys h = All-right P xs ys (All-tail P x (xs ++ ys) h)

pub All-parts : {X Y : Type 0} (P : Y → Type 0) (f : X → List Y) (xs : List X) → All P (flat_map f xs) → All (λ x. All P (f x)) xs
All-parts P f [] h = All-nil (λ x. All P (f x))
All-parts P f (x ∷ xs) h =
    All-cons (λ x. All P (f x)) x xs (All-left P (f x) (flat_map f xs) h) (All-parts P f xs (All-right P (f x) (flat_map f xs) h))

-- functions that agree on each member make the same joined lists
pub flat_map_alike : {X Y : Type 0} (f g : X → List Y) (xs : List X) → All (λ x. f x ≡ g x) xs → flat_map f xs ≡ flat_map g xs
flat_map_alike f g [] h = refl
flat_map_alike f g (x ∷ xs) h =
    let here : f x ≡ g x = All-head (λ x. f x ≡ g x) x xs h in
    let rest : flat_map f xs ≡ flat_map g xs = flat_map_alike f g xs (All-tail (λ x. f x ≡ g x) x xs h) in
    cc
