-- Searches in a list whose items, or keys, are mapped.
use Rattle.std.proofs.Common.{◌≡◌, ◌≤◌, Bool, true, false, cond, List, [], ◌∷◌, length, map, position, unwrap_or, nat_lt, refl, ap, Some, None, ◌||◌, ◌+◌, not, rules, arith}
use Rattle.std.specs.List.{list_any, prefix_len, position_or_len, AllZip}
use Rattle.std.specs.Map.{lookup}
use Rattle.std.proofs.lemmas.List.{length-map, map_push}
use Rattle.std.proofs.lemmas.List.Sums.{prefix_len-le-length}
use Rattle.indexmap.specs.IndexSet.{insert_key}

-- two tests that agree pass the same lists
pub list_any_alike : {X : Type 0} (p q : X → Bool) → ((x : X) → p x ≡ q x) → (xs : List X) → list_any p xs ≡ list_any q xs
list_any_alike p q alike [] = refl
list_any_alike p q alike (x ∷ xs) = λ i. alike x i || list_any_alike p q alike xs i

module _ {X Y : Type 0} (f : X → Y) where
  pub list_any-map : (test : Y → Bool) (xs : List X) → list_any test (map f xs) ≡ list_any (λ x. test (f x)) xs
  list_any-map test [] = refl
  list_any-map test (x ∷ xs) = ap (λ b. test (f x) || b) (list_any-map test xs)

  prefix_len-map : (test : Y → Bool) (xs : List X) → prefix_len test (map f xs) ≡ prefix_len (λ x. test (f x)) xs
  prefix_len-map test [] = refl
  prefix_len-map test (x ∷ xs) = ap (λ n. cond (test (f x)) (1 + n) 0) (prefix_len-map test xs)

  pub position-map : (test : Y → Bool) (xs : List X) → position test (map f xs) ≡ position (λ x. test (f x)) xs
  position-map test xs = rw (prefix_len-map (λ y. not (test y)) xs, length-map xs f)

  -- a mapped set after `insert`, where `f` keeps which keys are equal
  pub insert_key-map : (same : X → X → Bool) (eq : Y → Y → Bool) → ((x y : X) → same x y ≡ eq (f x) (f y)) → (xs : List X) (x : X)
      → map f (insert_key same xs x) ≡ insert_key eq (map f xs) (f x)
  insert_key-map same eq alike xs x = by (list_any (same x) xs) refl
    where
      by : (b : Bool) → list_any (same x) xs ≡ b → map f (insert_key same xs x) ≡ insert_key eq (map f xs) (f x)
      by true e = rw (list_any-map (eq (f x)) xs, ← list_any_alike (same x) (λ y. eq (f x) (f y)) (alike x) xs, e)
      by false e = rw (list_any-map (eq (f x)) xs, ← list_any_alike (same x) (λ y. eq (f x) (f y)) (alike x) xs, e) (map_push f xs x)

  pub lookup-map_keys : {V : Type 0} (test : Y → Bool) (es : List (X × V)) → lookup test (map (λ (e : X × V). (f e.0, e.1)) es) ≡ lookup (λ x. test (f x)) es
  lookup-map_keys test [] = refl
  lookup-map_keys test (e ∷ es) = ap (λ r. cond (test (f e.0)) (Some e.1) r) (lookup-map_keys test es)

  -- copies by which `f` gives the same
  pub map-from_clones : (xs ys : List X) → AllZip (λ x y. f y ≡ f x) xs ys → map f ys ≡ map f xs
  map-from_clones [] [] h = refl
  map-from_clones [] (y ∷ ys) h = elim h [ ]
  map-from_clones (x ∷ xs) [] h = elim h [ ]
  map-from_clones (x ∷ xs) (y ∷ ys) h = λ i. h.0 i ∷ map-from_clones xs ys h.1 i

-- the place that a search finds, or the length where it finds none
pub position-or_len : {X : Type 0} (test : X → Bool) (xs : List X) → unwrap_or (position test xs) (length xs) ≡ position_or_len test xs
position-or_len test xs = by (nat_lt (position_or_len test xs) (length xs)) refl
  where
    by : (b : Bool) → nat_lt (position_or_len test xs) (length xs) ≡ b → unwrap_or (cond b (Some (position_or_len test xs)) None) (length xs) ≡ position_or_len test xs
    by true e = refl
    by false e =
        let most : position_or_len test xs ≤ length xs = prefix_len-le-length (λ x. not (test x)) xs in
        let least : length xs ≤ position_or_len test xs = search (rules, e) in
        omega (arith, most, least)
