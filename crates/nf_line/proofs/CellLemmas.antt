-- The cell of a key.
use Rattle.std.proofs.Common.{◌≡◌, ℕ, zero, suc, ◌+◌, ◌<◌, arith, length, get_or, take, slice_get, List, [], ◌∷◌, ◌++◌, map, reverse, refl, sym, ap, ◌∙◌, Option, Some, option_map, bytes_eq}
use Rattle.std.specs.Map.{lookup}
use Rattle.std.proofs.lemmas.Map.Made.{lookup-map_values}
use Rattle.std.proofs.lemmas.List.{map-append, map_more}
use Rattle.std.proofs.lemmas.Grind.{reverse_onto}
use Rattle.nf_core.specs.declared.values.Value as value
use Rattle.nf_text.specs.Value.{spelling_of}
use Rattle.nf_line.specs.Line.{spelled, value_of}
use Rattle.nf_line.specs.Rows.{row_of}

map-reverse : {A B : Type 0} (f : A → B) (xs : List A) → map f (reverse xs) ≡ reverse (map f xs)
map-reverse f [] = refl
map-reverse f (x ∷ xs) =
    ap (map f) (reverse_onto xs x []) ∙ map-append f (reverse xs) (x ∷ [])
    ∙ ap (λ ys. ys ++ f x ∷ []) (map-reverse f xs) ∙ sym (reverse_onto (map f xs) (f x) [])

-- the value of the last pair with a key is the value that its text spells
pub cell_of : (key : List ℕ) (texts : List (List ℕ × List ℕ)) → lookup (bytes_eq key) (reverse (map spelled texts)) ≡ option_map (λ text. value_of (spelling_of text)) (lookup (bytes_eq key) (reverse texts))
cell_of key texts = ap (lookup (bytes_eq key)) (sym (map-reverse spelled texts)) ∙ lookup-map_values (λ text. value_of (spelling_of text)) (bytes_eq key) (reverse texts)

got : {A : Type 0} (xs : List A) (place : ℕ) (x : A) → slice_get xs place ≡ Some x → (place < length xs) × (get_or xs place x ≡ x)
got [] place x e = absurd cc
got (y ∷ xs) zero x e = (omega arith, cc)
got (y ∷ xs) (suc place) x e = let later = got xs place x e in (omega (arith, later.0), later.1)

-- a row with the cell of one key more
pub row_more : (keys : List (List ℕ)) (place : ℕ) (pairs : List (List ℕ × value.Value)) (key : List ℕ) (row : List (Option value.Value)) (cell : Option value.Value) → slice_get keys place ≡ Some key
    → row ≡ row_of (take place keys) pairs → cell ≡ lookup (bytes_eq key) (reverse pairs) → row ++ cell ∷ [] ≡ row_of (take (place + 1) keys) pairs
row_more keys place pairs key row cell at so_far is =
    let key_at = got keys place key at in
    (λ i. so_far i ++ (is ∙ ap (λ k. lookup (bytes_eq k) (reverse pairs)) (sym key_at.1)) i ∷ [])
    ∙ sym (map_more (λ k. lookup (bytes_eq k) (reverse pairs)) keys place key key_at.0)
