-- What is read of the reached modules.
use Rattle.std.proofs.Common.{◌≡◌, ℕ, ◌+◌, Bool, true, false, cond, List, [], ◌∷◌, ◌++◌, length, take, drop, get_or, slice_get, flat_map, find, Option, Some, None, refl, sym, ap, ◌∙◌}
use Rattle.std.specs.List.{items_where_true}
use Rattle.std.specs.Option.{option_or}
use Rattle.std.proofs.lemmas.List.{append-nil}
use Rattle.std.proofs.lemmas.List.Folds.{find-append}
use Rattle.std.proofs.lemmas.Grind.{flat_map-append}
use Rattle.nf_core.specs.declared.trees.Module.{Module}
use Rattle.nf_modules.proofs.ListLemmas.{items_more, items_split}

-- what the reached modules have, so far and one more
pub read_more : {A : Type 0} (f : Module → List A) (bs : List Bool) (ms : List Module) (i : ℕ) (m : Module) → length bs ≡ length ms → slice_get ms i ≡ Some m
    → flat_map f (items_where_true (take (i + 1) bs) (take (i + 1) ms)) ≡ flat_map f (items_where_true (take i bs) (take i ms)) ++ cond (get_or bs i false) (f m) []
read_more f bs ms i m long at =
    ap (flat_map f) (items_more bs ms i m long at)
    ∙ flat_map-append f (items_where_true (take i bs) (take i ms)) (cond (get_or bs i false) (m ∷ []) [])
    ∙ ap (λ last. flat_map f (items_where_true (take i bs) (take i ms)) ++ last) (one (get_or bs i false))
  where
    one : (b : Bool) → flat_map f (cond b (m ∷ []) []) ≡ cond b (f m) []
    one true = append-nil (f m)
    one false = refl

-- of what the reached modules have, the first that passes, so far and at one more
found_at : {A : Type 0} (p : A → Bool) (f : Module → List A) (bs : List Bool) (ms : List Module) (i : ℕ) (m : Module) → length bs ≡ length ms → slice_get ms i ≡ Some m
    → find p (flat_map f (items_where_true (take i bs) (take i ms))) ≡ None
    → find p (flat_map f (items_where_true (take (i + 1) bs) (take (i + 1) ms))) ≡ find p (cond (get_or bs i false) (f m) [])
found_at p f bs ms i m long at none = ap (find p) (read_more f bs ms i m long at) ∙ find-append p (flat_map f (items_where_true (take i bs) (take i ms))) (cond (get_or bs i false) (f m) []) ∙ ap (λ o. option_or o (find p (cond (get_or bs i false) (f m) []))) none

-- what is found up to a place is found
pub found_before : {A : Type 0} (p : A → Bool) (f : Module → List A) (bs : List Bool) (ms : List Module) (k : ℕ) (x : A) → find p (flat_map f (items_where_true (take k bs) (take k ms))) ≡ Some x → find p (flat_map f (items_where_true bs ms)) ≡ Some x
found_before p f bs ms k x found =
    ap (λ items. find p (flat_map f items)) (items_split bs ms k)
    ∙ ap (find p) (flat_map-append f (items_where_true (take k bs) (take k ms)) (items_where_true (drop k bs) (drop k ms)))
    ∙ find-append p (flat_map f (items_where_true (take k bs) (take k ms))) (flat_map f (items_where_true (drop k bs) (drop k ms)))
    ∙ ap (λ o. option_or o (find p (flat_map f (items_where_true (drop k bs) (drop k ms))))) found

found_in : {A : Type 0} (p : A → Bool) (b : Bool) (xs : List A) → find p (cond b xs []) ≡ cond b (find p xs) None
found_in p true xs = refl
found_in p false xs = refl

-- the turn of the search for the first that passes, by what the reached modules have
pub turn : {A : Type 0} (p : A → Bool) (f : Module → List A) (bs : List Bool) (ms : List Module) (i : ℕ) (m : Module) (o : Option A) → length bs ≡ length ms → slice_get ms i ≡ Some m
    → find p (flat_map f (items_where_true (take i bs) (take i ms))) ≡ None → o ≡ cond (get_or bs i false) (find p (f m)) None
    → find p (flat_map f (items_where_true (take (i + 1) bs) (take (i + 1) ms))) ≡ o
turn p f bs ms i m o long at none is = found_at p f bs ms i m long at none ∙ found_in p (get_or bs i false) (f m) ∙ sym is
