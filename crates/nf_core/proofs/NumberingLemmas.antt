-- The steps of the loops that number names, levels and rules.
use Rattle.std.proofs.Common.{◌≡◌, ℕ, zero, suc, ◌+◌, ◌<◌, List, [], ◌∷◌, ◌++◌, length, get_or, take, map, slice_get, Some, All, Contains, sym, ap, subst, ◌∙◌}
use Rattle.std.specs.List.{AllByRecursion}
use Rattle.std.proofs.lemmas.List.{take_more, map_more}
use Rattle.std.proofs.lemmas.List.Elements.{All-push}
use Rattle.nf_core.specs.Written.{names_in, names_of}
use Rattle.nf_core.specs.declared.trees.Rule.{Rule}
use Rattle.nf_core.proofs.Public.NameLemmas.{known_names}

-- an item that is there is the item at that place
pub get_or-slice_get : {A : Type 0} (xs : List A) (i : ℕ) (x d : A) → slice_get xs i ≡ Some x → get_or xs i d ≡ x
get_or-slice_get [] i x d e = cc
get_or-slice_get (y ∷ xs) zero x d e = cc
get_or-slice_get (y ∷ xs) (suc i) x d e = get_or-slice_get xs i x d e

-- what is made of each item so far, and of one more
pub mapped_more : {A B : Type 0} (f : A → B) (xs : List A) (i : ℕ) (ys : List B) (x : A) (y : B) → i < length xs → get_or xs i x ≡ x → ys ≡ map f (take i xs) → y ≡ f x → ys ++ y ∷ [] ≡ map f (take (i + 1) xs)
mapped_more f xs i ys x y h at so_far is = (λ j. so_far j ++ (is ∙ sym (ap f at)) j ∷ []) ∙ sym (map_more f xs i x h)

-- the names of a rule that a loop has come to are among those of all
pub known_item : (names : List (List ℕ)) (rules items : List Rule) (rule : Rule) (i : ℕ) → names ≡ names_of rules → items ≡ rules → i < length items → rule ≡ get_or items i rule → AllByRecursion (Contains names) (names_in rule)
known_item names rules items rule i named same h is =
    subst (λ ns. AllByRecursion (Contains ns) (names_in rule)) (sym named) (known_names rules rule (subst (λ rs. Contains rs rule) same (i, h, sym is)))

-- what holds of the items so far, and of one more
pub all_more : {A : Type 0} (P : A → Type 0) (xs : List A) (i : ℕ) (x : A) → i < length xs → x ≡ get_or xs i x → All P (take i xs) → P x → All P (take (i + 1) xs)
all_more P xs i x h at so_far holds = subst (All P) (sym (take_more xs i x h ∙ ap (λ y. take i xs ++ y ∷ []) (sym at))) (All-push P (take i xs) x so_far holds)
