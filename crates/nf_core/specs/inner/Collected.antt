-- Keys while they are collected from rules: for each of some names, its keys so far.
use Rattle.std.specs.Prelude.{◌≡◌, ℕ, List, ◌++◌, map, fold}
use Rattle.std.specs.BTreeSet.{insert_key}
use Rattle.nf_core.specs.Texts.{text_cmp}
use Rattle.nf_core.specs.Written.{ascending}

-- ascending texts with more texts, each at its place
abbrev pub put_in : List (List ℕ) → List (List ℕ) → List (List ℕ)
put_in all texts = fold (insert_key text_cmp) all texts

-- each name is given more keys: where its keys were some texts, ascending, they are now these and the given ones
abbrev pub AreGiven : List (List ℕ) → (List ℕ → List (List ℕ)) → List (List (List ℕ)) → List (List (List ℕ)) → Type 0
AreGiven names given old new =
    (texts : List ℕ → List (List ℕ)) → old ≡ map (λ name. ascending (texts name)) names → new ≡ map (λ name. ascending (texts name ++ given name)) names
