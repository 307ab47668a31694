-- The steps by which names are put in by their width.
use Rattle.std.proofs.Common.{◌≡◌, ℕ, ◌+◌, ◌<◌, Bool, List, ◌++◌, length, get_or, take, filter, flat_map, fold, ap, ◌∙◌}
use Rattle.std.proofs.lemmas.List.Elements.{filter-append}
use Rattle.std.proofs.lemmas.List.Sums.{fold-append}
use Rattle.indexmap.specs.IndexSet.{insert_key}
use Rattle.nf_core.specs.Texts.{text_eq}
use Rattle.nf_core.specs.Written.{names_in}
use Rattle.nf_core.specs.inner.Widths.{has_width, with_names}
use Rattle.nf_core.specs.declared.trees.Rule.{Rule}
use Rattle.nf_core.proofs.CollectedKeyLemmas.{flat_map_more}

-- some names and then more are put in one after the other
pub names_then : (wide : Bool) (names first second : List (List ℕ)) → with_names wide names (first ++ second) ≡ with_names wide (with_names wide names first) second
names_then wide names first second =
    ap (fold (insert_key text_eq) names) (filter-append (has_width wide) first second) ∙ fold-append (insert_key text_eq) names (filter (has_width wide) first) (filter (has_width wide) second)

-- the names of the rules so far, and of one more
pub names_more : (wide : Bool) (names : List (List ℕ)) (rules : List Rule) (i : ℕ) (d : Rule) → i < length rules
    → with_names wide names (flat_map names_in (take (i + 1) rules)) ≡ with_names wide (with_names wide names (flat_map names_in (take i rules))) (names_in (get_or rules i d))
names_more wide names rules i d h = ap (with_names wide names) (flat_map_more names_in rules i d h) ∙ names_then wide names (flat_map names_in (take i rules)) (names_in (get_or rules i d))
