-- What holds of rules holds of them by level, and what is made of rules by level is their listing.
use Rattle.std.proofs.Common.{◌≡◌, List, map, flat_map, All, sym, ap, subst, ◌∙◌, suc, arith}
use Rattle.std.specs.List.{range_with_len}
use Rattle.std.proofs.lemmas.List.{get_or-map, length-map}
use Rattle.std.proofs.lemmas.List.Elements.{All-filter}
use Rattle.std.proofs.lemmas.List.Folds.{flat_map-map}
use Rattle.nf_core.specs.Plan.{greatest}
use Rattle.nf_core.specs.Trees.{Rule}
use Rattle.nf_core.specs.Written.{Levels}
use Rattle.nf_print.specs.Canonical.{canonical}
use Rattle.nfer_cli.specs.Listing.{head_level, by_level, rules_at, listing}
use Rattle.nf_lemmas.proofs.ListLemmas.{All-flat_map}

-- what holds of each value that items show holds of what each item shows
All-shown : {X Y : Type 0} (P : Y → Type 0) (v : X → Y) (xs : List X) → All P (map v xs) → All (λ x. P (v x)) xs
All-shown P v xs h = λ k d l. subst P (get_or-map v xs k d (v d) l) (h k (v d) (omega (arith, l, length-map xs v)))

-- items that show rules by level show what holds of all the rules
pub All-by_level : {X : Type 0} (P : Rule → Type 0) (v : X → Rule) (levels : Levels) (rules : List Rule) (ordered : List X) → map v ordered ≡ by_level levels rules → All P rules → All (λ x. P (v x)) ordered
All-by_level P v levels rules ordered is h =
    let range = range_with_len 0 (suc (greatest (map (head_level levels) rules))) in
    All-shown P v ordered (subst (All P) (sym is) (All-flat_map P (rules_at levels rules) range (λ k d l. All-filter _ P rules h)))

-- their canonical lines are the listing
pub listing_from : {X : Type 0} (v : X → Rule) (levels : Levels) (rules : List Rule) (ordered : List X) → map v ordered ≡ by_level levels rules → flat_map (λ x. canonical (v x)) ordered ≡ listing levels rules
unfolding listing
listing_from v levels rules ordered is = sym (flat_map-map canonical v ordered) ∙ ap (flat_map canonical) is
