-- What `check` prints: the selected rules in canonical form, by the level of the head.
use Rattle.std.specs.Prelude.{ℕ, suc, ◌==◌, List, filter, flat_map, map, unwrap_or}
use Rattle.std.specs.List.{range_with_len}
use Rattle.nf_core.specs.Plan.{greatest}
use Rattle.nf_core.specs.Trees.{Rule}
use Rattle.nf_core.specs.Written.{Levels, level_of_name}
use Rattle.nf_print.specs.Canonical.{canonical}

-- the level of a rule's head
abbrev pub head_level : Levels → Rule → ℕ
head_level levels rule = unwrap_or (level_of_name levels rule.head) 0

-- the rules whose heads have this level, in the order in which they stand
abbrev pub rules_at : Levels → List Rule → ℕ → List Rule
rules_at levels rules level = filter (λ (rule : Rule). head_level levels rule == level) rules

-- rules by the level of their heads: those of level 0, then those of level 1, and so on up to the greatest level
abbrev pub by_level : Levels → List Rule → List Rule
by_level levels rules =
    flat_map (rules_at levels rules)
    (range_with_len 0 (suc (greatest (map (head_level levels) rules))))

-- the canonical lines of rules by level
unfoldable pub listing : Levels → List Rule → List ℕ
listing levels rules = flat_map canonical (by_level levels rules)
