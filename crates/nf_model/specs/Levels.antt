-- Recursion on the level: lists of intervals of the names, each made of those of names of lower levels.
use Rattle.std.specs.Prelude.{◌≡◌, ℕ, zero, suc, ◌<◌, List, [], length}
use Rattle.nf_core.specs.Intervals.{Interval}
use Rattle.nf_core.specs.Plan.{Plan, level_of}

-- a list of intervals for each name, by its number
abbrev pub Pools : Type 0
Pools = ℕ → List Interval

-- a step gives the list of each name, where the names have these lists
abbrev pub Step : Type 0
Step = Pools → Pools

-- m is a name of the plan, of a lower level than n
pub record IsBelow (plan : Plan) (n m : ℕ) : Type 0 where
  pub name : m < length plan.names
  pub level : level_of plan m < level_of plan n

-- a step reads lower levels alone: it gives a name of the plan the same list where the names below it have the same lists
abbrev pub ReadsBelow : Plan → Step → Type 0
ReadsBelow plan step = (P Q : Pools) (n : ℕ) → n < length plan.names
    → ((m : ℕ) → IsBelow plan n m → P m ≡ Q m) → step P n ≡ step Q n

-- the lists worked out through so many levels. By a step that reads lower levels alone they are those of each name below that level; nothing else reads the others
unfoldable pub through_levels : Step → ℕ → Pools
through_levels step zero n = []
through_levels step (suc level) n = step (through_levels step level) n

-- the list of each name: what is worked out through its level
abbrev pub by_levels : Plan → Step → Pools
by_levels plan step n = through_levels step (suc (level_of plan n)) n
