-- Candidates and pools: the meaning of the rules over whole inputs.
use Rattle.std.specs.Prelude.{ℕ, Bool, not, ◌||◌, List, [], ◌++◌, filter, flat_map, slice_index_or, if◌then◌else◌}
use Rattle.std.specs.List.{list_any}
use Rattle.nf_core.specs.Intervals.{Interval, is_strictly_inside}
use Rattle.nf_core.specs.Sets.{once}
use Rattle.nf_core.specs.Plan.{Plan, rules_of, is_wide}
use Rattle.nf_core.specs.declared.terms.Link.{Link}
use Rattle.nf_core.specs.declared.terms.Link.TheVariants.{One, Pair, Unless}
use Rattle.nf_core.specs.declared.terms.PlanRule.{PlanRule}
use Rattle.nf_model.specs.Levels.{Pools, Step, by_levels}
use Rattle.nf_model.specs.Results.{results}

-- for each name the intervals that were entered, ascending, each once
abbrev pub Inputs : Type 0
Inputs = List (List Interval)

-- the intervals of a name
abbrev pub of_name : Inputs → Pools
of_name lists n = slice_index_or lists n []

-- whether no member of a list lies strictly inside an interval
abbrev pub is_minimal : List Interval → Interval → Bool
is_minimal members i = not (list_any (λ j. is_strictly_inside j i) members)

-- the members that have no other member strictly inside them
abbrev pub minimal : List Interval → List Interval
minimal members = filter (is_minimal members) members

-- whether all candidates of a name are held: under full, and where the name is wide
abbrev pub holds_all : Plan → Bool → ℕ → Bool
holds_all plan full n = full || is_wide plan n

-- the held ones of some candidates, each once: the minimal ones, or all of them where all are held
abbrev pub judged : Bool → List Interval → List Interval
judged all members = if all then once members else once (minimal members)

-- the intervals of a link's second name
abbrev pub second_of : Pools → Link → List Interval
second_of pool One = []
second_of pool (Pair op n) = pool n
second_of pool (Unless xop n) = pool n

-- the results of a rule, where the pools of names are these
abbrev pub results_over : Pools → PlanRule → List Interval
results_over pool rule = results rule (pool rule.first) (second_of pool rule.link)

-- the inputs of a name, followed by the results of each of its rules in order, where the pools of other names are these
abbrev pub candidates_over : Plan → Inputs → Step
candidates_over plan inputs pool n = of_name inputs n ++ flat_map (results_over pool) (rules_of plan n)

-- the held candidates of a name, where the pools of other names are these
abbrev pub held_over : Plan → Bool → Inputs → Step
held_over plan full inputs pool n = judged (holds_all plan full n) (candidates_over plan inputs pool n)

-- the pool of a name: its held candidates, over the pools of the names below
abbrev pub pool : Plan → Bool → Inputs → Pools
pool plan full inputs = by_levels plan (held_over plan full inputs)

-- the candidates of a name
abbrev pub candidates : Plan → Bool → Inputs → Pools
candidates plan full inputs n = candidates_over plan inputs (pool plan full inputs) n
