-- How many expressions may be evaluated: by a rule for one result, and by a step that changes pools.
use Rattle.std.specs.Prelude.{ℕ, ◌+◌, ◌*◌, Bool, not, ◌&&◌, ◌==◌, List, map, filter, flat_map, length, sum_by, count_by, Option, None, Some}
use Rattle.std.specs.List.{list_any}
use Rattle.std.specs.Option.{option_eq}
use Rattle.nf_core.specs.Intervals.{Interval, same}
use Rattle.nf_core.specs.Plan.{Plan}
use Rattle.nf_core.specs.Relations.{holds}
use Rattle.nf_core.specs.declared.terms.Term.{Term}
use Rattle.nf_core.specs.declared.terms.Link.{Link}
use Rattle.nf_core.specs.declared.terms.Link.TheVariants.{One, Pair, Unless}
use Rattle.nf_core.specs.declared.terms.PlanRule.{PlanRule}
use Rattle.nf_model.specs.Changes.{Content, lacking}
use Rattle.nf_model.specs.Levels.{Pools}
use Rattle.nf_model.specs.Pools.{Inputs, pool, second_of}
use Rattle.nf_model.specs.Results.{faces}

-- 1 where a clause is there, else 0
abbrev pub present : Option Term → ℕ
present None = 0
present (Some term) = 1

-- the clauses that make a result: 1 for each entry of the map, 1 for `begin` and 1 for `end`, where they are there
abbrev pub values : PlanRule → ℕ
values rule = length rule.entries + present rule.start + present rule.stop

-- all clauses: these, and 1 for `where`, where it is there
abbrev pub clauses : PlanRule → ℕ
clauses rule = present rule.filter + values rule

-- the two lists of a rule: the intervals of its first name, and those of its second one, none where it has one atom; each ascending, each once
pub record Sides : Type 0 where
  pub firsts : List Interval
  pub seconds : List Interval

-- what the clauses of a rule are evaluated over: an interval of its first name, and one of its second name where it has two atoms
pub record Pairing : Type 0 where
  pub first : Interval
  pub second : Option Interval

-- an interval with each of some second ones
abbrev pub pairs_of : Interval → List Interval → List Pairing
pairs_of i seconds = map (λ j. record { first = i; second = Some j }) seconds

-- the pairs of a first interval and a second one that pass a test
abbrev pub pairs_where : (Interval → Interval → Bool) → Sides → List Pairing
pairs_where test sides = flat_map (λ i. pairs_of i (filter (test i) sides.seconds)) sides.firsts

-- the pairs by a link: with one atom each first interval alone; of an inclusive rule each first and second interval of which the operator's condition holds, whatever `where` is; of an exclusive rule each first interval and second one that faces it, so not that interval itself
abbrev pub pairs_by : PlanRule → Link → Sides → List Pairing
pairs_by rule One sides = map (λ i. record { first = i; second = None }) sides.firsts
pairs_by rule (Pair op n) sides = pairs_where (λ i j. holds i.start i.stop j.start j.stop op) sides
pairs_by rule (Unless xop n) sides = pairs_where (faces xop (rule.first == n)) sides

-- the pairs of a rule
abbrev pub pairs : PlanRule → Sides → List Pairing
pairs rule sides = pairs_by rule rule.link sides

-- whether a pair is among some: one of them has the same first interval, and the same second one or none either
abbrev pub is_among : List Pairing → Pairing → Bool
is_among others p = list_any (λ q. same p.first q.first && option_eq same p.second q.second) others

-- how many pairs of one list another one lacks
abbrev pub pairs_lost : (pairs others : List Pairing) → ℕ
pairs_lost pairs others = count_by (λ p. not (is_among others p)) pairs

-- how many pairs are touched: they are in exactly one of two lists, of which each has each once
abbrev pub touched : (before now : List Pairing) → ℕ
touched before now = pairs_lost before now + pairs_lost now before

-- how many intervals are in exactly one of two lists, of which each has each once
abbrev pub differing : (before now : List Interval) → ℕ
differing before now = length (lacking before now) + length (lacking now before)

-- the first intervals whose result a step makes anew, or takes away, whatever faces them: of an exclusive rule those that are in exactly one of its two lists of first intervals; a rule of another kind has its results by its pairs alone
abbrev pub made_anew : Link → (before now : Sides) → ℕ
made_anew One before now = 0
made_anew (Pair op n) before now = 0
made_anew (Unless xop n) before now = differing before.firsts now.firsts

-- the work of a rule, where a step changes its lists: its touched pairs times all its clauses, and what is made anew times the clauses that make a result
unfoldable pub rule_work : PlanRule → (before now : Sides) → ℕ
rule_work rule before now =
    touched (pairs rule before) (pairs rule now) * clauses rule
    + made_anew rule.link before now * values rule

-- the lists of a rule, where the names have these pools
abbrev pub sides_of : Pools → PlanRule → Sides
sides_of pools rule = record { firsts = pools rule.first; seconds = second_of pools rule.link }

-- the work of all rules of a plan, where a step changes the pools of names
abbrev pub work_by : Plan → (before now : Pools) → ℕ
work_by plan before now =
    sum_by (λ rule. rule_work rule (sides_of before rule) (sides_of now rule)) plan.rules

-- the work of all rules of a plan from some inputs to others: that of the step from the pools under the ones to those under the others
unfoldable pub work : Plan → (full : Bool) → (before now : Inputs) → ℕ
work plan full before now = work_by plan (pool plan full before) (pool plan full now)

-- the work from one content to another one of the same plan
abbrev pub work_between : (before now : Content) → ℕ
work_between before now = work before.plan before.full before.inputs now.inputs
