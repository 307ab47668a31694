-- What is kept of a rule between two steps.
use Rattle.std.specs.Prelude.{◌≡◌, ℕ, List, Option, None, Some}
use Rattle.nf_core.specs.Intervals.{Interval}
use Rattle.nf_core.specs.declared.terms.Link.{Link}
use Rattle.nf_core.specs.declared.terms.Link.TheVariants.{One, Pair, Unless}
use Rattle.nf_core.specs.declared.terms.PlanRule.{PlanRule}
use Rattle.nf_model.specs.Levels.{Pools}
use Rattle.nf_join.specs.Joins as joins
use Rattle.nf_exclude.specs.Exclusions as exclusions
use Rattle.nf_engine.specs.declared.parts.RulePart.{RulePart}
use Rattle.nf_engine.specs.declared.parts.RulePart.TheVariants.{Join, Exclude}

-- the rule of a part
abbrev pub rule_of : RulePart → PlanRule
rule_of (Join join) = join.rule
rule_of (Exclude exclude) = exclude.rule

-- a part knows the results of its rule over two lists
abbrev pub StandsFor : RulePart → List Interval → List Interval → Type 0
StandsFor (Join join) firsts seconds = joins.StandsFor join firsts seconds
StandsFor (Exclude exclude) firsts seconds = exclusions.StandsFor exclude firsts seconds

-- the number of the second name that is read, which is the first one's where a rule has one atom
abbrev pub second_number : ℕ → Link → ℕ
second_number first One = first
second_number first (Pair op n) = n
second_number first (Unless xop n) = n

-- a part is there, it is that of a rule, and it knows the rule's results where the names have these pools
abbrev pub IsPartOf : PlanRule → Pools → Option RulePart → Type 0
IsPartOf rule pools None = ⊥
IsPartOf rule pools (Some part) = (rule_of part ≡ rule) × StandsFor part (pools rule.first) (pools (second_number rule.first rule.link))
