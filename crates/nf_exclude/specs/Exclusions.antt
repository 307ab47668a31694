-- What an exclusive rule's results stand on between two steps: how many blockers each interval has, and how often each result arises.
use Rattle.std.specs.Prelude.{◌≡◌, ℕ, Bool, false, ◌==◌, List, count_by, ⊤, if◌then◌else◌}
use Rattle.nf_core.specs.Intervals.{Interval}
use Rattle.nf_core.specs.Sets.{has}
use Rattle.nf_core.specs.declared.terms.Link.{Link}
use Rattle.nf_core.specs.declared.terms.Link.TheVariants.{One, Pair, Unless}
use Rattle.nf_core.specs.declared.terms.PlanRule.{PlanRule}
use Rattle.nf_model.specs.Members.{IsPlanned}
use Rattle.nf_model.specs.Results.{is_blocker, results}
use Rattle.nf_model.specs.Work.{Sides}
use Rattle.nf_tally.specs.Numbers.{Numbers, number, often}

-- the link of an exclusive rule
abbrev pub IsExclusive : Link → Type 0
IsExclusive One = ⊥
IsExclusive (Pair op n) = ⊥
IsExclusive (Unless xop n) = ⊤

-- a rule of some plan, and an exclusive one
pub record IsExclusiveRule (rule : PlanRule) : Type 0 where
  pub planned : IsPlanned rule
  pub exclusive : IsExclusive rule.link

-- whether j is a blocker of i by a link: by that of an exclusive rule it is one by its operator, and by another link there is none
abbrev pub blocks_by : PlanRule → Link → Interval → Interval → Bool
blocks_by rule One i j = false
blocks_by rule (Pair op n) i j = false
blocks_by rule (Unless xop n) i j = is_blocker rule xop (rule.first == n) i j

-- whether j is a blocker of i in a rule
unfoldable pub blocks_in : PlanRule → Interval → Interval → Bool
blocks_in rule i j = blocks_by rule rule.link i j

-- how many intervals of a list are blockers of i
abbrev pub blockers_among : PlanRule → List Interval → Interval → ℕ
blockers_among rule seconds i = count_by (blocks_in rule i) seconds

-- the two lists of a rule
abbrev pub sides : (firsts seconds : List Interval) → Sides
sides firsts seconds = record { firsts = firsts; seconds = seconds }

-- an exclusive rule, the number of blockers of each interval of its first name, and how often each interval is a result
pub record Exclude : Type 0 where
  pub rule : PlanRule
  pub blockers : Numbers
  pub counts : Numbers

-- an exclusion stands for two lists where it has for each first interval how many second ones block it, and for each interval how often it is among the rule's results over these lists
pub record StandsFor (e : Exclude) (firsts seconds : List Interval) : Type 0 where
  pub blockers : (q : Interval) → number e.blockers q ≡ (if has firsts q then blockers_among e.rule seconds q else 0)
  pub counts : (q : Interval) → number e.counts q ≡ often (results e.rule firsts seconds) q
