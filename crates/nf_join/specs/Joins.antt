-- An inclusive rule with the counts of its results.
use Rattle.std.specs.Prelude.{◌≡◌, List, ⊤}
use Rattle.nf_core.specs.Intervals.{Interval}
use Rattle.nf_core.specs.declared.terms.Link.{Link}
use Rattle.nf_core.specs.declared.terms.Link.TheVariants.{One, Pair, Unless}
use Rattle.nf_core.specs.declared.terms.PlanRule.{PlanRule}
use Rattle.nf_model.specs.Members.{IsPlanned}
use Rattle.nf_model.specs.Results.{results}
use Rattle.nf_tally.specs.Numbers.{Numbers, number, often}

-- a rule, and a count of each interval
pub record Join : Type 0 where
  pub rule : PlanRule
  pub counts : Numbers

-- whether a link isn't that of an exclusive rule
abbrev pub IsInclusive : Link → Type 0
IsInclusive One = ⊤
IsInclusive (Pair op n) = ⊤
IsInclusive (Unless xop n) = ⊥

-- what holds of the rule of a join: it is one of some plan, and not an exclusive one
pub record IsJoinRule (rule : PlanRule) : Type 0 where
  pub planned : IsPlanned rule
  pub inclusive : IsInclusive rule.link

-- a join's count of each interval is how often the rule's results over two lists have it
abbrev pub StandsFor : Join → List Interval → List Interval → Type 0
StandsFor join firsts seconds = (q : Interval) → number join.counts q ≡ often (results join.rule firsts seconds) q
