-- What pairs make, and what it costs.
use Rattle.std.specs.Prelude.{◌≡◌, ℕ, ◌++◌, true, ◌&&◌, cond, List, Option, None, Some, option_to_list, sum_by, if◌then◌else◌}
use Rattle.nf_core.specs.Intervals.{Interval}
use Rattle.nf_core.specs.Sets.{has}
use Rattle.nf_core.specs.declared.intervals.Delta.{Delta}
use Rattle.nf_core.specs.declared.terms.PlanRule.{PlanRule}
use Rattle.nf_index.specs.declared.relations.Which.{Which}
use Rattle.nf_index.specs.declared.relations.Which.TheVariants.{First, Second}
use Rattle.nf_model.specs.Members.{HavePlaces, clause_terms}
use Rattle.nf_model.specs.Results.{is_met, built_from}
use Rattle.nf_model.specs.Work.{clauses}
use Rattle.nf_pairs.specs.Partners.{is_related, paired}
use Rattle.nf_pairs.specs.inner.Walks.{unskipped}
use Rattle.nf_tally.specs.Numbers.{often}

-- what a rule makes of a pair
unfoldable pub made : PlanRule → Interval → Interval → Option Interval
made rule i j = if is_related rule.link i j && is_met rule i (Some j) then built_from rule i (Some j) else None

-- how often a pair makes an interval: once or not
abbrev pub makes : PlanRule → Interval → Interval → Interval → ℕ
makes rule q i j = often (option_to_list (made rule i j)) q

-- how many clauses are evaluated for a pair at most
abbrev pub costs : PlanRule → Interval → Interval → ℕ
costs rule i j = cond (is_related rule.link i j) (clauses rule) 0

-- the weights of the pairs of an interval with the stored ones, but those to skip
abbrev pub stored_sum : Which → (Interval → Interval → ℕ) → (skip store : List Interval) → (one : Interval) → ℕ
stored_sum which weight skip store one = sum_by (unskipped skip (paired which weight one)) store

-- the rows of a pair of an interval and a stored one have every place that the rule's clauses read
abbrev pub HavePairPlaces : PlanRule → Which → (one stored : Interval) → Type 0
HavePairPlaces rule First one stored = HavePlaces (clause_terms rule) stored (Some one)
HavePairPlaces rule Second one stored = HavePlaces (clause_terms rule) one (Some stored)

-- the rows of each pair that two lists have now, or had before a delta of each, have every place that the rule's clauses read
abbrev pub ArePairsWithPlaces : PlanRule → (firsts seconds : List Interval) → (d1 d2 : Delta) → Type 0
ArePairsWithPlaces rule firsts seconds d1 d2 = (i j : Interval) → has (firsts ++ d1.gone) i ≡ true → has (seconds ++ d2.gone) j ≡ true → HavePlaces (clause_terms rule) i (Some j)
