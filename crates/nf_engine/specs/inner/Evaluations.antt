-- One rule's evaluation within a step.
use Rattle.std.specs.Prelude.{◌≡◌, ℕ, true, List, length, slice_get, slice_set, Some}
use Rattle.nf_core.specs.Sets.{once}
use Rattle.nf_core.specs.Plan.{Plan}
use Rattle.nf_core.specs.declared.intervals.Delta.{Delta}
use Rattle.nf_core.specs.declared.terms.PlanRule.{PlanRule}
use Rattle.nf_minimal.specs.Minimals.{Minimal}
use Rattle.nf_model.specs.Pools.{results_over}
use Rattle.nf_model.specs.Changes.{delta_of}
use Rattle.nf_engine.specs.declared.parts.RulePart.{RulePart}
use Rattle.nf_engine.specs.declared.rounds.Round.{Round}
use Rattle.nf_engine.specs.inner.Deltas.{NamedDeltas, delta_at}
use Rattle.nf_engine.specs.inner.Parts.{rule_of, StandsFor, second_number, IsPartOf}
use Rattle.nf_engine.specs.inner.Rounds.{Passage, old_pools, new_pools, held_in, part_at, reads}

-- the names that a rule reads hold their new pools, with the deltas that led to them
pub record ReadsNew (plan : Plan) (passage : Passage) (rule : PlanRule) (names : List Minimal) (changed : NamedDeltas) : Type 0 where
  pub each_name : length names ≡ length plan.names
  pub deltas : (m : ℕ) → reads rule m ≡ true → delta_at changed m ≡ delta_of (old_pools plan passage m) (held_in names m)
  pub held : (m : ℕ) → reads rule m ≡ true → held_in names m ≡ new_pools plan passage m

-- a rule can be evaluated: its part knows what was before the step
pub record CanFollow (plan : Plan) (passage : Passage) (k : ℕ) (part : RulePart) (names : List Minimal) (changed : NamedDeltas) : Type 0 where
  pub rule : PlanRule
  pub at : slice_get plan.rules k ≡ Some rule
  pub own : rule_of part ≡ rule
  pub knows : StandsFor part (old_pools plan passage rule.first) (old_pools plan passage (second_number rule.first rule.link))
  pub read : ReadsNew plan passage rule names changed

-- it was: its part knows what is held, and the delta leads from its results before to those now
pub record HasFollowed (plan : Plan) (passage : Passage) (k : ℕ) (names : List Minimal) (part : RulePart) (delta : Delta) : Type 0 where
  pub knows : (rule : PlanRule) → slice_get plan.rules k ≡ Some rule → IsPartOf rule (held_in names) (Some part)
  pub leads : (rule : PlanRule) → slice_get plan.rules k ≡ Some rule
      → delta ≡ delta_of (once (results_over (old_pools plan passage) rule)) (once (results_over (held_in names) rule))

-- the same of a rule in a step
pub record IsReady (plan : Plan) (passage : Passage) (k : ℕ) (round : Round) : Type 0 where
  pub rule : PlanRule
  pub at : slice_get plan.rules k ≡ Some rule
  pub each_rule : length round.rules.items ≡ length plan.rules
  pub part : IsPartOf rule (old_pools plan passage) (part_at round.rules.items k)
  pub read : ReadsNew plan passage rule round.names.items round.changed

-- and nothing else changed
pub record IsEvaluated (plan : Plan) (passage : Passage) (k : ℕ) (delta : Delta) (old new : Round) : Type 0 where
  pub names : new.names.items ≡ old.names.items
  pub changed : new.changed ≡ old.changed
  pub queue : new.queue ≡ old.queue
  pub part : RulePart
  pub rules : new.rules.items ≡ slice_set old.rules.items k (Some part)
  pub followed : HasFollowed plan passage k old.names.items part delta
