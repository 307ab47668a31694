-- What a rule of a plan reads: its first rule is one of the plan, and members have what its result reads where they have what
-- each part of it reads.
use Rattle.std.proofs.Common.{◌≡◌, ◌++◌, map, Option, Some, option_to_list, All, IsTrue, slice_get, subst}
use Rattle.std.proofs.lemmas.List.Elements.{All-append, All-map}
use Rattle.std.proofs.lemmas.Option.{slice_get_within, get_or_from_slice_get}
use Rattle.nf_core.specs.Expressions.{reads_within, widths_of}
use Rattle.nf_core.specs.Intervals.{Interval}
use Rattle.nf_core.specs.Plan.{Plan, IsPlan, IsRuleOf}
use Rattle.nf_core.specs.declared.terms.Term.{Term}
use Rattle.nf_core.specs.declared.terms.PlanEntry.{PlanEntry}
use Rattle.nf_core.specs.declared.terms.PlanRule.{PlanRule}
use Rattle.nf_model.specs.Members.{HavePlaces, result_terms}

pub first_rule : (plan : Plan) (rule : PlanRule) → IsPlan plan → slice_get plan.rules 0 ≡ Some rule → IsRuleOf plan rule
first_rule plan rule valid is =
    subst (IsRuleOf plan) (get_or_from_slice_get plan.rules 0 rule rule is) (valid.rules 0 rule (slice_get_within plan.rules 0 rule is))

module _ (i : Interval) (second : Option Interval) where
  abbrev Reads : Term → Type 0
  Reads term = IsTrue (reads_within (widths_of i second) term)

  pub result_read : (rule : PlanRule) → All (λ (entry : PlanEntry). Reads entry.value) rule.entries → HavePlaces (option_to_list rule.start) i second → HavePlaces (option_to_list rule.stop) i second
      → HavePlaces (result_terms rule) i second
  result_read rule entries start stop =
      All-append Reads (map (λ (entry : PlanEntry). entry.value) rule.entries) (option_to_list rule.start ++ option_to_list rule.stop)
      (All-map Reads (λ (entry : PlanEntry). entry.value) rule.entries entries)
      (All-append Reads (option_to_list rule.start) (option_to_list rule.stop) start stop)
