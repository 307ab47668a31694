use Rattle.std.proofs.Common.{◌==◌, ◌+◌, take}
use Rattle.nf_core.specs.Plan.{IsRuleOf}
use Rattle.nf_core.specs.declared.terms.PlanRule.{PlanRule}
use Rattle.nf_model.specs.Pools.{of_name, results_over}
use Rattle.nf_model.proofs.ListLemmas.{items_more, filtered_more, All-at}
use Rattle.nf_model.proofs.Public.PlaceLemmas.{read_of}
use Rattle.nf_model.proofs.evaluation.candidates.Goals as goal

pub loop-rule-preserved : goal.loop-rule-preserved
loop-rule-preserved g c =
    let rules = c.args.plan.now.rules in
    filtered_more (results_over (of_name c.args.pools.now)) (λ (rule : PlanRule). rule.head == c.args.name) (of_name c.args.inputs.now c.args.name)
    c.loop-rule.out c.push_results_of.new.out (take c.loop-rule.rule rules) (take (c.loop-rule.rule + 1) rules) c.rule.result.now
    (items_more rules c.loop-rule.rule c.rule.result.now c.rule.ensures) c.loop-rule.invariant c.in_ok-push_results_of.ensures

pub push_results_of-requires-clause-planned : goal.push_results_of-requires-clause-planned
push_results_of-requires-clause-planned g c =
    let valid = c.rules-rule-end.ensures.valid in
    record { plan = c.args.plan.now; valid = valid; of_plan = All-at (IsRuleOf c.args.plan.now) c.args.plan.now.rules c.loop-rule.rule c.rule.result.now valid.rules c.rule.ensures }

pub push_results_of-requires-clause-places : goal.push_results_of-requires-clause-places
push_results_of-requires-clause-places g c =
    let valid = c.rules-rule-end.ensures.valid in
    read_of c.args.plan.now c.rule.result.now (All-at (IsRuleOf c.args.plan.now) c.args.plan.now.rules c.loop-rule.rule c.rule.result.now valid.rules c.rule.ensures)
    c.args.pools.now c.requires.rows
