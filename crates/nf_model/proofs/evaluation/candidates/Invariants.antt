use Rattle.std.proofs.Common.{◌≡◌, ◌==◌, ◌++◌, take, filter, flat_map}
use Rattle.nf_core.specs.declared.terms.PlanRule.{PlanRule}
use Rattle.nf_model.specs.Pools.{of_name, results_over}
use Rattle.nf_model.proofs.evaluation.candidates.Given as goal

-- the inputs, followed by the results of the rules so far
abbrev pub invariant-loop-rule : goal.invariant-loop-rule
invariant-loop-rule g l =
    l.out ≡ of_name l.inputs l.name ++ flat_map (results_over (of_name l.pools)) (filter (λ (rule : PlanRule). rule.head == l.name) (take l.rule l.plan.rules))
