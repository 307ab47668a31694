use Rattle.std.proofs.Common.{take, All}
use Rattle.nf_core.specs.Trees.{Rule}
use Rattle.nf_order.specs.Dependence.{DependsOn}
use Rattle.nf_order.proofs.order.first_cycle.Given as goal

-- no head so far depends on itself
abbrev pub invariant-loop-rule : goal.invariant-loop-rule
invariant-loop-rule l = All (λ (rule : Rule). ¬ DependsOn l.rules rule.head rule.head) (take l.rule-index l.rule-items)
