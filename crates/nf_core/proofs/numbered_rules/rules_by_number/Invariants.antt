use Rattle.std.proofs.Common.{◌≡◌, map, take, All}
use Rattle.nf_core.specs.Trees.{IsRule}
use Rattle.nf_core.specs.Written.{plan_rule}
use Rattle.nf_core.proofs.numbered_rules.rules_by_number.Given as goal

-- the rules so far, and that each is within the limits
abbrev pub invariant-loop-rule : goal.invariant-loop-rule
invariant-loop-rule l = record { list : l.list ≡ map (plan_rule l.rules) (take l.rule-index l.rule-items); limits : All IsRule (take l.rule-index l.rule-items) }
