use Rattle.std.proofs.Common.{◌≡◌, take, map}
use Rattle.nf_order.specs.inner.Graph.{numbers_below}
use Rattle.nf_order.proofs.graph.numbers_by_name.Given as goal

-- the numbers below each name in the rules so far
abbrev pub invariant-loop-rule : goal.invariant-loop-rule
invariant-loop-rule l = l.below.items ≡ map (numbers_below l.names (take l.rule-index l.rule-items)) l.names
