use Rattle.std.proofs.Common.{◌≡◌, [], replicate}
use Rattle.nf_order.proofs.graph.no_numbers.Given as goal

-- a list for each name so far
abbrev pub invariant-loop : goal.invariant-loop
invariant-loop l = l.below.items ≡ replicate l.counter []
