use Rattle.std.proofs.Common.{◌≡◌, ℕ, ◌<◌, length, All}
use Rattle.nf_order.specs.inner.Graph.{IsAbove}
use Rattle.nf_order.proofs.graph.turned.Given as goal

-- the steps from the numbers so far are turned around
abbrev pub invariant-loop-number : goal.invariant-loop-number
invariant-loop-number l = record {
  each : length l.above.items ≡ length l.graph;
  within : All (All (λ m. m < length l.graph)) l.above.items;
  turned : (n m : ℕ) → n < l.number → IsAbove l.graph n m → IsAbove l.above.items m n;
}
