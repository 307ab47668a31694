use Rattle.nf_order.specs.inner.Reach.{IsReach, to_see}
use Rattle.nf_order.proofs.cycles.is_on_cycle.Given as goal

-- the state of the search
abbrev pub invariant-loop-next : goal.invariant-loop-next
invariant-loop-next l = IsReach l.graph l.off l.number l.seen.items l.stack.items

abbrev pub decreases-loop-next : goal.decreases-loop-next
decreases-loop-next l = to_see l.seen.items l.stack.items
