use Rattle.std.proofs.Common.{take}
use Rattle.nf_order.specs.inner.Graph.{ArePut}
use Rattle.nf_order.proofs.graph.put_below.Given as goal

-- the number stands below the others so far
abbrev pub invariant-loop-other : goal.invariant-loop-other
invariant-loop-other l = ArePut (take l.other-index l.others) l.number l.fn.lists.items l.lists.items
