use Rattle.std.proofs.Common.{take}
use Rattle.nf_order.specs.inner.Reach.{AreSeen}
use Rattle.nf_order.proofs.cycles.see_all.Given as goal

-- the numbers so far are seen
abbrev pub invariant-loop-number : goal.invariant-loop-number
invariant-loop-number l = AreSeen l.numbers (take l.number-index l.numbers) l.fn.seen.items l.seen.items l.fn.stack.items l.stack.items
