use Rattle.std.proofs.Common.{◌≡◌, take, map}
use Rattle.nf_order.specs.inner.Marks.{level_in}
use Rattle.nf_order.proofs.order.levels_in.Given as goal

-- the levels of the numbers so far
abbrev pub invariant-loop-mark : goal.invariant-loop-mark
invariant-loop-mark l = l.levels.items ≡ map level_in (take l.mark-index l.marks)
