use Rattle.std.proofs.Common.{◌≡◌, take}
use Rattle.nf_order.specs.inner.Marks.{level_over}
use Rattle.nf_order.proofs.marks.level_above.Given as goal

-- the level over the numbers so far
abbrev pub invariant-loop-number : goal.invariant-loop-number
invariant-loop-number l = l.level ≡ level_over l.marks (take l.number-index l.below)
