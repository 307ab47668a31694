use Rattle.std.proofs.Common.{◌≡◌, ◌++◌, length}
use Rattle.std.specs.Slice.Iter.{iter_rest}
use Rattle.nf_blocks.specs.inner.Flat.{flat}
use Rattle.nf_blocks.proofs.walk.WalkDoubleEndedIterator.next_back.Given as goal

-- what is left stays the same
abbrev pub invariant-loop-item : goal.invariant-loop-item
invariant-loop-item g l = l.fn.self ≡ iter_rest l.self-inside.front ++ (flat (iter_rest l.self-inside.blocks) ++ iter_rest l.self-inside.back)

abbrev pub decreases-loop-item : goal.decreases-loop-item
decreases-loop-item g l = length (iter_rest l.self-inside.blocks)
