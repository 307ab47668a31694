use Rattle.std.proofs.Common.{◌≡◌, ◌++◌, length}
use Rattle.nf_tally.proofs.few.push_all.Given as goal

-- what is left of the set stands behind what was moved
abbrev pub invariant-loop-interval : goal.invariant-loop-interval
invariant-loop-interval l = l.list ++ l.set ≡ l.fn.list ++ l.fn.set

abbrev pub decreases-loop-interval : goal.decreases-loop-interval
decreases-loop-interval l = length l.set
