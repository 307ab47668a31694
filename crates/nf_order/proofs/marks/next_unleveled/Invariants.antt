use Rattle.std.proofs.Common.{◌≤◌, ◌-◌, length, take, All}
use Rattle.nf_order.specs.inner.Marks.{HasLevel}
use Rattle.nf_order.proofs.marks.next_unleveled.Given as goal

-- the names so far have their levels
abbrev pub invariant-loop-place : goal.invariant-loop-place
invariant-loop-place l = record { within : l.place ≤ length l.below; leveled : All (HasLevel l.marks) (take l.place l.below) }

abbrev pub decreases-loop-place : goal.decreases-loop-place
decreases-loop-place l = length l.below - l.place
