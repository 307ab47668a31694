use Rattle.std.proofs.Common.{◌≡◌, ◌⊎◌, ℕ, length}
use Rattle.nf_order.specs.inner.Marks.{HasLevel}
use Rattle.nf_order.specs.inner.Reach.{IsFlagged}
use Rattle.nf_order.proofs.order.leveled_in_either.Given as goal

-- the flags so far
abbrev pub invariant-loop-number : goal.invariant-loop-number
invariant-loop-number l = record { each : length l.flags.items ≡ l.number; either : (n : ℕ) → IsFlagged l.flags.items n → HasLevel l.marks n ⊎ HasLevel l.others n }
