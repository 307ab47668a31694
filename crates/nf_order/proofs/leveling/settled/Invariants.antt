use Rattle.std.proofs.Common.{ℕ, ◌<◌, ◌≢◌, []}
use Rattle.nf_order.specs.inner.Marks.{mark_of, IsSearch}
use Rattle.nf_order.specs.declared.marks.Mark.TheVariants.{New}
use Rattle.nf_order.proofs.leveling.settled.Given as goal

-- something is known of the numbers so far, and nothing is open
abbrev pub invariant-loop-number : goal.invariant-loop-number
invariant-loop-number l = record { search : IsSearch l.graph l.marks.items []; known : (n : ℕ) → n < l.number → mark_of l.marks.items n ≢ New }
