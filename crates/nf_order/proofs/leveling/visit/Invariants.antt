use Rattle.std.proofs.Common.{◌≢◌}
use Rattle.nf_order.specs.inner.Marks.{mark_of, IsSearch, Keeps, left}
use Rattle.nf_order.specs.declared.marks.Mark.TheVariants.{New}
use Rattle.nf_order.proofs.leveling.visit.Given as goal

-- the state of the search, in which the number isn't new
abbrev pub invariant-loop-frame : goal.invariant-loop-frame
invariant-loop-frame l = record { search : IsSearch l.graph l.marks.items l.stack.items; keeps : Keeps l.fn.marks.items l.marks.items; known : mark_of l.marks.items l.number ≢ New }

abbrev pub decreases-loop-frame : goal.decreases-loop-frame
decreases-loop-frame l = left l.marks.items l.stack.items
