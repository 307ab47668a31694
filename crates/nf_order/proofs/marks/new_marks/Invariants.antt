use Rattle.std.proofs.Common.{◌≡◌, replicate}
use Rattle.nf_order.specs.declared.marks.Mark.TheVariants.{New}
use Rattle.nf_order.proofs.marks.new_marks.Given as goal

-- a new mark for each name so far
abbrev pub invariant-loop : goal.invariant-loop
invariant-loop l = l.marks.items ≡ replicate l.counter New
