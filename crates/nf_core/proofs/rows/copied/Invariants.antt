use Rattle.std.proofs.Common.{◌≡◌, take}
use Rattle.nf_core.proofs.rows.copied.Given as goal

-- the cells so far
abbrev pub invariant-loop-cell : goal.invariant-loop-cell
invariant-loop-cell l = l.copy.items ≡ take l.cell-index l.cells
