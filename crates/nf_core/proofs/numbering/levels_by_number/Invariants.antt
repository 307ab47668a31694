use Rattle.std.proofs.Common.{◌≡◌, map, take}
use Rattle.nf_core.specs.Written.{level_or_zero}
use Rattle.nf_core.proofs.numbering.levels_by_number.Given as goal

-- the levels of the names so far
abbrev pub invariant-loop-number : goal.invariant-loop-number
invariant-loop-number l = l.list.items ≡ map (level_or_zero l.levels) (take l.number l.names)
