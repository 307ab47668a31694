use Rattle.std.proofs.Common.{◌≡◌, take}
use Rattle.nf_core.specs.Sets as set
use Rattle.nf_model.proofs.judging.once.Given as goal

-- the members so far
abbrev pub invariant-loop-member : goal.invariant-loop-member
invariant-loop-member l = l.set ≡ set.once (take l.member-index l.members)
