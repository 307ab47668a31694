use Rattle.std.proofs.Common.{◌≡◌, take, filter}
use Rattle.nf_model.specs.Pools.{is_minimal}
use Rattle.nf_model.proofs.judging.minimal.Given as goal

-- the minimal ones so far
abbrev pub invariant-loop-member : goal.invariant-loop-member
invariant-loop-member l = l.out ≡ filter (is_minimal l.members) (take l.member-index l.members)
