use Rattle.std.proofs.Common.{◌≡◌, replicate, []}
use Rattle.nf_model.proofs.evaluation.empty_sets.Given as goal

-- the sets so far
abbrev pub invariant-loop-name : goal.invariant-loop-name
invariant-loop-name l = l.sets.items ≡ replicate l._name []
