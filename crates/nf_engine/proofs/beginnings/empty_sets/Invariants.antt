-- The sets so far are empty.
use Rattle.std.proofs.Common.{◌≡◌, replicate, []}
use Rattle.nf_engine.proofs.beginnings.empty_sets.Given as goal

abbrev pub invariant-loop-name : goal.invariant-loop-name
invariant-loop-name l = l.sets.items ≡ replicate l._name []
