-- The lists so far are empty.
use Rattle.std.proofs.Common.{◌≡◌, replicate, []}
use Rattle.nf_engine.proofs.beginnings.no_readers.Given as goal

abbrev pub invariant-loop-name : goal.invariant-loop-name
invariant-loop-name l = l.lists.items ≡ replicate l._name []
