-- The intervals so far stand behind the others, with the name.
use Rattle.std.proofs.Common.{◌≡◌, ◌++◌}
use Rattle.nf_model.specs.Changes.{named}
use Rattle.nf_engine.proofs.deltas.push_named.Given as goal

abbrev pub invariant-loop-interval : goal.invariant-loop-interval
invariant-loop-interval l = l.out ≡ l.fn.out ++ named l.name l.yielded
