-- The change has what the entries before those that are left tell.
use Rattle.nf_engine.specs.inner.Deltas.{IsTold}
use Rattle.nf_engine.proofs.deltas.Deltas.into_change.Given as goal

abbrev pub invariant-loop-name : goal.invariant-loop-name
invariant-loop-name l = IsTold l.plan l.name-iterator l.fn.self l.change
