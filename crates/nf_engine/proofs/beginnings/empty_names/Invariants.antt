-- The names so far have no candidates.
use Rattle.nf_engine.specs.inner.Beginnings.{AreEmptyNames}
use Rattle.nf_engine.proofs.beginnings.empty_names.Given as goal

abbrev pub invariant-loop-name : goal.invariant-loop-name
invariant-loop-name l = AreEmptyNames l.plan l.full l.name l.names.items
