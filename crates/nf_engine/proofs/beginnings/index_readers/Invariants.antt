-- The rules so far are in the index.
use Rattle.nf_engine.specs.inner.Beginnings.{AreFirstReaders}
use Rattle.nf_engine.proofs.beginnings.index_readers.Given as goal

abbrev pub invariant-loop-rule : goal.invariant-loop-rule
invariant-loop-rule l = AreFirstReaders l.plan l.rule l.readers.items
