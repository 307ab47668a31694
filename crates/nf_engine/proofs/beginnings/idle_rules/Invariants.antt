-- The parts so far are those of their rules.
use Rattle.nf_engine.specs.inner.Beginnings.{AreIdleParts}
use Rattle.nf_engine.proofs.beginnings.idle_rules.Given as goal

abbrev pub invariant-loop-rule : goal.invariant-loop-rule
invariant-loop-rule l = AreIdleParts l.plan l.rule l.parts.items
