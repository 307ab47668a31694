use Rattle.nf_model.specs.inner.Known.{AreKnownUpTo}
use Rattle.nf_model.proofs.evaluation.fill_level.Given as goal

-- the names so far are known
abbrev pub invariant-loop-name : goal.invariant-loop-name
invariant-loop-name g l = AreKnownUpTo l.plan l.full l.inputs l.level l.name l.pools.items
