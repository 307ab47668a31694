use Rattle.nf_model.specs.inner.Known.{AreKnown}
use Rattle.nf_model.proofs.evaluation.pools_of.Given as goal

-- the names below the level are known
abbrev pub invariant-loop-level : goal.invariant-loop-level
invariant-loop-level g l = AreKnown l.plan l.full l.inputs l.level l.pools.items
