-- Some names had their turn.
use Rattle.nf_engine.specs.inner.Running.{IsRunning, rules_left}
use Rattle.nf_engine.proofs.running.run.Given as goal

abbrev pub ghost-turn : goal.ghost-turn
ghost-turn g a = g.passage

abbrev pub invariant-loop-due : goal.invariant-loop-due
invariant-loop-due g l = IsRunning l.plan g.passage l.fn.steps l.steps l.round

abbrev pub decreases-loop-due : goal.decreases-loop-due
decreases-loop-due g l = rules_left l.plan l.round.queue
