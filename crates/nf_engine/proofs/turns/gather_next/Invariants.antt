-- The passage of the step.
use Rattle.nf_engine.proofs.turns.gather_next.Given as goal

abbrev pub ghost-evaluate : goal.ghost-evaluate
ghost-evaluate g a = g.passage
