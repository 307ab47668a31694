-- The passage of the step.
use Rattle.nf_engine.proofs.evaluations.evaluate.Given as goal

abbrev pub ghost-follow : goal.ghost-follow
ghost-follow g a = g.passage
