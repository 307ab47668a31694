-- The passage of the step.
use Rattle.nf_engine.proofs.entering.enter.Given as goal

abbrev pub ghost-settle : goal.ghost-settle
ghost-settle g a = g.passage

abbrev pub ghost-run : goal.ghost-run
ghost-run g a = g.passage
