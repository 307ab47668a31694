-- The passage of the step.
use Rattle.nf_engine.proofs.turns.turn.Given as goal

abbrev pub ghost-gather : goal.ghost-gather
ghost-gather g a = g.passage

abbrev pub ghost-settle : goal.ghost-settle
ghost-settle g a = g.passage
