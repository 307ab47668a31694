-- From the inputs so far to these with the interval. Its name isn't wide, so of it all candidates are held exactly where minimality is off.
use Rattle.nf_engine.specs.inner.Engines.{passage_of}
use Rattle.nf_engine.specs.inner.Rounds.{minimal_at}
use Rattle.nf_engine.proofs.engines.EngineInferer.step.Given as goal

abbrev pub ghost-enter : goal.ghost-enter
ghost-enter g a = passage_of a.plan.now (minimal_at a.round.now.names.items a.name).full a.entered.now a.round.now.names.items a.name a.interval
