use Rattle.std.proofs.Common.{rules}
use Rattle.nf_model.proofs.EvaluationLemmas.{settled}
use Rattle.nf_model.proofs.evaluation.fill_level.Goals as goal

pub loop-name-preserved : goal.loop-name-preserved
loop-name-preserved g c =
    settled c.args.plan.now c.args.full c.args.inputs.now c.args.level c.loop-name.name c.loop-name.pools.items c.settle.new.pools.items
    c.names-name-end.ensures.valid c.requires.rows (search rules) c.loop-name.invariant c.in_ok-settle.ensures
