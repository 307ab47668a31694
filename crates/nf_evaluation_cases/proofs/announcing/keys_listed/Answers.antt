use Rattle.nf_core.specs.Plan.{keys_of}
use Rattle.nf_evaluation_cases.proofs.PrintedLemmas.{next_key}
use Rattle.nf_evaluation_cases.proofs.announcing.keys_listed.Goals as goal

pub keys-preserved : goal.keys-preserved
keys-preserved c =
    next_key (keys_of c.args.plan.now c.args.name) c.keys.place c.key.result.now c.in_ok-new.field-0 c.keys.keys c.push.new.self c.key.ensures c.in_ok-new.ensures c.keys.invariant c.in_ok-push.ensures.ok
