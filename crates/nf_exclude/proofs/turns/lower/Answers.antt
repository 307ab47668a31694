use Rattle.std.proofs.lemmas.Result.{on_ok_weaker}
use Rattle.nf_exclude.proofs.TurnLemmas.{turned_down}
use Rattle.nf_exclude.proofs.turns.lower.Goals as goal

pub returns-clause-turned : goal.returns-clause-turned
returns-clause-turned g c =
    on_ok_weaker c.push_unblocked.result
    (λ out. turned_down c.args.rule.now c.args.first.now c.args.blockers.now c.lower.new.self c.args.found.now c.push_unblocked.new.out c.lower.ensures out)
    c.push_unblocked.ensures.out
