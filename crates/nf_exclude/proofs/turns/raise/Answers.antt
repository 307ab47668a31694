use Rattle.std.proofs.lemmas.Result.{on_ok_weaker}
use Rattle.nf_exclude.proofs.TurnLemmas.{turned_up}
use Rattle.nf_exclude.proofs.turns.raise.Goals as goal

pub returns-clause-turned : goal.returns-clause-turned
returns-clause-turned g c =
    on_ok_weaker c.raise_copy.result
    (λ numbers. turned_up c.args.rule.now c.args.first.now c.args.blockers.now c.raise_copy.new.self c.args.lost.now c.push_unblocked.new.out numbers c.in_ok-push_unblocked.ensures.out)
    c.raise_copy.ensures.ok
