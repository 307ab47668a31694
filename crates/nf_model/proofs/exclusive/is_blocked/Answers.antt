use Rattle.std.proofs.Common.{Some, option_to_list, arith}
use Rattle.std.proofs.lemmas.Grind.{common_steps}
use Rattle.nf_model.specs.Members.{HavePlaces}
use Rattle.nf_model.proofs.ListLemmas.{All-rest}
use Rattle.nf_model.proofs.exclusive.is_blocked.Goals as goal

pub loop-second-preserved : goal.loop-second-preserved
loop-second-preserved g c = record {
  rest = grind (arith, common_steps);
  places =
      All-rest (λ j. HavePlaces (option_to_list c.args.rule.now.filter) c.args.first.now (Some j)) c.loop-second.second-iterator c.next.new.self c.in-Some.second.now c.in-Some.ensures.steps
      c.loop-second.invariant.places;
}
