use Rattle.std.proofs.Common.{Some, None, All, option_to_list, arith}
use Rattle.std.proofs.lemmas.Grind.{common_steps}
use Rattle.nf_model.specs.Members.{HavePlaces, result_terms}
use Rattle.nf_model.proofs.ListLemmas.{All-rest}
use Rattle.nf_model.proofs.exclusive.push_unblocked.Goals as goal

pub loop-first-preserved : goal.loop-first-preserved
loop-first-preserved g c = record {
  list = grind (arith, common_steps);
  pairs =
      All-rest (λ i. All (λ j. HavePlaces (option_to_list c.args.rule.now.filter) i (Some j)) c.args.others.now) c.loop-first.first-iterator c.next.new.self c.in-Some.first.now
      c.in-Some.ensures.steps c.loop-first.invariant.pairs;
  places =
      All-rest (λ i. HavePlaces (result_terms c.args.rule.now) i None) c.loop-first.first-iterator c.next.new.self c.in-Some.first.now c.in-Some.ensures.steps
      c.loop-first.invariant.places;
}
