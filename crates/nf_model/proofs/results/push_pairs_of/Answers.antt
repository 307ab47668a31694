use Rattle.std.proofs.Common.{Some, arith}
use Rattle.std.proofs.lemmas.Grind.{common_steps}
use Rattle.nf_model.specs.Members.{HavePlaces, clause_terms}
use Rattle.nf_model.proofs.ListLemmas.{All-rest}
use Rattle.nf_model.proofs.results.push_pairs_of.Goals as goal

pub loop-second-preserved : goal.loop-second-preserved
loop-second-preserved g c = record {
  list = grind (arith, common_steps);
  places =
      All-rest (λ j. HavePlaces (clause_terms c.args.rule.now) c.args.first.now (Some j)) c.loop-second.second-iterator c.next.new.self c.in-Some.second.now c.in-Some.ensures.steps
      c.loop-second.invariant.places;
}
