use Rattle.std.proofs.Common.{None, arith}
use Rattle.std.proofs.lemmas.Grind.{common_steps}
use Rattle.nf_model.specs.Members.{HavePlaces, clause_terms}
use Rattle.nf_model.proofs.ListLemmas.{All-rest}
use Rattle.nf_model.proofs.results.push_ones.Goals as goal

pub loop-first-preserved : goal.loop-first-preserved
loop-first-preserved g c = record {
  list = grind (arith, common_steps);
  places =
      All-rest (λ i. HavePlaces (clause_terms c.args.rule.now) i None) c.loop-first.first-iterator c.next.new.self c.in-Some.first.now c.in-Some.ensures.steps
      c.loop-first.invariant.places;
}
