use Rattle.nfer_cli.proofs.ExistenceLemmas.{some_answer}
use Rattle.nfer_cli.proofs.UniquenessLemmas.{one_answer}
use Rattle.nfer_cli.proofs.laws.every_question_has_one_answer.Goals as goal

pub returns : goal.returns
returns c = record {
  some = some_answer c.every_specification_has_one_answer.ensures.some c.drill_has_one_plan.ensures.some;
  one = one_answer c.every_specification_has_one_answer.ensures.one c.drill_has_one_plan.ensures.one;
}
