use Rattle.nf_cparse.proofs.AnswerLemmas.{some_answer, answered_once}
use Rattle.nf_cparse.proofs.laws.items_are_one.Goals as goal

pub returns-clause-some : goal.returns-clause-some
returns-clause-some c = some_answer

pub returns-clause-one : goal.returns-clause-one
returns-clause-one c = answered_once
