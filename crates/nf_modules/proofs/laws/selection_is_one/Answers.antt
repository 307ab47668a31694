use Rattle.nf_modules.proofs.UniquenessLemmas.{one_answer, some_answer}
use Rattle.nf_modules.proofs.laws.selection_is_one.Goals as goal

pub returns-clause-some : goal.returns-clause-some
returns-clause-some c = some_answer

pub returns-clause-one : goal.returns-clause-one
returns-clause-one c = one_answer
