use Rattle.std.proofs.Common.{refl}
use Rattle.nf_lex.proofs.UniquenessLemmas.{one_answer}
use Rattle.nf_lex.proofs.ExistenceLemmas.{answer_exists}
use Rattle.nf_lex.proofs.Public.FaultLemmas.{no_memory}
use Rattle.nf_lex.proofs.laws.division_is_one.Goals as goal

pub returns-clause-some : goal.returns-clause-some
returns-clause-some c = answer_exists

pub returns-clause-one : goal.returns-clause-one
returns-clause-one c = one_answer

pub returns-clause-memory : goal.returns-clause-memory
returns-clause-memory c = λ source d. no_memory source 0 _ d refl
