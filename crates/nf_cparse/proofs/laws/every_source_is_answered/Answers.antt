use Rattle.std.proofs.Common.{refl}
use Rattle.nf_cparse.proofs.SourceLemmas.{one_answer}
use Rattle.nf_cparse.proofs.EveryAnswerLemmas.{every_answer, not_memory}
use Rattle.nf_cparse.proofs.laws.every_source_is_answered.Goals as goal

pub returns-clause-some : goal.returns-clause-some
returns-clause-some c = λ source. every_answer source c.plain_texts.ensures.plain

pub returns-clause-one : goal.returns-clause-one
returns-clause-one c = one_answer

pub returns-clause-known : goal.returns-clause-known
returns-clause-known c = λ source v. not_memory source _ v refl
