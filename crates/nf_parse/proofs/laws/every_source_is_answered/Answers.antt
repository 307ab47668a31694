use Rattle.std.proofs.Common.{refl}
use Rattle.nf_parse.proofs.AnswerLemmas.{every_answer, answered_once, not_memory, not_lexical_memory}
use Rattle.nf_parse.proofs.laws.every_source_is_answered.Goals as goal

pub returns-clause-some : goal.returns-clause-some
returns-clause-some c = λ source. let d = c.division_is_one.ensures.some source in every_answer source d.0 d.1

pub returns-clause-one : goal.returns-clause-one
returns-clause-one c = λ source a b v w. answered_once c.division_is_one.ensures.one source a b v w

pub returns-clause-known : goal.returns-clause-known
returns-clause-known c = λ source v. not_memory source _ v refl

pub returns-clause-lexical : goal.returns-clause-lexical
returns-clause-lexical c = λ source v. not_lexical_memory source _ v refl
