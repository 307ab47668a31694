use Rattle.nf_parse.proofs.AnswerLemmas.{spelled_once}
use Rattle.nf_parse.proofs.laws.one_reading.Goals as goal

pub returns : goal.returns
returns c = λ source a b v w. spelled_once c.division_is_one.ensures.one source a b v w
