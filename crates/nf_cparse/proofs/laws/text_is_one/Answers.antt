use Rattle.nf_cparse.proofs.TokenLemmas.{text_some, text_one}
use Rattle.nf_cparse.proofs.laws.text_is_one.Goals as goal

pub returns-clause-some : goal.returns-clause-some
returns-clause-some c = text_some

pub returns-clause-one : goal.returns-clause-one
returns-clause-one c = text_one
