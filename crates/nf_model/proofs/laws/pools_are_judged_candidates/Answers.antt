use Rattle.nf_model.proofs.Public.PoolLemmas.{pool_is_judged}
use Rattle.nf_model.proofs.laws.pools_are_judged_candidates.Goals as goal

pub returns : goal.returns
returns c = λ plan full inputs n valid within. pool_is_judged plan full inputs n valid within
