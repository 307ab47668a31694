use Rattle.nf_model.proofs.Public.PoolLemmas.{reads_below}
use Rattle.nf_model.proofs.Public.LevelLemmas.{by_levels_solved}
use Rattle.nf_model.proofs.laws.lists_by_levels_are_solved.Goals as goal

pub returns : goal.returns
returns c = record { solved = λ plan step n reads within. by_levels_solved plan step reads n within; pools = reads_below }
