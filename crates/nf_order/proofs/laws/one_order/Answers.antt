use Rattle.nf_order.proofs.AcyclicLemmas.{levels_or_cycle}
use Rattle.nf_order.proofs.LevelListLemmas.{same_levels}
use Rattle.nf_order.proofs.WalkLemmas.{levels_agree, IsAcyclic-leveled, no_first_cycle, one_first_cycle}
use Rattle.nf_order.proofs.laws.one_order.Goals as goal

pub returns : goal.returns
returns c = record { some = levels_or_cycle; same = same_levels; levels = levels_agree; acyclic = IsAcyclic-leveled; either = λ rules levels name leveled. no_first_cycle rules levels leveled name; cycle = one_first_cycle }
