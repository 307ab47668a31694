use Rattle.nf_model.proofs.ProperPoolLemmas.{pools_proper, pools_are_sets, no_pools}
use Rattle.nf_model.proofs.row_laws.pools_have_proper_rows.Goals as goal

pub returns : goal.returns
returns c = record { proper = λ plan full inputs valid h. pools_proper plan valid full inputs h; sets = pools_are_sets; none = no_pools }
