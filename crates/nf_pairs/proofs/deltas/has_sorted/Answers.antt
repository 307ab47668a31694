use Rattle.std.proofs.Common.{◌∙◌}
use Rattle.nf_pairs.proofs.SearchLemmas.{found_is}
use Rattle.nf_pairs.proofs.deltas.has_sorted.Goals as goal

pub returns : goal.returns
returns c = c.is_ok.ensures.value ∙ found_is c.args.list.now c.args.interval.now _ c.requires c.binary_search.ensures.bound c.binary_search.ensures.position
