use Rattle.std.proofs.Common.{Some}
use Rattle.nf_model.proofs.Public.PlaceLemmas.{filter_read}
use Rattle.nf_model.proofs.results.pair_result.Goals as goal

pub is_met-requires-clause-places : goal.is_met-requires-clause-places
is_met-requires-clause-places g c = filter_read c.args.first.now (Some c.args.second.now) c.args.rule.now c.requires.places
