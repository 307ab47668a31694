use Rattle.nfer_cli.proofs.AskedLemmas.{one_thing, is_known}
use Rattle.nfer_cli.proofs.laws.words_ask_for_one_thing.Goals as goal

pub returns : goal.returns
returns c = record { one = one_thing; known = is_known }
