use Rattle.nf_model.proofs.Public.ContentLemmas.{content_begins, content_grows}
use Rattle.nf_model.proofs.laws.contents_stay.Goals as goal

pub returns : goal.returns
returns c = record { begin = content_begins; step = content_grows }
