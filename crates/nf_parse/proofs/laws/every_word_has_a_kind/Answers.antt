use Rattle.std.proofs.Common.{refl}
use Rattle.nf_core.specs.Identifiers.{keywords}
use Rattle.nf_parse.proofs.laws.every_word_has_a_kind.Goals as goal

pub returns : goal.returns
unfolding keywords
returns c = record { keywords = refl; marks = refl }
