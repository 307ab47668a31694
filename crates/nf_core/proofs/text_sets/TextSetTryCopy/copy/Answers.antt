use Rattle.std.specs.String.{string_bytes}
use Rattle.nf_lemmas.proofs.MapLemmas.{map-from_clones}
use Rattle.nf_core.proofs.text_sets.TextSetTryCopy.copy.Goals as goal

pub returns : goal.returns
returns c = rw (← c.self.view_is) (map-from_clones string_bytes _ _ c.in_ok-texts.ensures.cases)
