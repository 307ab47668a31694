use Rattle.std.proofs.Common.{sym, bytes_eq}
use Rattle.std.specs.String.{string_bytes}
use Rattle.nf_lemmas.proofs.MapLemmas.{position-map}
use Rattle.nf_core.proofs.text_sets.TextSet.find.Goals as goal

pub returns : goal.returns
returns c = rw (← c.self.view_is, c.get_index_of.ensures.index) (sym (position-map string_bytes (bytes_eq c.args.text.now) c.self.inside.texts.keys))
