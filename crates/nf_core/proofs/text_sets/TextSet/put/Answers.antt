use Rattle.std.proofs.Common.{refl, Global}
use Rattle.std.specs.String.{string_bytes, string_eq}
use Rattle.nf_core.specs.Texts.{text_eq}
use Rattle.nf_lemmas.proofs.MapLemmas.{insert_key-map}
use Rattle.nf_core.proofs.text_sets.TextSet.put.Goals as goal

pub returns-clause-ok : goal.returns-clause-ok
returns-clause-ok c = rw (c.in_ok-insert.ensures.keys, ← c.self.view_is, ← c.into_string.ensures) (insert_key-map (string_bytes {Z = Global}) string_eq text_eq (λ x y. refl) c.self.inside.texts.keys c.into_string.result)
