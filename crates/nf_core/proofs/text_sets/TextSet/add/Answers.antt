use Rattle.std.proofs.Common.{refl, Global}
use Rattle.std.specs.String.{string_bytes, string_eq}
use Rattle.nf_core.specs.Texts.{text_eq}
use Rattle.nf_lemmas.proofs.MapLemmas.{insert_key-map}
use Rattle.nf_core.proofs.text_sets.TextSet.add.Goals as goal

pub returns-clause-ok : goal.returns-clause-ok
returns-clause-ok c = rw (c.in_ok-insert.ensures.keys, ← c.self.view_is, ← c.in_ok-text.ensures.ok) (insert_key-map (string_bytes {Z = Global}) string_eq text_eq (λ x y. refl) c.self.inside.texts.keys c.in_ok-text.text)
