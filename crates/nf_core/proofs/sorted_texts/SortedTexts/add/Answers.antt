use Rattle.std.proofs.Common.{sym, ◌∙◌}
use Rattle.std.specs.Cmp.Lexicographic.{nat_list_cmp_total}
use Rattle.nf_core.specs.Texts.{text_cmp}
use Rattle.nf_core.proofs.Public.AscendingLemmas.{insert_key-present}
use Rattle.nf_core.proofs.sorted_texts.SortedTexts.add.Goals as goal

pub returns-then-contains-clause-ok : goal.returns-then-contains-clause-ok
returns-then-contains-clause-ok c =
    rw (← c.self.view_is) (insert_key-present text_cmp nat_list_cmp_total c.self.inside.texts.keys c.args.text.now c.self.invariant (sym c.contains.ensures ∙ c.if-contains.true))
