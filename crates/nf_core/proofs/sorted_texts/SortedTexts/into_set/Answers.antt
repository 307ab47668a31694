use Rattle.std.proofs.Common.{◌≡◌, rules, subst, ◌∙◌}
use Rattle.std.specs.List.Sorted.{IsStrictlySortedBy}
use Rattle.nf_core.specs.Texts.{text_cmp}
use Rattle.nf_core.specs.Written.{each_once}
use Rattle.nf_core.proofs.Public.AscendingLemmas.{each_once-ascending}
use Rattle.nf_core.proofs.sorted_texts.SortedTexts.into_set.Goals as goal

pub returns : goal.returns
returns c =
    let all : c.loop-text.set ≡ each_once c.args.self = search rules in
    all ∙ each_once-ascending c.args.self (subst (IsStrictlySortedBy text_cmp) c.self.view_is c.self.invariant)
