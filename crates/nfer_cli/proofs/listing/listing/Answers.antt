use Rattle.std.proofs.Common.{All, ap, flat_map, Bor, ◌∙◌, arith, rules}
use Rattle.std.proofs.lemmas.List.{take_all}
use Rattle.nf_core.specs.Trees.{IsWritten}
use Rattle.nf_core.specs.declared.trees.Rule.{Rule}
use Rattle.nf_print.specs.Canonical.{canonical}
use Rattle.nfer_cli.proofs.ListingLemmas.{All-by_level, listing_from}
use Rattle.nfer_cli.proofs.listing.listing.Goals as goal

pub print-requires : goal.print-requires
print-requires c =
    let written : All (λ (rule : Bor Rule). IsWritten rule.now) c.in_ok-ordered.ordered.items =
    All-by_level IsWritten (λ (rule : Bor Rule). rule.now) c.args.levels.now c.args.rules.now c.in_ok-ordered.ordered.items c.in_ok-ordered.ensures c.requires in
    search rules

pub returns : goal.returns
returns c =
    let whole = take_all c.loop-rule.rule-index c.as_slice-rule-items.result.now (omega arith) in
    c.loop-rule.invariant
    ∙ ap (flat_map (λ (rule : Bor Rule). canonical rule.now)) (whole ∙ c.as_slice-rule-items.ensures.value)
    ∙ listing_from (λ (rule : Bor Rule). rule.now) c.args.levels.now c.args.rules.now c.in_ok-ordered.ordered.items c.in_ok-ordered.ensures
