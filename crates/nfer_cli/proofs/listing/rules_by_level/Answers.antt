use Rattle.std.proofs.Common.{◌≡◌, map, Bor, ◌∙◌, arith, rules}
use Rattle.std.proofs.lemmas.List.{take_all}
use Rattle.nf_core.specs.declared.trees.Rule.{Rule}
use Rattle.nfer_cli.specs.Listing.{head_level}
use Rattle.nfer_cli.proofs.StableSortLemmas.{sorted_shown}
use Rattle.nfer_cli.proofs.listing.rules_by_level.Goals as goal

pub returns : goal.returns
returns c =
    let sort = c.in_ok-sort_by_cached_key.ensures in
    let whole = take_all c.loop-rule.rule-index c.as_slice-rule-items.result.now (omega arith) in
    let all : map (λ (rule : Bor Rule). rule.now) c.loop-rule.ordered.items ≡ c.args.rules.now = c.loop-rule.invariant ∙ whole ∙ c.as_slice-rule-items.ensures in
    sorted_shown (λ (rule : Bor Rule). rule.now) (head_level c.args.levels.now) c.loop-rule.ordered.items c.sort_by_cached_key.new.self.items c.args.rules.now all
    sort.permutation sort.sorted sort.stable (λ a r f' called. search rules)
