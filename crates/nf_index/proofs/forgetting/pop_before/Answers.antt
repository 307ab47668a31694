use Rattle.std.proofs.Common.{sym, ◌∙◌}
use Rattle.nf_index.proofs.ForgetLemmas.{popped, all_kept}
use Rattle.nf_index.proofs.forgetting.pop_before.Goals as goal

pub returns-then-is_any_before-clause-before : goal.returns-then-is_any_before-clause-before
returns-then-is_any_before-clause-before c =
    popped c.args.time.now c.pop_first.result _ _ c.pop_first.ensures.first c.is_any_before.ensures.sorted (sym c.is_any_before.ensures.any ∙ c.if-is_any_before.true)

pub returns-else-is_any_before-clause-kept : goal.returns-else-is_any_before-clause-kept
returns-else-is_any_before-clause-kept c = all_kept c.args.time.now c.args.begins.now (sym c.is_any_before.ensures.any ∙ c.if-is_any_before.false)
