use Rattle.std.proofs.Common.{unwrap_or, ap, ◌∙◌, arith}
use Rattle.nf_core.specs.Written.{level_or_zero}
use Rattle.nf_core.proofs.NumberingLemmas.{get_or-slice_get, mapped_more}
use Rattle.nf_core.proofs.numbering.levels_by_number.Goals as goal

pub loop-number-preserved : goal.loop-number-preserved
loop-number-preserved c =
    rw c.in_ok-push.ensures.items (mapped_more (level_or_zero c.args.levels.now) c.args.names.now c.loop-number.number c.loop-number.list.items c.at.result.now c.unwrap_or-level.result (omega arith)
    (get_or-slice_get c.args.names.now c.loop-number.number c.at.result.now c.at.result.now c.at.ensures) c.loop-number.invariant (c.unwrap_or-level.ensures ∙ ap (λ o. unwrap_or o 0) c.of.ensures))
