use Rattle.nf_blocks.proofs.PartLemmas.{last_block_out}
use Rattle.std.proofs.Common.{◌∙◌}
use Rattle.nf_blocks.proofs.walk.WalkDoubleEndedIterator.next_back.Goals as goal

pub loop-item-preserved : goal.loop-item-preserved
loop-item-preserved g c =
    last_block_out _ _ _ _ _ _ c.in-Some-next_back.block.now c.loop-item.invariant c.in_default.ensures.steps.0 c.in-Some-next_back.ensures.steps
    (c.iter-self-inside.ensures.rest ∙ c.deref.ensures.value)
