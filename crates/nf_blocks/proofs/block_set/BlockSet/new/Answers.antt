-- No blocks hold the empty list.
use Rattle.std.proofs.Common.{sym, subst}
use Rattle.nf_blocks.specs.inner.Flat.{AreBlocks}
use Rattle.nf_blocks.proofs.BlockLemmas.{no_blocks}
use Rattle.nf_blocks.proofs.block_set.BlockSet.new.Goals as goal

pub invariant_of-result : goal.invariant_of-result
invariant_of-result g c = subst (λ bs. AreBlocks g.T.Ord.cmp bs 0) (sym c.new.ensures.items) (no_blocks g.T.Ord.cmp)
