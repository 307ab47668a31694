-- In the first block that doesn't end before the cut, its elements that pass come first.
use Rattle.std.proofs.Common.{rules}
use Rattle.std.proofs.lemmas.List.Sorted.{IsPartitionPoint-from_clause}
use Rattle.nf_blocks.specs.inner.Cuts.{is_left}
use Rattle.nf_blocks.proofs.CutLemmas.{cut_falls, found_place}
use Rattle.nf_blocks.proofs.cuts.place_of.Goals as goal

pub returns-clause-place : goal.returns-clause-place
returns-clause-place g c count blocks =
    let bs = c.args.blocks.now in
    let o = g.met.T.Ord.total in
    let p = is_left g.T.Ord.cmp c.args.cut.now in
    found_place o (cut_falls o c.args.cut.now) bs c.block_behind-block.result c.partition_point-within.result blocks.sorted
    c.block_at.result.now c.block_at.ensures c.block_behind-block.ensures.bound c.partition_point-within.ensures.bound (c.block_behind-block.ensures.parts count blocks)
    (λ parted. IsPartitionPoint-from_clause p _ _ c.partition_point-within.ensures.partitioned parted (λ a r q k. search rules))
