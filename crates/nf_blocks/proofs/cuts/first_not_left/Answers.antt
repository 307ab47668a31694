-- The blocks whose last element passes come first.
use Rattle.std.proofs.Common.{rules}
use Rattle.std.proofs.lemmas.List.Sorted.{IsPartitionPoint-from_clause}
use Rattle.std.specs.Global.{Vec}
use Rattle.nf_blocks.specs.inner.Places.{last_passes}
use Rattle.nf_blocks.specs.inner.Cuts.{is_left}
use Rattle.nf_blocks.proofs.CutLemmas.{cut_falls, blocks_parted}
use Rattle.nf_blocks.proofs.cuts.first_not_left.Goals as goal

pub returns-clause-parts : goal.returns-clause-parts
returns-clause-parts g c count blocks =
    let o = g.met.T.Ord.total in
    let p = is_left g.T.Ord.cmp c.args.cut.now in
    IsPartitionPoint-from_clause (λ (b : Vec g.row.T.Denot). last_passes p b.items) _ _ c.partition_point.ensures.partitioned
    (blocks_parted o (cut_falls o c.args.cut.now) c.args.blocks.now blocks.sorted blocks.filled) (λ a r q k. search rules)
