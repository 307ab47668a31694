-- The blocks that end before the element come first.
use Rattle.std.proofs.Common.{rules}
use Rattle.std.proofs.lemmas.List.Sorted.{IsPartitionPoint-from_clause}
use Rattle.std.specs.Global.{Vec}
use Rattle.nf_blocks.specs.inner.Gaps.{ends_before}
use Rattle.nf_blocks.proofs.SearchLemmas.{ends_first}
use Rattle.nf_blocks.proofs.search.first_not_before.Goals as goal

pub returns-clause-parts : goal.returns-clause-parts
returns-clause-parts g c =
    let parted = ends_first g.met.T.Ord.total c.args.value.now c.args.blocks.now c.requires.sorted c.requires.filled in
    IsPartitionPoint-from_clause (λ (b : Vec g.row.T.Denot). ends_before g.T.Ord.cmp c.args.value.now b.items) _ _ c.partition_point.ensures.partitioned parted (λ a r q k. search rules)
