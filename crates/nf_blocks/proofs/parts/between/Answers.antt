use Rattle.std.proofs.Common.{◌∙◌, arith}
use Rattle.nf_blocks.proofs.PartLemmas.{part_over, part_in, part_before, part_same}
use Rattle.nf_blocks.proofs.parts.between.Goals as goal
use Rattle.nf_blocks.proofs.parts.between.Goals.{else-start-end-2-via-then-start-end-2+else-start-end-3, else-start-end-2-via-else-start-end-2}

pub returns-then-start-end : goal.returns-then-start-end
returns-then-start-end g c =
    c.of.ensures
    ∙ part_over c.args.blocks.now c.args.start.block c.args.start.within c.args.end.block c.args.end.within c.block_at-first.result.now c.block_at-last.result.now
    c.block_at-first.ensures c.block_at-last.ensures c.if-start-end.true c.requires.in_start c.requires.in_end

pub returns-then-start-end-3 : goal.returns-then-start-end-3
returns-then-start-end-3 g c =
    c.of-then-start-end-3.ensures
    ∙ part_in c.args.blocks.now c.args.start.block c.args.start.within c.args.end.block c.args.end.within c.block_at-first.result.now
    c.block_at-first.ensures c.if-start-end-2.true c.if-start-end-3.true c.requires.in_end

pub returns-else-start-end-2 : goal.returns-else-start-end-2
returns-else-start-end-2 g c =
    c.of-else-start-end-2.ensures
    ∙ elim c.else-start-end-2.branch [
      | else-start-end-2-via-then-start-end-2+else-start-end-3 w ↦
          part_same c.args.blocks.now c.args.start.block c.args.start.within c.args.end.block c.args.end.within w.if-start-end-2.true w.if-start-end-3.false
      | else-start-end-2-via-else-start-end-2 w ↦
          part_before c.args.blocks.now c.args.start.block c.args.start.within c.args.end.block c.args.end.within (omega arith) c.requires.in_end
    ]
