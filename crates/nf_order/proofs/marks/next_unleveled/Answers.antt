use Rattle.std.proofs.Common.{sym, arith}
use Rattle.std.proofs.lemmas.List.Elements.{All-more}
use Rattle.nf_order.specs.inner.Marks.{HasLevel}
use Rattle.nf_order.proofs.marks.next_unleveled.Goals as goal

pub loop-place-preserved : goal.loop-place-preserved
loop-place-preserved c = record {
  within = omega arith;
  leveled = All-more (HasLevel c.args.marks.now) c.args.below.now c.loop-place.place 0 (omega arith) c.loop-place.invariant.leveled (sym c.if-is_leveled.ensures);
}
