use Rattle.std.proofs.Common.{map, ◌∙◌}
use Rattle.std.proofs.lemmas.List.Elements.{All-push}
use Rattle.nf_core.specs.Plan.{keys_of}
use Rattle.nf_core.specs.Rows.{IsPlainCell}
use Rattle.nf_line.specs.Line.{spelled}
use Rattle.nf_line.proofs.CellLemmas.{row_more}
use Rattle.nf_line.proofs.raw_line.RawLine.row.Goals as goal

pub loop-place-preserved : goal.loop-place-preserved
loop-place-preserved c = record {
  cells =
      c.in_ok-push.ensures.ok
      ∙ row_more (keys_of c.args.plan.now c.args.name) c.loop-place.place (map spelled c.args.self.now.texts) c.key.result.now c.loop-place.row c.in_ok-cell.field-0 c.key.ensures c.loop-place.invariant.cells c.in_ok-cell.ensures.cell;
  plain = rw c.in_ok-push.ensures.ok (All-push IsPlainCell c.loop-place.row c.in_ok-cell.field-0 c.loop-place.invariant.plain c.in_ok-cell.ensures.plain);
}
