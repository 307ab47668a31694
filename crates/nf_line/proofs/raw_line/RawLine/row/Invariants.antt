use Rattle.std.proofs.Common.{◌≡◌, map, take}
use Rattle.std.specs.List.{All}
use Rattle.nf_core.specs.Plan.{keys_of}
use Rattle.nf_core.specs.Rows.{IsPlainCell}
use Rattle.nf_line.specs.Line.{spelled}
use Rattle.nf_line.specs.Rows.{row_of}
use Rattle.nf_line.proofs.raw_line.RawLine.row.Given as goal

abbrev pub invariant-loop-place : goal.invariant-loop-place
invariant-loop-place l = record {
  cells : l.row ≡ row_of (take l.place (keys_of l.plan l.name)) (map spelled l.self.texts);
  plain : All IsPlainCell l.row;
}
