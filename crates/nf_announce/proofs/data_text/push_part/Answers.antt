use Rattle.std.proofs.Common.{arith}
use Rattle.nf_announce.proofs.JoinedTextLemmas.{cell_more, cells_end}
use Rattle.nf_announce.proofs.data_text.push_part.Goals as goal

pub loop-place-preserved : goal.loop-place-preserved
loop-place-preserved g c =
    cell_more c.args.part c.loop-place.is_first (g.K.Keys.keys c.args.keys.now) c.args.row.now c.loop-place.place _ _ _ c.loop-place.text _ _
    (omega arith) (omega arith) c.at.ensures c.get.ensures.value c.in_ok-is_first.ensures.text c.in_ok-is_first.ensures.first c.loop-place.invariant

pub returns : goal.returns
returns g c =
    cells_end c.args.part c.loop-place.is_first (g.K.Keys.keys c.args.keys.now) c.args.row.now c.loop-place.place c.loop-place.text _
    (omega arith) c.loop-place.invariant
