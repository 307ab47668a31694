use Rattle.std.proofs.Common.{◌≡◌, [], ◌∷◌, ◌∙◌, ap, codes, pos, take, arith}
use Rattle.nf_core.specs.Plan.{keys_of}
use Rattle.nf_core.specs.declared.values.Value.TheVariants.{Int}
use Rattle.nf_line.specs.Rows.{row_of}
use Rattle.nf_session.proofs.DrillHeldLemmas.{row_more}
use Rattle.nf_session.proofs.making.made_row.Goals as goal

pub loop-place-preserved : goal.loop-place-preserved
loop-place-preserved c =
    row_more (keys_of c.args.plan.now c.args.name) c.loop-place.place c.args.bit c.key.result.now c.loop-place.row c.push.new.self c.made_cell.result
    c.key.ensures c.loop-place.invariant c.made_cell.ensures.cell c.in_ok-push.ensures.ok
