use Rattle.std.proofs.Common.{ℕ, ◌+◌, [], ◌∷◌, ◌++◌, Option, ap, sym, ◌∙◌, arith}
use Rattle.std.specs.Option.{option_copied}
use Rattle.nf_core.specs.declared.values.Value.{Value}
use Rattle.nf_model.specs.Results.{cell_of}
use Rattle.nf_model.proofs.ListLemmas.{made_more}
use Rattle.nf_model.proofs.EntryLemmas.{none_below, mapped_more, mapped_few}
use Rattle.nf_model.proofs.maps.mapped_row.Goals as goal

pub loop-place-init : goal.loop-place-init
loop-place-init g c = record {
  cells = c.new-row.ensures;
  counted = omega (arith, none_below c.args.entries.now);
}

pub loop-place-preserved : goal.loop-place-preserved
loop-place-preserved g c =
    let cell : ℕ → Option Value = λ place. cell_of c.args.entries.now place c.args.first.now (option_copied c.args.second) in
    record {
      cells =
          c.in_ok-push_cell.ensures.row ∙ ap (λ cells. cells ++ cell c.loop-place.place ∷ []) c.loop-place.invariant.cells
          ∙ sym (made_more cell c.loop-place.place);
      counted = omega (arith, c.push_cell.ensures.cost, c.loop-place.invariant.counted, mapped_more c.args.entries.now c.loop-place.place);
    }

pub returns-in_err-push_cell-clause-cost : goal.returns-in_err-push_cell-clause-cost
returns-in_err-push_cell-clause-cost g c =
    omega (arith, c.push_cell.ensures.cost, c.loop-place.invariant.counted, mapped_more c.args.entries.now c.loop-place.place, mapped_few c.args.entries.now (c.loop-place.place + 1))

pub returns-clause-cost : goal.returns-clause-cost
returns-clause-cost g c = omega (arith, c.loop-place.invariant.counted, mapped_few c.args.entries.now c.loop-place.place)
