use Rattle.std.proofs.Common.{◌≡◌, ◌++◌, take}
use Rattle.std.specs.Prelude.{flat_map}
use Rattle.nf_cast.specs.Text.{item_text}
use Rattle.nf_cast.proofs.printing.push_items.Given as goal

abbrev pub invariant-loop-item : goal.invariant-loop-item
invariant-loop-item l = l.lines ≡ l.initial.lines ++ flat_map item_text (take l.item-index l.items)
