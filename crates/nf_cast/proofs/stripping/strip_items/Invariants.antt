use Rattle.std.proofs.Common.{◌≡◌, map, take}
use Rattle.nf_cast.specs.Placed.{strip_item}
use Rattle.nf_cast.proofs.stripping.strip_items.Given as goal

abbrev pub invariant-loop-item : goal.invariant-loop-item
invariant-loop-item l = l.list ≡ map strip_item (take l.item-index l.items)
