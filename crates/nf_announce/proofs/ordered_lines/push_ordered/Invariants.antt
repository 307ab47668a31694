use Rattle.std.proofs.Common.{◌≡◌, ◌++◌, flat_map, take}
use Rattle.nf_announce.specs.inner.LineTexts.{line_after}
use Rattle.nf_announce.proofs.ordered_lines.push_ordered.Given as goal

abbrev pub invariant-loop-item : goal.invariant-loop-item
invariant-loop-item l = l.lines ≡ l.fn.lines ++ flat_map (line_after l.sign) (take l.item-index l.item-items)
