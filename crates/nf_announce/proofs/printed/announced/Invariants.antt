use Rattle.std.proofs.Common.{◌≡◌, map, filter, take}
use Rattle.nf_announce.specs.Printed.{printed}
use Rattle.nf_announce.specs.inner.LineTexts.{has_sign}
use Rattle.nf_announce.proofs.printed.announced.Given as goal

abbrev pub invariant-loop-item : goal.invariant-loop-item
invariant-loop-item l = l.announced.items ≡ map printed (filter (has_sign l.added) (take l.item-index l.items))
