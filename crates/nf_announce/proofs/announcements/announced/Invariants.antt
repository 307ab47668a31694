use Rattle.std.proofs.Common.{◌≡◌, map, take}
use Rattle.nf_announce.specs.Announcements.{announcement}
use Rattle.nf_announce.proofs.announcements.announced.Given as goal

abbrev pub invariant-loop-item : goal.invariant-loop-item
invariant-loop-item l = l.announced.items ≡ map (announcement l.plan) (take l.item-index l.items)
