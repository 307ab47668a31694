use Rattle.std.proofs.Common.{◌≡◌, ◌++◌}
use Rattle.nf_core.proofs.key_places.by_place.Given as goal

-- the keys by place, and those that are left
abbrev pub invariant-loop-texts : goal.invariant-loop-texts
invariant-loop-texts l = l.list ++ l.texts-iterator.rest.items ≡ l.fn.keys.items
