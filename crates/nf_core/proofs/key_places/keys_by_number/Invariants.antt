use Rattle.std.proofs.Common.{◌≡◌, map, take}
use Rattle.nf_core.specs.Written.{keys_of_name}
use Rattle.nf_core.proofs.key_places.keys_by_number.Given as goal

-- the keys of the rules so far
abbrev pub invariant-loop-rule : goal.invariant-loop-rule
invariant-loop-rule l = l.keys.items ≡ map (keys_of_name (take l.rule-index l.rule-items)) l.names
