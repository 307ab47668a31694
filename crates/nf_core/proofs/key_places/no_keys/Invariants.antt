use Rattle.std.proofs.Common.{◌≡◌, [], replicate}
use Rattle.nf_core.proofs.key_places.no_keys.Given as goal

-- no keys for each name so far
abbrev pub invariant-loop : goal.invariant-loop
invariant-loop l = l.keys.items ≡ replicate l.counter []
