use Rattle.std.proofs.Common.{◌≡◌, take}
use Rattle.nf_core.specs.Plan.{keys_of}
use Rattle.nf_evaluation_cases.proofs.announcing.keys_listed.Given as goal

-- the keys up to a place
abbrev pub invariant-keys : goal.invariant-keys
invariant-keys l = l.keys ≡ take l.place (keys_of l.plan l.name)
