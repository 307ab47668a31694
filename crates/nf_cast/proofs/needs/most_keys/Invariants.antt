use Rattle.std.proofs.Common.{◌≡◌, ◌<◌, length, map, drop}
use Rattle.std.specs.Prelude.{◌^◌, max, fold}
use Rattle.nf_cast.specs.declared.manifests.CName.{CName}
use Rattle.nf_cast.specs.Program.{most_keys}
use Rattle.nf_cast.proofs.needs.most_keys.Given as goal

abbrev pub invariant-loop-name : goal.invariant-loop-name
invariant-loop-name l = (l.most < 2 ^ 63) × (fold max l.most (map (λ (n : CName). length n.keys) (drop l.name-index l.names)) ≡ most_keys l.names)
