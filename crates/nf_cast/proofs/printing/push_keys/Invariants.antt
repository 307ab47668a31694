use Rattle.std.proofs.Common.{◌≡◌, ◌++◌, take}
use Rattle.std.specs.Prelude.{flat_map, codes}
use Rattle.nf_cast.proofs.printing.push_keys.Given as goal

abbrev pub invariant-loop-key : goal.invariant-loop-key
invariant-loop-key l = l.lines ≡ l.initial.lines ++ flat_map (λ key. codes " " ++ key) (take l.key-index l.keys)
