use Rattle.std.proofs.Common.{◌≡◌, take}
use Rattle.nf_cast.specs.Placed.{names_of}
use Rattle.nf_cast.proofs.stripping.strip_names.Given as goal

abbrev pub invariant-loop-at : goal.invariant-loop-at
invariant-loop-at l = l.texts ≡ names_of (take l.at-index l.names)
