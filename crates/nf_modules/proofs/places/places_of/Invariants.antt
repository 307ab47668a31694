use Rattle.std.proofs.Common.{take}
use Rattle.nf_modules.specs.inner.Places.{ArePlaces, number_in}
use Rattle.nf_modules.proofs.places.places_of.Given as goal

-- the places of the modules so far
abbrev pub invariant-loop-place : goal.invariant-loop-place
invariant-loop-place l = ArePlaces (number_in l.places) (take l.place l.modules)
