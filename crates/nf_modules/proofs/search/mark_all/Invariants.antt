use Rattle.std.proofs.Common.{take}
use Rattle.nf_modules.specs.inner.Places.{number_in}
use Rattle.nf_modules.specs.inner.Search.{Marks, IsPlaceOf}
use Rattle.nf_modules.proofs.search.mark_all.Given as goal

-- the places of the names so far are marked
abbrev pub invariant-loop-name : goal.invariant-loop-name
invariant-loop-name l = Marks l.initial.search l.search (IsPlaceOf (number_in l.places) (take l.name-index l.names))
