use Rattle.nf_modules.specs.inner.Places.{number_in}
use Rattle.nf_modules.specs.inner.Search.{left_in}
use Rattle.nf_modules.proofs.WalkLemmas.{IsSearched}
use Rattle.nf_modules.proofs.search.reached_from.Given as goal

abbrev pub invariant-open : goal.invariant-open
invariant-open l = IsSearched (number_in l.places) l.modules l.root l.search

abbrev pub decreases-open : goal.decreases-open
decreases-open l = left_in l.search
