-- How few intervals are kept.
use Rattle.std.specs.Prelude.{List, [], ◌∷◌}
use Rattle.nf_core.specs.Intervals.{Interval}
use Rattle.nf_tally.specs.declared.few.Kept.{Kept}
use Rattle.nf_tally.specs.declared.few.Kept.TheVariants.{None, One, Many}

-- none, one, or a set
abbrev pub listed : Kept → List Interval
listed None = []
listed (One i) = i ∷ []
listed (Many is) = is
