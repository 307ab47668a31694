-- Candidates in two stores, and the sources that each has besides its first one.
use Rattle.std.specs.Prelude.{◌≡◌, Bool, ◌+◌, List, ◌++◌, map}
use Rattle.nf_core.specs.Intervals.{Interval}
use Rattle.nf_tally.specs.Numbers.{Numbers, number}
use Rattle.nf_minimal.specs.inner.Judged.{IsJudged, present}

-- each of some intervals with its first source and its further ones
abbrev pub counted : Numbers → List Interval → Numbers
counted more is = map (λ i. (i, 1 + number more i)) is

-- the candidates of two stores with the numbers of their sources
abbrev pub sources_of : Numbers → List Interval → List Interval → Numbers
sources_of more held suppressed = counted more (held ++ suppressed)

-- two stores of judged candidates, of which alone further sources are counted
pub record IsStocked (full : Bool) (more : Numbers) (held suppressed : List Interval) : Type 0 where
  pub judged : IsJudged full held suppressed
  pub fewer : (q : Interval) → present held suppressed q ≡ 0 → number more q ≡ 0
