-- A tally in two parts: the intervals that have a number, and what numbers are above 1.
use Rattle.std.specs.Prelude.{◌≡◌, ℕ, ◌+◌, ◌<◌, ◌^◌, false, List, map}
use Rattle.nf_core.specs.Intervals.{Interval}
use Rattle.nf_core.specs.Sets.{IsSet, has}
use Rattle.nf_tally.specs.Numbers.{Numbers, number}

-- the intervals with their numbers
abbrev pub counted : List Interval → Numbers → Numbers
counted known beyond = map (λ i. (i, number beyond i + 1)) known

-- the intervals are a set, no other interval is counted, and each number fits a u128
pub record AreCounted (known : List Interval) (beyond : Numbers) : Type 0 where
  pub sorted : IsSet known
  pub only : (q : Interval) → has known q ≡ false → number beyond q ≡ 0
  pub fits : (q : Interval) → number beyond q + 1 < 2 ^ 128
