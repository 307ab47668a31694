-- Candidates by their sources, and what is held of them.
use Rattle.std.specs.Prelude.{ℕ, Bool, List, map, filter}
use Rattle.nf_core.specs.Intervals.{Interval}
use Rattle.nf_core.specs.Sets.{once}
use Rattle.nf_tally.specs.Numbers.{Numbers, number, is_on}
use Rattle.nf_model.specs.Pools.{judged}

-- whether all candidates are held, and how many sources each interval has
pub record Minimal : Type 0 where
  pub full : Bool
  pub sources : Numbers

-- the candidates: the intervals with a number above 0, ascending, each once
abbrev pub candidates_of : Minimal → List Interval
candidates_of m = filter (λ i. is_on (number m.sources i)) (once (map (λ (e : Interval × ℕ). e.0) m.sources))

-- the held ones: the minimal ones, or all of them where all are held
abbrev pub held_of : Minimal → List Interval
held_of m = judged m.full (candidates_of m)
