-- What a sorted list of intervals lost and gained, and what it was before.
use Rattle.std.specs.Prelude.{◌≡◌, true, false, not, List, filter, fold}
use Rattle.nf_core.specs.Intervals.{Interval}
use Rattle.nf_core.specs.Sets.{IsSet, has, inserted}
use Rattle.nf_core.specs.declared.intervals.Delta.{Delta}

-- a delta that led to a list: its lists ascend and have each interval once; nothing that went is in the list, and all that came is
pub record IsDelta (now : List Interval) (delta : Delta) : Type 0 where
  pub gone_set : IsSet delta.gone
  pub come_set : IsSet delta.come
  pub gone_absent : (q : Interval) → has delta.gone q ≡ true → has now q ≡ false
  pub come_there : (q : Interval) → has delta.come q ≡ true → has now q ≡ true

-- the list before a delta: without what came, and with what went
abbrev pub before : Delta → List Interval → List Interval
before delta now = fold (λ set i. inserted i set) (filter (λ i. not (has delta.come i)) now) delta.gone
