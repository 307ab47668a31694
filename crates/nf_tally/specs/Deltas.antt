-- What a set of intervals lost and gained, and how that follows it.
use Rattle.std.specs.Prelude.{◌≡◌, Bool, true, false, not, ◌&&◌, ◌||◌}
use Rattle.nf_core.specs.Intervals.{Interval, same}
use Rattle.nf_core.specs.Sets.{IsSet, has}
use Rattle.nf_core.specs.declared.intervals.Delta.{Delta}

-- from a set as it was to the set as it is now, each by its members: `gone` has what it lost, and `come` what it gained, each list sorted, each once
pub record Leads (was now : Interval → Bool) (delta : Delta) : Type 0 where
  pub gone_set : IsSet delta.gone
  pub come_set : IsSet delta.come
  pub gone : (q : Interval) → has delta.gone q ≡ (was q && not (now q))
  pub come : (q : Interval) → has delta.come q ≡ (not (was q) && now q)

-- an interval enters a set that lacks it
pub record Enters (i : Interval) (now next : Interval → Bool) : Type 0 where
  pub absent : now i ≡ false
  pub next_is : (q : Interval) → next q ≡ (same i q || now q)

-- an interval leaves a set that has it
pub record Leaves (i : Interval) (now next : Interval → Bool) : Type 0 where
  pub there : now i ≡ true
  pub next_is : (q : Interval) → next q ≡ (not (same i q) && now q)

-- wherever a delta leads to a set, the next delta leads from the same beginning to the set after a step
abbrev pub Follows : ((now next : Interval → Bool) → Type 0) → (delta next_delta : Delta) → Type 0
Follows step delta next_delta =
    (was now next : Interval → Bool) → step now next → Leads was now delta → Leads was next next_delta
