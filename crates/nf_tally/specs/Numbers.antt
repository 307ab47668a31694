-- A number for each of some intervals, and what came to have one or lost it.
use Rattle.std.specs.Prelude.{◌≡◌, ℕ, Bool, not, ◌&&◌, nat_lt, List, unwrap_or, count_by, if◌then◌else◌}
use Rattle.std.specs.Map.{lookup}
use Rattle.nf_core.specs.Intervals.{Interval, same}
use Rattle.nf_core.specs.Sets.{IsSet, has}
use Rattle.nf_core.specs.declared.intervals.Delta.{Delta}

-- intervals with their numbers
abbrev pub Numbers : Type 0
Numbers = List (Interval × ℕ)

-- the number of an interval, and 0 where it has none
abbrev pub number : Numbers → Interval → ℕ
number numbers q = unwrap_or (lookup (same q) numbers) 0

-- 1 at an interval, and 0 at every other one
abbrev pub one_at : Interval → Interval → ℕ
one_at i q = if same i q then 1 else 0

-- how often an interval stands in a list
abbrev pub often : List Interval → Interval → ℕ
often is q = count_by (same q) is

-- whether a number is above 0
abbrev pub is_on : ℕ → Bool
is_on n = nat_lt 0 n

-- from numbers before to numbers now: `gone` has what lost its number, and `come` what came to have one, each list sorted, each once
pub record IsNet (before now : Interval → ℕ) (delta : Delta) : Type 0 where
  pub gone_set : IsSet delta.gone
  pub come_set : IsSet delta.come
  pub gone : (q : Interval) → has delta.gone q ≡ (is_on (before q) && not (is_on (now q)))
  pub come : (q : Interval) → has delta.come q ≡ (not (is_on (before q)) && is_on (now q))
