-- Candidates in two stores: those that are held, and those that are suppressed.
use Rattle.std.specs.Prelude.{◌≡◌, ℕ, Bool, true, false, ◌||◌, List, if◌then◌else◌}
use Rattle.nf_core.specs.Intervals.{Interval}
use Rattle.nf_core.specs.Sets.{IsSet, has}
use Rattle.nf_core.specs.declared.intervals.Delta.{Delta}
use Rattle.nf_tally.specs.Deltas.{Leads}
use Rattle.nf_tally.specs.Numbers.{Numbers, number, is_on}
use Rattle.nf_minimal.specs.inner.Barred.{is_barred}

-- no held one is barred by a held one, and each suppressed one is
pub record IsJudged (full : Bool) (held suppressed : List Interval) : Type 0 where
  pub held_set : IsSet held
  pub suppressed_set : IsSet suppressed
  pub free : (q : Interval) → has held q ≡ true → is_barred full held q ≡ false
  pub barred : (q : Interval) → has suppressed q ≡ true → is_barred full held q ≡ true

-- 1 where a test is met, else 0
abbrev pub once_if : Bool → ℕ
once_if b = if b then 1 else 0

-- 1 for an interval in one of two stores, else 0
abbrev pub present : List Interval → List Interval → Interval → ℕ
present held suppressed q = once_if (has held q || has suppressed q)

-- wherever a delta leads to the one list, the next delta leads from the same beginning to the other one
abbrev pub Carries : (now next : List Interval) → (delta next_delta : Delta) → Type 0
Carries now next delta next_delta =
    (was : Interval → Bool) → Leads was (has now) delta → Leads was (has next) next_delta

-- two stores of the intervals that have a number
pub record IsKept (full : Bool) (sources : Numbers) (held suppressed : List Interval) : Type 0 where
  pub judged : IsJudged full held suppressed
  pub members : (q : Interval) → (has held q || has suppressed q) ≡ is_on (number sources q)
