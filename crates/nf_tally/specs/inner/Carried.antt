-- How a delta follows the intervals that have a number.
use Rattle.std.specs.Prelude.{Bool}
use Rattle.nf_core.specs.Intervals.{Interval}
use Rattle.nf_core.specs.declared.intervals.Delta.{Delta}
use Rattle.nf_tally.specs.Numbers.{Numbers, number, is_on}
use Rattle.nf_tally.specs.Deltas.{Leads}

-- whether an interval has a number
abbrev pub on : Numbers → Interval → Bool
on numbers q = is_on (number numbers q)

-- wherever a delta leads to the intervals with a number in one tally, the next delta leads from the same beginning to those of the next tally
abbrev pub Carries : (numbers next_numbers : Numbers) → (delta next_delta : Delta) → Type 0
Carries numbers next_numbers delta next_delta =
    (was : Interval → Bool) → Leads was (on numbers) delta → Leads was (on next_numbers) next_delta
