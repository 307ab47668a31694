-- The law of a tally's entries.
use Rattle.std.specs.Prelude.{◌<◌, IfSome}
use Rattle.std.specs.Map.{lookup}
use Rattle.nf_core.specs.Intervals.{Interval, same}
use Rattle.nf_tally.specs.Numbers.{Numbers}

-- each number is above 0
abbrev pub ArePositive : Numbers → Type 0
ArePositive numbers = (q : Interval) → IfSome (lookup (same q) numbers) (λ n. 0 < n)
