-- The row and the interval of a line under the keys of a name.
use Rattle.std.specs.Prelude.{ℕ, List, map, reverse, bytes_eq, Option}
use Rattle.std.specs.Map.{lookup}
use Rattle.nf_core.specs.Intervals.{Interval}
use Rattle.nf_core.specs.declared.values.Value as value
use Rattle.nf_line.specs.Trace.{Event}

-- each key gets the value of its last pair, or is missing
abbrev pub row_of : List (List ℕ) → List (List ℕ × value.Value) → List (Option value.Value)
row_of keys pairs = map (λ key. lookup (bytes_eq key) (reverse pairs)) keys

-- the interval that an event is under the keys of its name: its begin, its end, and the row of its pairs
abbrev pub interval_of : List (List ℕ) → Event → Interval
interval_of keys event = record { start = event.start; stop = event.stop; row = row_of keys event.pairs }
