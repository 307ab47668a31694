-- What every event of a trace holds.
use Rattle.std.specs.Prelude.{◌≡◌, ℕ, ℤ, ◌≤ℤ◌, false, List, All}
use Rattle.nf_core.specs.Texts.{IsI64}
use Rattle.nf_core.specs.Rows.{IsPlainValue}
use Rattle.nf_core.specs.declared.values.Value.{Value}
use Rattle.nf_core.specs.declared.values.Value.TheVariants as variant
use Rattle.nf_line.specs.Line.{holds_bar}
use Rattle.nf_line.specs.Trace.{Event}

-- a value that a row can hold: it is plain, and where it is a whole number it is one that a value may have
pub record IsProperValue (x : Value) : Type 0 where
  pub plain : IsPlainValue x
  pub number : (n : ℤ) → x ≡ variant.Int n → IsI64 n

-- an event of which an interval can be made: its name holds no `|`, it begins and ends at numbers that a value may have, begins no later than it ends, and has such values
pub record IsProperEvent (event : Event) : Type 0 where
  pub name : holds_bar event.name ≡ false
  pub start : IsI64 event.start
  pub stop : IsI64 event.stop
  pub within : event.start ≤ℤ event.stop
  pub pairs : All (λ (pair : List ℕ × Value). IsProperValue pair.1) event.pairs
