-- What an interval of a name holds, where the intervals that were entered hold it.
use Rattle.std.specs.Prelude.{◌≡◌, ℕ, List, length, Option, Some, None, All, ⊤}
use Rattle.nf_core.specs.Texts.{IsI64, IsPlain}
use Rattle.nf_core.specs.Intervals.{Interval}
use Rattle.nf_core.specs.Plan.{Plan, keys_of}
use Rattle.nf_core.specs.declared.values.Value as value
use Rattle.nf_core.specs.declared.values.Value.TheVariants as variant
use Rattle.nf_model.specs.Levels.{Pools}

-- a cell is missing, or a truth value, or a whole number that a value may have, or a plain text
abbrev pub IsProperCell : Option value.Value → Type 0
IsProperCell None = ⊤
IsProperCell (Some (variant.Bool b)) = ⊤
IsProperCell (Some (variant.Int n)) = IsI64 n
IsProperCell (Some (variant.Text t)) = IsPlain t

-- an interval of a name with some keys: its begin and its end are numbers that a value may have, and its row has a proper cell for each key
pub record IsProper (keys : List (List ℕ)) (i : Interval) : Type 0 where
  pub start : IsI64 i.start
  pub stop : IsI64 i.stop
  pub each : length i.row ≡ length keys
  pub cells : All IsProperCell i.row

-- the intervals of each name of a plan are proper
abbrev pub AreProper : Plan → Pools → Type 0
AreProper plan lists = (n : ℕ) → All (IsProper (keys_of plan n)) (lists n)
