-- Keys of members.
use Rattle.std.specs.Prelude.{ℕ, nat_lt, IsTrue, Option, None, option_and_then, slice_index, slice_index_or}
use Rattle.nf_core.specs.Intervals.{Interval}
use Rattle.nf_core.specs.Expressions.{member, widths_of}
use Rattle.nf_core.specs.declared.values.Value as value

-- the cell at a place of a member's row, where there is such a member
abbrev pub cell_at : Interval → Option Interval → ℕ → ℕ → Option value.Value
cell_at first second number place = option_and_then (λ (i : Interval). slice_index_or i.row place None) (member first second number)

-- the row of a member has this place
abbrev pub HasPlace : Interval → Option Interval → ℕ → ℕ → Type 0
HasPlace first second number place = IsTrue (nat_lt place (slice_index (widths_of first second) number))
