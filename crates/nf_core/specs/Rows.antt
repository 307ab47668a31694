-- Rows: lists of optional values, their order, and what may stand in a cell.
use Rattle.std.specs.Prelude.{List, Option, Some, None, ⊤}
use Rattle.std.specs.declared.cmp.Ordering.{Ordering}
use Rattle.std.specs.Option.{option_cmp}
use Rattle.std.specs.Cmp.{IsTotalOrder}
use Rattle.std.specs.Cmp.Lexicographic.{slice_cmp, lists_total, options_total}
use Rattle.nf_core.specs.Texts.{IsPlain}
use Rattle.nf_core.specs.Values.{value_cmp, value_cmp_total}
use Rattle.nf_core.specs.declared.values.Value as value
use Rattle.nf_core.specs.declared.values.Value.TheVariants as variant

-- the first cell that differs decides, a missing value comes first, and a row that goes on comes after one that ends
abbrev pub row_cmp : List (Option value.Value) → List (Option value.Value) → Ordering
row_cmp = slice_cmp (option_cmp value_cmp)

-- it is a total order
pub row_cmp_total : IsTotalOrder row_cmp
row_cmp_total = lists_total (options_total value_cmp_total)

-- a text in a row is plain
abbrev pub IsPlainValue : value.Value → Type 0
IsPlainValue (variant.Bool b) = ⊤
IsPlainValue (variant.Int n) = ⊤
IsPlainValue (variant.Text t) = IsPlain t

-- a missing value may stand in a cell, and so may a plain one
abbrev pub IsPlainCell : Option value.Value → Type 0
IsPlainCell None = ⊤
IsPlainCell (Some v) = IsPlainValue v
