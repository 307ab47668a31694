-- What is seen of a value.
use Rattle.std.specs.Prelude.{Option, option_map}
use Rattle.nf_core.specs.declared.values.Value as value
use Rattle.nf_core.specs.declared.values.Value.TheVariants as variant
use Rattle.nf_expr.specs.declared.seen.Seen as seen
use Rattle.nf_expr.specs.declared.seen.Seen.TheVariants as lent

-- the value that is seen; of a text its bytes
abbrev pub value_seen : seen.Seen → value.Value
value_seen (lent.Bool b) = variant.Bool b
value_seen (lent.Int n) = variant.Int n
value_seen (lent.Text t) = variant.Text t.now

-- what is seen as a cell of a row: the value, or nothing where nothing is seen
abbrev pub cell_seen : Option seen.Seen → Option value.Value
cell_seen given = option_map value_seen given
