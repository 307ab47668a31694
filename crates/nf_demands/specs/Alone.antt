-- Tests of one member alone.
use Rattle.std.specs.Prelude.{◌≡◌, ℕ, Bool, false, true, ◌||◌, ◌==◌, Some, Option}
use Rattle.nf_core.specs.Intervals.{Interval}
use Rattle.nf_core.specs.Expressions.{value_of}
use Rattle.nf_core.specs.declared.values.Value.TheVariants as variant
use Rattle.nf_core.specs.declared.terms.Term as term
use Rattle.nf_core.specs.declared.terms.Term.TheOpen as node
use Rattle.nf_core.specs.declared.terms.Term.TheFolds.{fold-Term}

-- whether a node reads a member, given whether its operands do
unfoldable pub reads_at_node : ℕ → node.Term-F Bool → Bool
reads_at_node m (node.Start n) = n == m
reads_at_node m (node.Stop n) = n == m
reads_at_node m (node.Key n place) = n == m
reads_at_node m (node.Neg a) = a
reads_at_node m (node.Not a) = a
reads_at_node m (node.Bin o a b) = a || b
reads_at_node m literal = false

-- whether an expression reads the begin, the end or a key of a member, 0 the first and 1 the second
unfoldable pub reads : ℕ → term.Term → Bool
reads m = fold-Term Bool (reads_at_node m)

-- an expression is true of a first member, whatever the second is and also where there is none
abbrev pub IsTrueOfFirst : term.Term → Interval → Type 0
IsTrueOfFirst t i = (other : Option Interval) → value_of i other t ≡ Some (variant.Bool true)

-- an expression is true of a second member, whatever the first is
abbrev pub IsTrueOfSecond : term.Term → Interval → Type 0
IsTrueOfSecond t j = (other : Interval) → value_of other (Some j) t ≡ Some (variant.Bool true)
