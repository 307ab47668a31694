-- What an expression has to read, and what its evaluation says of what is seen.
use Rattle.std.specs.Prelude.{◌≡◌, Option, Some, IfSome, IsTrue, All}
use Rattle.nf_core.specs.Intervals.{Interval}
use Rattle.nf_core.specs.Texts.{IsPlain}
use Rattle.nf_core.specs.Rows.{IsPlainCell}
use Rattle.nf_core.specs.Kinds.{Kind, kind_of_term, IsOfKind}
use Rattle.nf_core.specs.Expressions.{widths_of, reads_within, texts_of}
use Rattle.nf_core.specs.declared.terms.Term as term
use Rattle.nf_expr.specs.declared.seen.Seen as seen
use Rattle.nf_expr.specs.Seen.{value_seen, cell_seen}

-- an expression reads no members but these, the second one only where there is one, and keys only at places of their rows
abbrev pub ReadsWithin : Interval → Option Interval → term.Term → Type 0
ReadsWithin first second t = IsTrue (reads_within (widths_of first second) t)

-- a value that is seen is of the kind of the expression, where the expression has a kind
abbrev pub IsOfItsKind : term.Term → Option seen.Seen → Type 0
IsOfItsKind t given = (kind : Kind) → kind_of_term t ≡ Some kind → IfSome given (λ s. IsOfKind kind (value_seen s))

-- what is seen may stand in a row, where the texts of the expression are plain
abbrev pub StaysPlain : term.Term → Option seen.Seen → Type 0
StaysPlain t given = All IsPlain (texts_of t) → IsPlainCell (cell_seen given)
