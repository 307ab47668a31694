-- Expressions within the limits, in the parts of a rule.
use Rattle.nf_core.specs.Trees.{tree, IsWithinLimits}
use Rattle.nf_core.specs.declared.trees.Expr.{Expr}
use Rattle.nf_core.specs.declared.trees.Entry.{Entry}

-- an expression is within the limits
abbrev pub IsLimited : Expr → Type 0
IsLimited x = IsWithinLimits (tree x)

-- the value of an entry is within the limits
abbrev pub HasLimitedValue : Entry → Type 0
HasLimitedValue entry = IsLimited entry.value
