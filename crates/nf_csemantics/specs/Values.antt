-- The values of expressions, from left to right, over numbers of int64.
use Rattle.std.specs.Prelude.{ℤ, pos, negsuc, ◌+ℤ◌, ◌-ℤ◌, ◌*ℤ◌, neg_ℤ, int_lt, int_le, int_div, int_rem, Bool, not, Option, Some, None, Result, Ok, Err, List, [], ◌∷◌, slice_get, if◌then◌else◌}
use Rattle.std.specs.Ordering.{int_eq}
use Rattle.nf_core.specs.Texts.{is_i64}
use Rattle.nf_core.specs.declared.operators.BinOp.{BinOp}
use Rattle.nf_core.specs.declared.operators.BinOp.TheVariants as op
use Rattle.nf_cast.specs.declared.expressions.CExpr.{CExpr, CExpr-F, fold-CExpr}
use Rattle.nf_cast.specs.declared.expressions.CExpr.TheOpen as e
use Rattle.nf_csemantics.specs.declared.causes.Cause.{Cause}
use Rattle.nf_csemantics.specs.declared.causes.Cause.TheVariants as cause
use Rattle.nf_csemantics.specs.States.{State, variable}

-- a value, or why it is stuck
abbrev pub Value : Type 0
Value = Result ℤ Cause

-- what follows a value; a cause ends all
abbrev pub and_then : {A B : Type 0} → Result A Cause → (A → Result B Cause) → Result B Cause
and_then (Ok x) f = f x
and_then (Err why) f = Err why

-- a number of int64; another one is stuck
abbrev pub in_range : ℤ → Value
in_range n = if is_i64 n then Ok n else Err cause.Range

-- a condition as a number
abbrev pub truth : Bool → ℤ
truth b = if b then pos 1 else pos 0

-- whether a number is a condition that holds
abbrev pub is_met : ℤ → Bool
is_met n = not (int_eq n (pos 0))

-- a quotient or a remainder; a zero divisor is stuck, and so is a quotient outside int64, at a remainder too
abbrev pub divided : (ℤ → ℤ → ℤ) → ℤ → ℤ → Value
divided f m n = if int_eq n (pos 0) then Err cause.Zero else and_then (in_range (int_div m n)) (λ q. Ok (f m n))

-- the value that `&&` or `||` has by its left side alone
abbrev pub early : BinOp → ℤ → Option ℤ
early op.Or m = if is_met m then Some (pos 1) else None
early op.And m = if is_met m then None else Some (pos 0)
early o m = None

-- the value of an operator, given those of its two sides; `/` truncates toward zero, and `%` has the dividend's sign
abbrev pub operated : BinOp → ℤ → ℤ → Value
operated op.Or m n = Ok (truth (is_met n))
operated op.And m n = Ok (truth (is_met n))
operated op.Eq m n = Ok (truth (int_eq m n))
operated op.Ne m n = Ok (truth (not (int_eq m n)))
operated op.Lt m n = Ok (truth (int_lt m n))
operated op.Le m n = Ok (truth (int_le m n))
operated op.Gt m n = Ok (truth (int_lt n m))
operated op.Ge m n = Ok (truth (int_le n m))
operated op.Add m n = in_range (m +ℤ n)
operated op.Sub m n = in_range (m -ℤ n)
operated op.Mul m n = in_range (m *ℤ n)
operated op.Div m n = divided int_div m n
operated op.Rem m n = divided int_rem m n

-- the value of an operator, given that of its left side: the right side is evaluated where the left one doesn't decide
abbrev pub operated_after : BinOp → ℤ → Option ℤ → Value → Value
operated_after o m (Some n) right = Ok n
operated_after o m None right = and_then right (operated o m)

-- the cell of an array at an index; an index outside is stuck
abbrev pub cell_at : List ℤ → ℤ → Value
cell_at cells (pos n) = by (slice_get cells n)
  where
    by : Option ℤ → Value
    by (Some v) = Ok v
    by None = Err cause.Index
cell_at cells (negsuc n) = Err cause.Index

-- the value of one node, given those of its parts
abbrev pub value_layer : CExpr-F (State → Value) → State → Value
value_layer (e.Lit n) s = Ok n
value_layer (e.Name x) s = Ok (variable s x)
value_layer (e.Cell x index) s = and_then (index s) (cell_at (s.world.objects x))
value_layer (e.Neg a) s = and_then (a s) (λ n. in_range (neg_ℤ n))
value_layer (e.Not a) s = and_then (a s) (λ n. Ok (truth (not (is_met n))))
value_layer (e.Bin o a b) s = and_then (a s) (λ m. operated_after o m (early o m) (b s))

-- the value of an expression
unfoldable pub value_of : CExpr → State → Value
value_of = fold-CExpr (State → Value) value_layer

-- the values of arguments, in their order
abbrev pub values_of : List CExpr → State → Result (List ℤ) Cause
values_of [] s = Ok []
values_of (a ∷ rest) s = and_then (value_of a s) (λ n. and_then (values_of rest s) (λ ns. Ok (n ∷ ns)))
