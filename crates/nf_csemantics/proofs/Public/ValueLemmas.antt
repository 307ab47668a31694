-- The values of expressions, form by form.
use Rattle.std.proofs.Common.{◌≡◌, ℤ, sym, ap, ◌∙◌}
use Rattle.nf_core.specs.declared.operators.BinOp.{BinOp}
use Rattle.nf_cast.specs.declared.expressions.CExpr.{CExpr, fold-roll-CExpr}
use Rattle.nf_cast.specs.declared.expressions.CExpr.TheOpen as e
use Rattle.nf_cast.specs.declared.expressions.CExpr.TheVariants as expr
use Rattle.nf_csemantics.specs.States.{Name, State}
use Rattle.nf_csemantics.specs.Values.{Value, value_of, value_layer}

pub value_Lit : (n : ℤ) → value_of (expr.Lit n) ≡ value_layer (e.Lit n)
unfolding value_of
value_Lit n = ap value_of (sym (expr.rolls-Lit n)) ∙ fold-roll-CExpr (State → Value) value_layer (e.Lit n)

pub value_Name : (x : Name) → value_of (expr.Name x) ≡ value_layer (e.Name x)
unfolding value_of
value_Name x = ap value_of (sym (expr.rolls-Name x)) ∙ fold-roll-CExpr (State → Value) value_layer (e.Name x)

pub value_Cell : (x : Name) (index : CExpr) → value_of (expr.Cell x index) ≡ value_layer (e.Cell x (value_of index))
unfolding value_of
value_Cell x index = ap value_of (sym (expr.rolls-Cell x index)) ∙ fold-roll-CExpr (State → Value) value_layer (e.Cell x index)

pub value_Neg : (a : CExpr) → value_of (expr.Neg a) ≡ value_layer (e.Neg (value_of a))
unfolding value_of
value_Neg a = ap value_of (sym (expr.rolls-Neg a)) ∙ fold-roll-CExpr (State → Value) value_layer (e.Neg a)

pub value_Not : (a : CExpr) → value_of (expr.Not a) ≡ value_layer (e.Not (value_of a))
unfolding value_of
value_Not a = ap value_of (sym (expr.rolls-Not a)) ∙ fold-roll-CExpr (State → Value) value_layer (e.Not a)

pub value_Bin : (o : BinOp) (a b : CExpr) → value_of (expr.Bin o a b) ≡ value_layer (e.Bin o (value_of a) (value_of b))
unfolding value_of
value_Bin o a b = ap value_of (sym (expr.rolls-Bin o a b)) ∙ fold-roll-CExpr (State → Value) value_layer (e.Bin o a b)

pub ruleset value_laws = (value_Lit, value_Name, value_Cell, value_Neg, value_Not, value_Bin)
