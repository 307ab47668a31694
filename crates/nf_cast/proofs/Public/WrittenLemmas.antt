-- An expression as it is written, by its parts.
use Rattle.std.proofs.Common.{◌≡◌, ℕ, ℤ, List, sym, ap, ◌∙◌}
use Rattle.nf_core.specs.declared.operators.BinOp.{BinOp}
use Rattle.nf_cast.specs.declared.expressions.CExpr.{CExpr, fold-roll-CExpr}
use Rattle.nf_cast.specs.declared.expressions.CExpr.TheOpen as x
use Rattle.nf_cast.specs.declared.expressions.CExpr.TheVariants as e
use Rattle.nf_cast.specs.Written.{Written, written, written_layer, literal_text, plain, element, negated, inverted, joined, as_operand, as_left, as_right}

pub written_Lit : (n : ℤ) → written (e.Lit n) ≡ plain (literal_text n)
unfolding written
written_Lit n = ap written (sym (e.rolls-Lit n)) ∙ fold-roll-CExpr Written written_layer (x.Lit n)

pub written_Name : (y : List ℕ) → written (e.Name y) ≡ plain y
unfolding written
written_Name y = ap written (sym (e.rolls-Name y)) ∙ fold-roll-CExpr Written written_layer (x.Name y)

pub written_Cell : (y : List ℕ) (i : CExpr) → written (e.Cell y i) ≡ element y (written i)
unfolding written
written_Cell y i = ap written (sym (e.rolls-Cell y i)) ∙ fold-roll-CExpr Written written_layer (x.Cell y i)

pub written_Neg : (a : CExpr) → written (e.Neg a) ≡ negated (as_operand (written a))
unfolding written
written_Neg a = ap written (sym (e.rolls-Neg a)) ∙ fold-roll-CExpr Written written_layer (x.Neg a)

pub written_Not : (a : CExpr) → written (e.Not a) ≡ inverted (as_operand (written a))
unfolding written
written_Not a = ap written (sym (e.rolls-Not a)) ∙ fold-roll-CExpr Written written_layer (x.Not a)

pub written_Bin : (o : BinOp) (a b : CExpr) → written (e.Bin o a b) ≡ joined o (as_left o (written a)) (as_right o (written b))
unfolding written
written_Bin o a b = ap written (sym (e.rolls-Bin o a b)) ∙ fold-roll-CExpr Written written_layer (x.Bin o a b)

pub ruleset written_laws = (written_Lit, written_Name, written_Cell, written_Neg, written_Not, written_Bin)
