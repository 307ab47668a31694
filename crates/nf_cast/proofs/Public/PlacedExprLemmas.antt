-- Expressions as they are written, by their forms: what they ask, and the expressions without lines and parentheses.
use Rattle.std.proofs.Common.{◌≡◌, ℕ, ℤ, true, false, List, sym, ap, subst, ◌∙◌}
use Rattle.nf_core.specs.declared.operators.BinOp.{BinOp}
use Rattle.nf_cast.specs.declared.placed.PlacedName.{PlacedName}
use Rattle.nf_cast.specs.declared.expressions.CExpr.{CExpr, fold-roll-CExpr}
use Rattle.nf_cast.specs.declared.expressions.CExpr.TheOpen as open_expr
use Rattle.nf_cast.specs.declared.expressions.CExpr.TheVariants as expr
use Rattle.nf_cast.specs.declared.placed.PlacedExpr.{PlacedExpr, PlacedExpr-F, fold-roll-PlacedExpr, ind-PlacedExpr}
use Rattle.nf_cast.specs.declared.placed.PlacedExpr.TheFolds.{map-PlacedExpr}
use Rattle.nf_cast.specs.declared.placed.PlacedExpr.TheViews.{roll-PlacedExpr}
use Rattle.nf_cast.specs.declared.placed.PlacedExpr.TheOpen as open_placed
use Rattle.nf_cast.specs.declared.placed.PlacedExpr.TheVariants as placed
use Rattle.nf_cast.specs.Placed.{strip, strip_layer, bare, bare_layer, nowhere}
use Rattle.nf_cast.specs.Book.{used, is_scalar, is_array}
use Rattle.nf_cast.specs.Rules.{Parts, parts, parts_layer, value_parts, unary_parts, binary_parts, parens_parts, same, whole}

pub parts_Lit : (line : ℕ) (n : ℤ) → parts (placed.Lit line n) ≡ value_parts line same same
unfolding parts
parts_Lit line n = ap parts (sym (placed.rolls-Lit line n)) ∙ fold-roll-PlacedExpr Parts parts_layer (open_placed.Lit line n)

pub parts_Name : (at : PlacedName) → parts (placed.Name at) ≡ value_parts at.line (used is_scalar at) same
unfolding parts
parts_Name at = ap parts (sym (placed.rolls-Name at)) ∙ fold-roll-PlacedExpr Parts parts_layer (open_placed.Name at)

pub parts_Cell : (at : PlacedName) (i : PlacedExpr) → parts (placed.Cell at i) ≡ value_parts at.line (used is_array at) (whole false (parts i))
unfolding parts
parts_Cell at i = ap parts (sym (placed.rolls-Cell at i)) ∙ fold-roll-PlacedExpr Parts parts_layer (open_placed.Cell at i)

pub parts_Neg : (line : ℕ) (a : PlacedExpr) → parts (placed.Neg line a) ≡ unary_parts false line (parts a)
unfolding parts
parts_Neg line a = ap parts (sym (placed.rolls-Neg line a)) ∙ fold-roll-PlacedExpr Parts parts_layer (open_placed.Neg line a)

pub parts_Not : (line : ℕ) (a : PlacedExpr) → parts (placed.Not line a) ≡ unary_parts true line (parts a)
unfolding parts
parts_Not line a = ap parts (sym (placed.rolls-Not line a)) ∙ fold-roll-PlacedExpr Parts parts_layer (open_placed.Not line a)

pub parts_Bin : (o : BinOp) (a : PlacedExpr) (b : PlacedExpr) → parts (placed.Bin o a b) ≡ binary_parts o (parts a) (parts b)
unfolding parts
parts_Bin o a b = ap parts (sym (placed.rolls-Bin o a b)) ∙ fold-roll-PlacedExpr Parts parts_layer (open_placed.Bin o a b)

pub parts_Parens : (line : ℕ) (a : PlacedExpr) → parts (placed.Parens line a) ≡ parens_parts line (parts a)
unfolding parts
parts_Parens line a = ap parts (sym (placed.rolls-Parens line a)) ∙ fold-roll-PlacedExpr Parts parts_layer (open_placed.Parens line a)

pub strip_Lit : (line : ℕ) (n : ℤ) → strip (placed.Lit line n) ≡ expr.Lit n
unfolding strip
strip_Lit line n = ap strip (sym (placed.rolls-Lit line n)) ∙ fold-roll-PlacedExpr CExpr strip_layer (open_placed.Lit line n)

pub strip_Name : (at : PlacedName) → strip (placed.Name at) ≡ expr.Name at.name
unfolding strip
strip_Name at = ap strip (sym (placed.rolls-Name at)) ∙ fold-roll-PlacedExpr CExpr strip_layer (open_placed.Name at)

pub strip_Cell : (at : PlacedName) (i : PlacedExpr) → strip (placed.Cell at i) ≡ expr.Cell at.name (strip i)
unfolding strip
strip_Cell at i = ap strip (sym (placed.rolls-Cell at i)) ∙ fold-roll-PlacedExpr CExpr strip_layer (open_placed.Cell at i)

pub strip_Neg : (line : ℕ) (a : PlacedExpr) → strip (placed.Neg line a) ≡ expr.Neg (strip a)
unfolding strip
strip_Neg line a = ap strip (sym (placed.rolls-Neg line a)) ∙ fold-roll-PlacedExpr CExpr strip_layer (open_placed.Neg line a)

pub strip_Not : (line : ℕ) (a : PlacedExpr) → strip (placed.Not line a) ≡ expr.Not (strip a)
unfolding strip
strip_Not line a = ap strip (sym (placed.rolls-Not line a)) ∙ fold-roll-PlacedExpr CExpr strip_layer (open_placed.Not line a)

pub strip_Bin : (o : BinOp) (a : PlacedExpr) (b : PlacedExpr) → strip (placed.Bin o a b) ≡ expr.Bin o (strip a) (strip b)
unfolding strip
strip_Bin o a b = ap strip (sym (placed.rolls-Bin o a b)) ∙ fold-roll-PlacedExpr CExpr strip_layer (open_placed.Bin o a b)

pub strip_Parens : (line : ℕ) (a : PlacedExpr) → strip (placed.Parens line a) ≡ strip a
unfolding strip
strip_Parens line a = ap strip (sym (placed.rolls-Parens line a)) ∙ fold-roll-PlacedExpr CExpr strip_layer (open_placed.Parens line a)

pub bare_Lit : (n : ℤ) → bare (expr.Lit n) ≡ placed.Lit 0 n
unfolding bare
bare_Lit n = ap bare (sym (expr.rolls-Lit n)) ∙ fold-roll-CExpr PlacedExpr bare_layer (open_expr.Lit n)

pub bare_Name : (x : List ℕ) → bare (expr.Name x) ≡ placed.Name (nowhere x)
unfolding bare
bare_Name x = ap bare (sym (expr.rolls-Name x)) ∙ fold-roll-CExpr PlacedExpr bare_layer (open_expr.Name x)

pub bare_Cell : (x : List ℕ) (i : CExpr) → bare (expr.Cell x i) ≡ placed.Cell (nowhere x) (bare i)
unfolding bare
bare_Cell x i = ap bare (sym (expr.rolls-Cell x i)) ∙ fold-roll-CExpr PlacedExpr bare_layer (open_expr.Cell x i)

pub bare_Neg : (a : CExpr) → bare (expr.Neg a) ≡ placed.Neg 0 (bare a)
unfolding bare
bare_Neg a = ap bare (sym (expr.rolls-Neg a)) ∙ fold-roll-CExpr PlacedExpr bare_layer (open_expr.Neg a)

pub bare_Not : (a : CExpr) → bare (expr.Not a) ≡ placed.Not 0 (bare a)
unfolding bare
bare_Not a = ap bare (sym (expr.rolls-Not a)) ∙ fold-roll-CExpr PlacedExpr bare_layer (open_expr.Not a)

pub bare_Bin : (o : BinOp) (a : CExpr) (b : CExpr) → bare (expr.Bin o a b) ≡ placed.Bin o (bare a) (bare b)
unfolding bare
bare_Bin o a b = ap bare (sym (expr.rolls-Bin o a b)) ∙ fold-roll-CExpr PlacedExpr bare_layer (open_expr.Bin o a b)

-- a claim of placed expressions, form by form, each from the claims of its operands
pub record ExprCases (P : PlacedExpr → Type 0) : Type 0 where
  pub literal : (line : ℕ) (n : ℤ) → P (placed.Lit line n)
  pub name : (at : PlacedName) → P (placed.Name at)
  pub cell : (at : PlacedName) (i : PlacedExpr) → P i → P (placed.Cell at i)
  pub minus : (line : ℕ) (a : PlacedExpr) → P a → P (placed.Neg line a)
  pub inverted : (line : ℕ) (a : PlacedExpr) → P a → P (placed.Not line a)
  pub binary : (o : BinOp) (a b : PlacedExpr) → P a → P b → P (placed.Bin o a b)
  pub parens : (line : ℕ) (a : PlacedExpr) → P a → P (placed.Parens line a)

module _ (P : PlacedExpr → Type 0) (cases : ExprCases P) where
  abbrev first : (a : PlacedExpr) × P a → PlacedExpr
  first pair = pair.0

  here : (y : PlacedExpr-F ((a : PlacedExpr) × P a)) → P (roll-PlacedExpr (map-PlacedExpr ((a : PlacedExpr) × P a) PlacedExpr first y))
  here (open_placed.Lit line n) = subst P (sym (placed.rolls-Lit line n)) (cases.literal line n)
  here (open_placed.Name at) = subst P (sym (placed.rolls-Name at)) (cases.name at)
  here (open_placed.Cell at i) = subst P (sym (placed.rolls-Cell at i.0)) (cases.cell at i.0 i.1)
  here (open_placed.Neg line a) = subst P (sym (placed.rolls-Neg line a.0)) (cases.minus line a.0 a.1)
  here (open_placed.Not line a) = subst P (sym (placed.rolls-Not line a.0)) (cases.inverted line a.0 a.1)
  here (open_placed.Bin o a b) = subst P (sym (placed.rolls-Bin o a.0 b.0)) (cases.binary o a.0 b.0 a.1 b.1)
  here (open_placed.Parens line a) = subst P (sym (placed.rolls-Parens line a.0)) (cases.parens line a.0 a.1)

  -- a claim that is shown form by form holds of every expression
  pub every_expr : (a : PlacedExpr) → P a
  every_expr = ind-PlacedExpr P (λ node y is. subst (λ z. P (roll-PlacedExpr z)) is (here y))
