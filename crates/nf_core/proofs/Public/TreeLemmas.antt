-- Expressions and their trees say the same.
use Rattle.std.proofs.Common.{◌≡◌, ℕ, ℤ, List, sym, ap, subst, ◌∙◌}
use Rattle.std.specs.Prelude as prelude
use Rattle.nf_core.specs.Trees as t
use Rattle.nf_core.specs.Trees.{Tree, layer, tree, expr_of}
use Rattle.nf_core.specs.declared.operators.BinOp.{BinOp}
use Rattle.nf_core.specs.declared.trees.Expr.{Expr, Expr-F, fold-roll-Expr, ind-Expr}
use Rattle.nf_core.specs.declared.trees.Expr.TheFolds.{map-Expr}
use Rattle.nf_core.specs.declared.trees.Expr.TheViews.{roll-Expr}
use Rattle.nf_core.specs.declared.trees.Expr.TheOpen as x
use Rattle.nf_core.specs.declared.trees.Expr.TheVariants as e

pub tree_Bool : (b : prelude.Bool) → tree (e.Bool b) ≡ t.Bool b
tree_Bool b = ap tree (sym (e.rolls-Bool b)) ∙ fold-roll-Expr Tree layer (x.Bool b)

pub tree_Int : (n : ℤ) → tree (e.Int n) ≡ t.Int n
tree_Int n = ap tree (sym (e.rolls-Int n)) ∙ fold-roll-Expr Tree layer (x.Int n)

pub tree_Text : (text : List ℕ) → tree (e.Text text) ≡ t.Text text
tree_Text text = ap tree (sym (e.rolls-Text text)) ∙ fold-roll-Expr Tree layer (x.Text text)

pub tree_Start : (label : List ℕ) → tree (e.Start label) ≡ t.Start label
tree_Start label = ap tree (sym (e.rolls-Start label)) ∙ fold-roll-Expr Tree layer (x.Start label)

pub tree_Stop : (label : List ℕ) → tree (e.Stop label) ≡ t.Stop label
tree_Stop label = ap tree (sym (e.rolls-Stop label)) ∙ fold-roll-Expr Tree layer (x.Stop label)

pub tree_Key : (label key : List ℕ) → tree (e.Key label key) ≡ t.Key label key
tree_Key label key = ap tree (sym (e.rolls-Key label key)) ∙ fold-roll-Expr Tree layer (x.Key label key)

pub tree_Neg : (a : Expr) → tree (e.Neg a) ≡ t.Neg (tree a)
tree_Neg a = ap tree (sym (e.rolls-Neg a)) ∙ fold-roll-Expr Tree layer (x.Neg a)

pub tree_Not : (a : Expr) → tree (e.Not a) ≡ t.Not (tree a)
tree_Not a = ap tree (sym (e.rolls-Not a)) ∙ fold-roll-Expr Tree layer (x.Not a)

pub tree_Bin : (op : BinOp) (a b : Expr) → tree (e.Bin op a b) ≡ t.Bin op (tree a) (tree b)
tree_Bin op a b = ap tree (sym (e.rolls-Bin op a b)) ∙ fold-roll-Expr Tree layer (x.Bin op a b)

-- a tree is that of its expression
pub tree_of_expr : (a : Tree) → tree (expr_of a) ≡ a
tree_of_expr (t.Bool b) = tree_Bool b
tree_of_expr (t.Int n) = tree_Int n
tree_of_expr (t.Text text) = tree_Text text
tree_of_expr (t.Start label) = tree_Start label
tree_of_expr (t.Stop label) = tree_Stop label
tree_of_expr (t.Key label key) = tree_Key label key
tree_of_expr (t.Neg a) = tree_Neg (expr_of a) ∙ ap t.Neg (tree_of_expr a)
tree_of_expr (t.Not a) = tree_Not (expr_of a) ∙ ap t.Not (tree_of_expr a)
tree_of_expr (t.Bin op a b) = tree_Bin op (expr_of a) (expr_of b) ∙ (λ i. t.Bin op (tree_of_expr a i) (tree_of_expr b i))

-- an expression is that of its tree: of one layer, where it is so for the operands
abbrev IsBack : Expr → Type 0
IsBack a = expr_of (tree a) ≡ a

abbrev first : (a : Expr) × IsBack a → Expr
first pair = pair.0

back : (y : Expr-F ((a : Expr) × IsBack a)) → IsBack (roll-Expr (map-Expr ((a : Expr) × IsBack a) Expr first y))
back (x.Bool b) = ap expr_of (fold-roll-Expr Tree layer (x.Bool b)) ∙ sym (e.rolls-Bool b)
back (x.Int n) = ap expr_of (fold-roll-Expr Tree layer (x.Int n)) ∙ sym (e.rolls-Int n)
back (x.Text text) = ap expr_of (fold-roll-Expr Tree layer (x.Text text)) ∙ sym (e.rolls-Text text)
back (x.Start label) = ap expr_of (fold-roll-Expr Tree layer (x.Start label)) ∙ sym (e.rolls-Start label)
back (x.Stop label) = ap expr_of (fold-roll-Expr Tree layer (x.Stop label)) ∙ sym (e.rolls-Stop label)
back (x.Key label key) = ap expr_of (fold-roll-Expr Tree layer (x.Key label key)) ∙ sym (e.rolls-Key label key)
back (x.Neg a) = ap expr_of (fold-roll-Expr Tree layer (x.Neg a.0)) ∙ ap e.Neg a.1 ∙ sym (e.rolls-Neg a.0)
back (x.Not a) = ap expr_of (fold-roll-Expr Tree layer (x.Not a.0)) ∙ ap e.Not a.1 ∙ sym (e.rolls-Not a.0)
back (x.Bin op a b) = ap expr_of (fold-roll-Expr Tree layer (x.Bin op a.0 b.0)) ∙ (λ i. e.Bin op (a.1 i) (b.1 i)) ∙ sym (e.rolls-Bin op a.0 b.0)

pub expr_of_tree : (a : Expr) → expr_of (tree a) ≡ a
expr_of_tree = ind-Expr IsBack (λ node y is. subst (λ z. IsBack (roll-Expr z)) is (back y))
