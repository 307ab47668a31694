-- A fold over an expression goes over its tree.
use Rattle.std.proofs.Common.{◌≡◌, sym, ap, ◌∙◌}
use Rattle.nf_core.specs.Trees as t
use Rattle.nf_core.specs.Trees.{Tree, tree, expr_of}
use Rattle.nf_core.specs.declared.trees.Expr.{Expr, Expr-F, fold-Expr, fold-roll-Expr}
use Rattle.nf_core.specs.declared.trees.Expr.TheOpen as x
use Rattle.nf_core.specs.declared.trees.Expr.TheVariants as e
use Rattle.nf_core.proofs.Public.TreeLemmas.{expr_of_tree}

-- what a step makes of a tree, from its leaves up
abbrev pub fold_tree : {A : Type 0} → (Expr-F A → A) → Tree → A
fold_tree step (t.Bool b) = step (x.Bool b)
fold_tree step (t.Int n) = step (x.Int n)
fold_tree step (t.Text text) = step (x.Text text)
fold_tree step (t.Start label) = step (x.Start label)
fold_tree step (t.Stop label) = step (x.Stop label)
fold_tree step (t.Key label key) = step (x.Key label key)
fold_tree step (t.Neg a) = step (x.Neg (fold_tree step a))
fold_tree step (t.Not a) = step (x.Not (fold_tree step a))
fold_tree step (t.Bin op a b) = step (x.Bin op (fold_tree step a) (fold_tree step b))

module _ {A : Type 0} (step : Expr-F A → A) where
  abbrev folded : Expr → A
  folded = fold-Expr A step

  fold_expr_of : (a : Tree) → folded (expr_of a) ≡ fold_tree step a
  fold_expr_of (t.Bool b) = ap folded (sym (e.rolls-Bool b)) ∙ fold-roll-Expr A step (x.Bool b)
  fold_expr_of (t.Int n) = ap folded (sym (e.rolls-Int n)) ∙ fold-roll-Expr A step (x.Int n)
  fold_expr_of (t.Text text) = ap folded (sym (e.rolls-Text text)) ∙ fold-roll-Expr A step (x.Text text)
  fold_expr_of (t.Start label) = ap folded (sym (e.rolls-Start label)) ∙ fold-roll-Expr A step (x.Start label)
  fold_expr_of (t.Stop label) = ap folded (sym (e.rolls-Stop label)) ∙ fold-roll-Expr A step (x.Stop label)
  fold_expr_of (t.Key label key) = ap folded (sym (e.rolls-Key label key)) ∙ fold-roll-Expr A step (x.Key label key)
  fold_expr_of (t.Neg a) = ap folded (sym (e.rolls-Neg (expr_of a))) ∙ fold-roll-Expr A step (x.Neg (expr_of a)) ∙ (λ i. step (x.Neg (fold_expr_of a i)))
  fold_expr_of (t.Not a) = ap folded (sym (e.rolls-Not (expr_of a))) ∙ fold-roll-Expr A step (x.Not (expr_of a)) ∙ (λ i. step (x.Not (fold_expr_of a i)))
  fold_expr_of (t.Bin op a b) = ap folded (sym (e.rolls-Bin op (expr_of a) (expr_of b))) ∙ fold-roll-Expr A step (x.Bin op (expr_of a) (expr_of b)) ∙ (λ i. step (x.Bin op (fold_expr_of a i) (fold_expr_of b i)))

  pub fold_by_tree : (y : Expr) → fold-Expr A step y ≡ fold_tree step (tree y)
  fold_by_tree y = ap folded (sym (expr_of_tree y)) ∙ fold_expr_of (tree y)
