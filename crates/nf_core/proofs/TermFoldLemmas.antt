-- The equations of folds over terms, one for each form.
use Rattle.std.proofs.Common.{◌≡◌, ℕ, ℤ, List, sym, ap, ◌∙◌}
use Rattle.std.specs.Prelude as prelude
use Rattle.nf_core.specs.declared.operators.BinOp.{BinOp}
use Rattle.nf_core.specs.declared.terms.Term.{Term, Term-F, fold-Term, fold-roll-Term}
use Rattle.nf_core.specs.declared.terms.Term.TheOpen as n
use Rattle.nf_core.specs.declared.terms.Term.TheVariants as t

module _ (A : Type 0) (step : Term-F A → A) where
  pub fold_Bool : (b : prelude.Bool) → fold-Term A step (t.Bool b) ≡ step (n.Bool b)
  fold_Bool b = ap (fold-Term A step) (sym (t.rolls-Bool b)) ∙ fold-roll-Term A step (n.Bool b)

  pub fold_Int : (k : ℤ) → fold-Term A step (t.Int k) ≡ step (n.Int k)
  fold_Int k = ap (fold-Term A step) (sym (t.rolls-Int k)) ∙ fold-roll-Term A step (n.Int k)

  pub fold_Text : (text : List ℕ) → fold-Term A step (t.Text text) ≡ step (n.Text text)
  fold_Text text = ap (fold-Term A step) (sym (t.rolls-Text text)) ∙ fold-roll-Term A step (n.Text text)

  pub fold_Start : (m : ℕ) → fold-Term A step (t.Start m) ≡ step (n.Start m)
  fold_Start m = ap (fold-Term A step) (sym (t.rolls-Start m)) ∙ fold-roll-Term A step (n.Start m)

  pub fold_Stop : (m : ℕ) → fold-Term A step (t.Stop m) ≡ step (n.Stop m)
  fold_Stop m = ap (fold-Term A step) (sym (t.rolls-Stop m)) ∙ fold-roll-Term A step (n.Stop m)

  pub fold_Key : (m place : ℕ) → fold-Term A step (t.Key m place) ≡ step (n.Key m place)
  fold_Key m place = ap (fold-Term A step) (sym (t.rolls-Key m place)) ∙ fold-roll-Term A step (n.Key m place)

  pub fold_Neg : (a : Term) → fold-Term A step (t.Neg a) ≡ step (n.Neg (fold-Term A step a))
  fold_Neg a = ap (fold-Term A step) (sym (t.rolls-Neg a)) ∙ fold-roll-Term A step (n.Neg a)

  pub fold_Not : (a : Term) → fold-Term A step (t.Not a) ≡ step (n.Not (fold-Term A step a))
  fold_Not a = ap (fold-Term A step) (sym (t.rolls-Not a)) ∙ fold-roll-Term A step (n.Not a)

  pub fold_Bin : (o : BinOp) (a b : Term) → fold-Term A step (t.Bin o a b) ≡ step (n.Bin o (fold-Term A step a) (fold-Term A step b))
  fold_Bin o a b = ap (fold-Term A step) (sym (t.rolls-Bin o a b)) ∙ fold-roll-Term A step (n.Bin o a b)
