-- Every part of a clause that is true is true.
use Rattle.std.proofs.Common.{◌≡◌, Bool, true, ◌&&◌, [], ◌∷◌, ◌++◌, All, Option, Some, None, option_and_then, sym, ap, subst, ◌∙◌}
use Rattle.std.proofs.lemmas.List.Elements.{All-nil, All-cons, All-append}
use Rattle.std.proofs.lemmas.Bool.{and_parts}
use Rattle.nf_core.specs.Intervals.{Interval}
use Rattle.nf_core.specs.Expressions.{value_of, value_of_node, binary, of_bools}
use Rattle.nf_core.specs.declared.values.Value.{Value}
use Rattle.nf_core.specs.declared.values.Value.TheVariants as variant
use Rattle.nf_core.specs.declared.operators.BinOp.{BinOp}
use Rattle.nf_core.specs.declared.operators.BinOp.TheVariants as op
use Rattle.nf_core.specs.declared.terms.Term.{Term, Term-F, fold-roll-Term, map-Term, roll-Term, ind-Term}
use Rattle.nf_core.specs.declared.terms.Term.TheOpen as node
use Rattle.nf_demands.specs.Demands.{parts_of}
use Rattle.nf_demands.proofs.PartLemmas.{parts_at, rolled_parts}

truth : (b : Bool) → Some (variant.Bool b) ≡ Some (variant.Bool true) → b ≡ true
truth b e = cc

both_true : (a b : Option Value) → option_and_then (λ x. option_and_then (binary op.And x) b) a ≡ Some (variant.Bool true)
    → (a ≡ Some (variant.Bool true)) × (b ≡ Some (variant.Bool true))
unfolding binary of_bools
both_true (Some (variant.Bool p)) (Some (variant.Bool q)) e =
    let each = and_parts p q (truth (p && q) e) in (ap (λ b. Some (variant.Bool b)) each.0, ap (λ b. Some (variant.Bool b)) each.1)
both_true None b e = absurd (cc)
both_true (Some (variant.Bool p)) None e = absurd (cc)
both_true (Some (variant.Bool p)) (Some (variant.Int n)) e = absurd (cc)
both_true (Some (variant.Bool p)) (Some (variant.Text t)) e = absurd (cc)
both_true (Some (variant.Int n)) None e = absurd (cc)
both_true (Some (variant.Int n)) (Some y) e = absurd (cc)
both_true (Some (variant.Text t)) None e = absurd (cc)
both_true (Some (variant.Text t)) (Some y) e = absurd (cc)

module _ (i j : Interval) where
  abbrev IsTrueHere : Term → Type 0
  IsTrueHere t = value_of i (Some j) t ≡ Some (variant.Bool true)

  abbrev HasTrueParts : Term → Type 0
  HasTrueParts t = IsTrueHere t → All IsTrueHere (parts_of t)

  value_rolled : (n : Term-F Term) → value_of i (Some j) (roll-Term n) ≡ value_of_node i (Some j) (map-Term Term (Option Value) (value_of i (Some j)) n)
  unfolding value_of
  value_rolled n = fold-roll-Term (Option Value) (value_of_node i (Some j)) n

  one_true : (t : Term) → IsTrueHere t → All IsTrueHere (t ∷ [])
  one_true t h = All-cons IsTrueHere t [] h (All-nil IsTrueHere)

  and_true : (a b : (x : Term) × HasTrueParts x) (t : Term) → option_and_then (λ x. option_and_then (binary op.And x) (value_of i (Some j) b.0)) (value_of i (Some j) a.0) ≡ Some (variant.Bool true)
      → All IsTrueHere (parts_of a.0 ++ parts_of b.0)
  and_true a b t h = let each = both_true _ _ h in All-append IsTrueHere (parts_of a.0) (parts_of b.0) (a.1 each.0) (b.1 each.1)

  operator_true : (o : BinOp) (a b : (x : Term) × HasTrueParts x) (t : Term) → option_and_then (λ x. option_and_then (binary o x) (value_of i (Some j) b.0)) (value_of i (Some j) a.0) ≡ Some (variant.Bool true)
      → IsTrueHere t → All IsTrueHere (parts_at (node.Bin o a.0 b.0) t)
  unfolding parts_at
  operator_true op.And a b t h k = and_true a b t h
  operator_true op.Or a b t h k = one_true t k
  operator_true op.Eq a b t h k = one_true t k
  operator_true op.Ne a b t h k = one_true t k
  operator_true op.Lt a b t h k = one_true t k
  operator_true op.Le a b t h k = one_true t k
  operator_true op.Gt a b t h k = one_true t k
  operator_true op.Ge a b t h k = one_true t k
  operator_true op.Add a b t h k = one_true t k
  operator_true op.Sub a b t h k = one_true t k
  operator_true op.Mul a b t h k = one_true t k
  operator_true op.Div a b t h k = one_true t k
  operator_true op.Rem a b t h k = one_true t k

  node_true : (y : Term-F ((x : Term) × HasTrueParts x)) (t : Term)
      → value_of_node i (Some j) (map-Term Term (Option Value) (value_of i (Some j)) (map-Term ((x : Term) × HasTrueParts x) Term (λ e. e.0) y)) ≡ Some (variant.Bool true)
      → IsTrueHere t → All IsTrueHere (parts_at (map-Term ((x : Term) × HasTrueParts x) Term (λ e. e.0) y) t)
  unfolding parts_at value_of_node
  node_true (node.Bool b) t h k = one_true t k
  node_true (node.Int n) t h k = one_true t k
  node_true (node.Text text) t h k = one_true t k
  node_true (node.Start m) t h k = one_true t k
  node_true (node.Stop m) t h k = one_true t k
  node_true (node.Key m place) t h k = one_true t k
  node_true (node.Neg a) t h k = one_true t k
  node_true (node.Not a) t h k = one_true t k
  node_true (node.Bin o a b) t h k = operator_true o a b t h k

  step : (y : Term-F ((x : Term) × HasTrueParts x)) → HasTrueParts (roll-Term (map-Term ((x : Term) × HasTrueParts x) Term (λ e. e.0) y))
  step y h =
      let n = map-Term ((x : Term) × HasTrueParts x) Term (λ e. e.0) y in
      subst (All IsTrueHere) (sym (rolled_parts n)) (node_true y (roll-Term n) (sym (value_rolled n) ∙ h) h)

  pub parts_true : (t : Term) → HasTrueParts t
  parts_true = ind-Term HasTrueParts (λ x y e. subst (λ n. HasTrueParts (roll-Term n)) e (step y))
