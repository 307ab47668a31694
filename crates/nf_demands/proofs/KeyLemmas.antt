-- Where a part with equal keys is true, the cells are there and are the same.
use Rattle.std.proofs.Common.{◌≡◌, ℕ, zero, suc, Bool, true, false, Option, Some, None, option_and_then, refl, sym, ap, subst, ◌∙◌}
use Rattle.std.specs.Prelude.{slice_index_or}
use Rattle.std.specs.Ordering.{bool_cmp}
use Rattle.std.specs.declared.cmp.Ordering.TheVariants.{Equal}
use Rattle.std.proofs.lemmas.Map.Lookups.{exact_bytes, exact_signed}
use Rattle.std.proofs.lemmas.Option.{same_Some, option_and_then_some}
use Rattle.nf_core.proofs.Public.SameIntervalLemmas.{is_equal}
use Rattle.nf_core.specs.Intervals.{Interval}
use Rattle.nf_core.specs.Values.{value_cmp}
use Rattle.nf_core.specs.Expressions.{member, value_of, value_of_node, binary}
use Rattle.nf_core.specs.declared.values.Value.{Value}
use Rattle.nf_core.specs.declared.values.Value.TheVariants as variant
use Rattle.nf_core.specs.declared.operators.BinOp.{BinOp}
use Rattle.nf_core.specs.declared.operators.BinOp.TheVariants as op
use Rattle.nf_core.specs.declared.terms.Term.{Term, Term-F, fold_out-Term, map-Term, out-Term}
use Rattle.nf_core.specs.declared.terms.Term.TheOpen as node
use Rattle.nf_demands.specs.declared.keys.SameKeys.{SameKeys}
use Rattle.nf_demands.specs.Keys.{AreSameKeys, key_at_node, key_of, same_keys, keys_of_sides, keys_at_node, keys_of}

value_by_node : (i : Interval) (j : Option Interval) (t : Term) → value_of i j t ≡ value_of_node i j (map-Term Term (Option Value) (value_of i j) (out-Term t))
unfolding value_of
value_by_node i j t = fold_out-Term (Option Value) (value_of_node i j) t

exact_truth : (a b : Bool) → bool_cmp a b ≡ Equal → a ≡ b
exact_truth false false e = refl
exact_truth false true e = absurd (cc)
exact_truth true false e = absurd (cc)
exact_truth true true e = refl

-- values that compare equal are the same
exact_value : (x y : Value) → value_cmp x y ≡ Equal → x ≡ y
exact_value (variant.Bool a) (variant.Bool b) e = ap variant.Bool (exact_truth a b e)
exact_value (variant.Bool a) (variant.Int n) e = absurd (cc)
exact_value (variant.Bool a) (variant.Text t) e = absurd (cc)
exact_value (variant.Int n) (variant.Bool b) e = absurd (cc)
exact_value (variant.Int m) (variant.Int n) e = ap variant.Int (exact_signed m n e)
exact_value (variant.Int n) (variant.Text t) e = absurd (cc)
exact_value (variant.Text s) (variant.Bool b) e = absurd (cc)
exact_value (variant.Text s) (variant.Int n) e = absurd (cc)
exact_value (variant.Text s) (variant.Text t) e = ap variant.Text (exact_bytes s t e)

truth : (b : Bool) → Some (variant.Bool b) ≡ Some (variant.Bool true) → b ≡ true
truth b e = cc

module _ (i j : Interval) where
  abbrev value : Term → Option Value
  value t = value_of i (Some j) t

  -- the value of a key
  cell : ℕ × ℕ → Option Value
  cell k = option_and_then (λ (x : Interval). slice_index_or x.row k.1 None) (member i (Some j) k.0)

  key_node : (n : Term-F Term) (k : ℕ × ℕ) → key_at_node n ≡ Some k → value_of_node i (Some j) (map-Term Term (Option Value) (value_of i (Some j)) n) ≡ cell k
  unfolding key_at_node value_of_node cell
  key_node (node.Bool b) k e = absurd (cc)
  key_node (node.Int n) k e = absurd (cc)
  key_node (node.Text t) k e = absurd (cc)
  key_node (node.Start m) k e = absurd (cc)
  key_node (node.Stop m) k e = absurd (cc)
  key_node (node.Key m place) k e = ap cell (same_Some (m, place) k e)
  key_node (node.Neg a) k e = absurd (cc)
  key_node (node.Not a) k e = absurd (cc)
  key_node (node.Bin o a b) k e = absurd (cc)

  key_value : (t : Term) (k : ℕ × ℕ) → key_of t ≡ Some k → value t ≡ cell k
  unfolding key_of
  key_value t k e = value_by_node i (Some j) t ∙ key_node (out-Term t) k e

  equal_values : (a b : Option Value) → option_and_then (λ x. option_and_then (binary op.Eq x) b) a ≡ Some (variant.Bool true) → (v : Value) × (a ≡ Some v) × (b ≡ Some v)
  unfolding binary
  equal_values None b e = absurd (cc)
  equal_values (Some x) None e = absurd (cc)
  equal_values (Some x) (Some y) e = (x, refl, ap Some (sym (exact_value x y (is_equal _ (truth _ e)))))

  -- a pair of keys of which one is of the first member and the other of the second
  same_met : (m p n q : ℕ) (keys : SameKeys) → same_keys (m, p) (n, q) ≡ Some keys → (v : Value) → cell (m, p) ≡ Some v → cell (n, q) ≡ Some v → AreSameKeys keys i j
  unfolding same_keys cell member
  same_met zero p zero q keys e v f g = absurd (cc)
  same_met zero p (suc zero) q keys e v f g =
      subst (λ (k : SameKeys). AreSameKeys k i j) (same_Some (record { first = p; second = q }) keys e) (record { value = v; first = f; second = g })
  same_met zero p (suc (suc n)) q keys e v f g = absurd (cc)
  same_met (suc zero) p zero q keys e v f g =
      subst (λ (k : SameKeys). AreSameKeys k i j) (same_Some (record { first = q; second = p }) keys e) (record { value = v; first = g; second = f })
  same_met (suc zero) p (suc zero) q keys e v f g = absurd (cc)
  same_met (suc zero) p (suc (suc n)) q keys e v f g = absurd (cc)
  same_met (suc (suc m)) p n q keys e v f g = absurd (cc)

  sides_node : (o : BinOp) (a b : Term) (keys : SameKeys) → keys_of_sides o (key_of a) (key_of b) ≡ Some keys
      → option_and_then (λ x. option_and_then (binary o x) (value b)) (value a) ≡ Some (variant.Bool true) → AreSameKeys keys i j
  unfolding keys_of_sides
  sides_node op.Eq a b keys e t =
      option_and_then_some (λ x. option_and_then (same_keys x) (key_of b)) (key_of a) keys e (λ x p f.
      option_and_then_some (same_keys x) (key_of b) keys f (λ y q g.
      let both = equal_values (value a) (value b) t in
      same_met x.0 x.1 y.0 y.1 keys g both.0 (sym (key_value a x p) ∙ both.1) (sym (key_value b y q) ∙ both.2)))
  sides_node o a b keys e t = absurd (cc)

  keys_node : (n : Term-F Term) (keys : SameKeys) → keys_at_node n ≡ Some keys
      → value_of_node i (Some j) (map-Term Term (Option Value) (value_of i (Some j)) n) ≡ Some (variant.Bool true) → AreSameKeys keys i j
  unfolding keys_at_node value_of_node
  keys_node (node.Bin o a b) keys e t = sides_node o a b keys e t
  keys_node n keys e t = absurd (cc)

  pub keys_met : (t : Term) (keys : SameKeys) → keys_of t ≡ Some keys → value t ≡ Some (variant.Bool true) → AreSameKeys keys i j
  unfolding keys_of
  keys_met t keys e is = keys_node (out-Term t) keys e (sym (value_by_node i (Some j) t) ∙ is)
