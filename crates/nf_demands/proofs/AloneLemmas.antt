-- The value of an expression that doesn't read a member is the same whatever that member is.
use Rattle.std.proofs.Common.{◌≡◌, ℕ, zero, suc, Bool, true, false, ◌||◌, Option, Some, None, option_and_then, refl, sym, ap, subst, ◌∙◌}
use Rattle.std.specs.Prelude.{◌==◌, slice_index_or}
use Rattle.nf_core.specs.Intervals.{Interval}
use Rattle.nf_core.specs.Expressions.{member, value_of, value_of_node, negated, inverted, binary}
use Rattle.nf_core.specs.declared.values.Value.{Value}
use Rattle.nf_core.specs.declared.values.Value.TheVariants as variant
use Rattle.nf_core.specs.declared.terms.Term.{Term, Term-F, fold-roll-Term, map-Term, roll-Term, ind-Term}
use Rattle.nf_core.specs.declared.terms.Term.TheOpen as node
use Rattle.nf_demands.specs.Alone.{reads, reads_at_node, IsTrueOfFirst, IsTrueOfSecond}

reads_rolled : (m : ℕ) (n : Term-F Term) → reads m (roll-Term n) ≡ reads_at_node m (map-Term Term Bool (reads m) n)
unfolding reads
reads_rolled m n = fold-roll-Term Bool (reads_at_node m) n

value_rolled : (i : Interval) (j : Option Interval) (n : Term-F Term) → value_of i j (roll-Term n) ≡ value_of_node i j (map-Term Term (Option Value) (value_of i j) n)
unfolding value_of
value_rolled i j n = fold-roll-Term (Option Value) (value_of_node i j) n

neither : (a b : Bool) → (a || b) ≡ false → (a ≡ false) × (b ≡ false)
neither false false e = (refl, refl)
neither false true e = absurd (cc)
neither true b e = absurd (cc)

-- two pairs of members that agree on all members but one
module _ (m : ℕ) (i : Interval) (j : Option Interval) (k : Interval) (l : Option Interval) (agree : (n : ℕ) → (n == m) ≡ false → member i j n ≡ member k l n) where
  abbrev IsSame : Term → Type 0
  IsSame t = reads m t ≡ false → value_of i j t ≡ value_of k l t

  of_member : (f : Interval → Option Value) (n : ℕ) → (n == m) ≡ false → option_and_then f (member i j n) ≡ option_and_then f (member k l n)
  of_member f n h = ap (option_and_then f) (agree n h)

  node_same : (y : Term-F ((x : Term) × IsSame x)) → reads_at_node m (map-Term Term Bool (reads m) (map-Term ((x : Term) × IsSame x) Term (λ e. e.0) y)) ≡ false
      → value_of_node i j (map-Term Term (Option Value) (value_of i j) (map-Term ((x : Term) × IsSame x) Term (λ e. e.0) y))
      ≡ value_of_node k l (map-Term Term (Option Value) (value_of k l) (map-Term ((x : Term) × IsSame x) Term (λ e. e.0) y))
  unfolding reads_at_node value_of_node
  node_same (node.Bool b) h = refl
  node_same (node.Int n) h = refl
  node_same (node.Text t) h = refl
  node_same (node.Start n) h = of_member (λ (x : Interval). Some (variant.Int x.start)) n h
  node_same (node.Stop n) h = of_member (λ (x : Interval). Some (variant.Int x.stop)) n h
  node_same (node.Key n place) h = of_member (λ (x : Interval). slice_index_or x.row place None) n h
  node_same (node.Neg a) h = ap (option_and_then negated) (a.1 h)
  node_same (node.Not a) h = ap (option_and_then inverted) (a.1 h)
  node_same (node.Bin o a b) h =
      let each = neither _ _ h in
      let left = a.1 each.0 in
      let right = b.1 each.1 in
      (λ q. option_and_then (λ x. option_and_then (binary o x) (right q)) (left q))

  step : (y : Term-F ((x : Term) × IsSame x)) → IsSame (roll-Term (map-Term ((x : Term) × IsSame x) Term (λ e. e.0) y))
  step y h = value_rolled i j _ ∙ node_same y (sym (reads_rolled m _) ∙ h) ∙ sym (value_rolled k l _)

  same_value : (t : Term) → IsSame t
  same_value = ind-Term IsSame (λ x y e. subst (λ n. IsSame (roll-Term n)) e (step y))

first_alone : (i : Interval) (j k : Option Interval) (n : ℕ) → (n == 1) ≡ false → member i j n ≡ member i k n
unfolding member
first_alone i j k zero h = refl
first_alone i j k (suc zero) h = absurd (cc)
first_alone i j k (suc (suc n)) h = refl

second_alone : (i k : Interval) (j : Option Interval) (n : ℕ) → (n == 0) ≡ false → member i j n ≡ member k j n
unfolding member
second_alone i k j zero h = absurd (cc)
second_alone i k j (suc zero) h = refl
second_alone i k j (suc (suc n)) h = refl

pub true_of_first : (t : Term) (i : Interval) (j : Option Interval) → reads 1 t ≡ false → value_of i j t ≡ Some (variant.Bool true) → IsTrueOfFirst t i
true_of_first t i j h e other = same_value 1 i other i j (first_alone i other j) t h ∙ e

pub true_of_second : (t : Term) (i j : Interval) → reads 0 t ≡ false → value_of i (Some j) t ≡ Some (variant.Bool true) → IsTrueOfSecond t j
true_of_second t i j h e other = same_value 0 other (Some j) i (Some j) (second_alone other i (Some j)) t h ∙ e
