-- A value of an expression is proper where its texts are plain and its numbers and those of its members are ones that a value may have.
use Rattle.std.proofs.Common.{◌≡◌, ℕ, zero, suc, ℤ, Bool, true, false, cond, ◌&&◌, List, [], length, All, Option, Some, None, IfSome, option_and_then, refl, sym, subst, rules, tests, inl, inr}
use Rattle.std.specs.Prelude.{int_le, slice_index_or}
use Rattle.std.proofs.lemmas.Bool.{and_parts, cases_lt}
use Rattle.std.proofs.lemmas.List.{get_or_past}
use Rattle.std.proofs.lemmas.List.Elements.{All-head}
use Rattle.nf_core.specs.Texts.{IsI64, IsPlain, int_least, int_greatest}
use Rattle.nf_core.specs.Intervals.{Interval}
use Rattle.nf_core.specs.Expressions.{in_range, of_ints, of_bools, binary, negated, inverted, member, value_of_node, value_of, texts_at_node, texts_of, numbers_at_node, numbers_of}
use Rattle.nf_core.specs.declared.values.Value.{Value}
use Rattle.nf_core.specs.declared.values.Value.TheVariants as v
use Rattle.nf_core.specs.declared.operators.BinOp.{BinOp}
use Rattle.nf_core.specs.declared.operators.BinOp.TheVariants as op
use Rattle.nf_core.specs.declared.terms.Term.{Term, Term-F, fold-Term, fold_out-Term, map-Term, out-Term}
use Rattle.nf_core.specs.declared.terms.Term.TheOpen as node
use Rattle.nf_model.specs.ProperRows.{IsProperCell}

-- a number within the range
in_range_proper : (n : ℤ) → IsProperCell (in_range n)
unfolding in_range
in_range_proper n = at (int_le int_least n && int_le n int_greatest) refl
  where
    at : (b : Bool) → (int_le int_least n && int_le n int_greatest) ≡ b → IsProperCell (cond b (Some (v.Int n)) None)
    at true e = let p = and_parts (int_le int_least n) (int_le n int_greatest) e in record { low = search (rules, tests, p.0); high = search (rules, tests, p.1) }
    at false e = tt

unless : (b : Bool) (o : Option Value) → IsProperCell o → IsProperCell (cond b None o)
unless true o h = tt
unless false o h = h

of_ints_proper : (f : ℤ → ℤ → Option Value) → ((m n : ℤ) → IsProperCell (f m n)) → (a b : Value) → IsProperCell (of_ints f a b)
unfolding of_ints
of_ints_proper f h (v.Int m) (v.Int n) = h m n
of_ints_proper f h (v.Int m) (v.Bool b) = tt
of_ints_proper f h (v.Int m) (v.Text t) = tt
of_ints_proper f h (v.Bool a) b = tt
of_ints_proper f h (v.Text t) b = tt

of_bools_proper : (f : Bool → Bool → Bool) (a b : Value) → IsProperCell (of_bools f a b)
unfolding of_bools
of_bools_proper f (v.Bool a) (v.Bool b) = tt
of_bools_proper f (v.Bool a) (v.Int n) = tt
of_bools_proper f (v.Bool a) (v.Text t) = tt
of_bools_proper f (v.Int n) b = tt
of_bools_proper f (v.Text t) b = tt

-- each operator gives proper values, whatever its operands are
binary_proper : (o : BinOp) (a b : Value) → IsProperCell (binary o a b)
unfolding binary
binary_proper op.Or a b = of_bools_proper _ a b
binary_proper op.And a b = of_bools_proper _ a b
binary_proper op.Eq a b = tt
binary_proper op.Ne a b = tt
binary_proper op.Lt a b = of_ints_proper _ (λ m n. tt) a b
binary_proper op.Le a b = of_ints_proper _ (λ m n. tt) a b
binary_proper op.Gt a b = of_ints_proper _ (λ m n. tt) a b
binary_proper op.Ge a b = of_ints_proper _ (λ m n. tt) a b
binary_proper op.Add a b = of_ints_proper _ (λ m n. in_range_proper _) a b
binary_proper op.Sub a b = of_ints_proper _ (λ m n. in_range_proper _) a b
binary_proper op.Mul a b = of_ints_proper _ (λ m n. in_range_proper _) a b
binary_proper op.Div a b = of_ints_proper _ (λ m n. unless _ _ (in_range_proper _)) a b
binary_proper op.Rem a b = of_ints_proper _ (λ m n. unless _ _ (in_range_proper _)) a b

negated_proper : (a : Value) → IsProperCell (negated a)
unfolding negated
negated_proper (v.Int n) = in_range_proper _
negated_proper (v.Bool b) = tt
negated_proper (v.Text t) = tt

inverted_proper : (a : Value) → IsProperCell (inverted a)
unfolding inverted
inverted_proper (v.Bool b) = tt
inverted_proper (v.Int n) = tt
inverted_proper (v.Text t) = tt

then_proper : (f : Value → Option Value) → ((x : Value) → IsProperCell (f x)) → (o : Option Value) → IsProperCell (option_and_then f o)
then_proper f h None = tt
then_proper f h (Some x) = h x

both_proper : (o : BinOp) (a b : Option Value) → IsProperCell (option_and_then (λ x. option_and_then (binary o x) b) a)
both_proper o None b = tt
both_proper o (Some x) None = tt
both_proper o (Some x) (Some y) = binary_proper o x y

-- what is made of a member is proper where it is so for both
member_proper : (f : Interval → Option Value) (first : Interval) (second : Option Interval) (m : ℕ) → IsProperCell (f first) → IfSome second (λ i. IsProperCell (f i))
    → IsProperCell (option_and_then f (member first second m))
unfolding member
member_proper f first second zero h k = h
member_proper f first None (suc zero) h k = tt
member_proper f first (Some i) (suc zero) h k = k
member_proper f first second (suc (suc n)) h k = tt

cell_proper : (row : List (Option Value)) (place : ℕ) → All IsProperCell row → IsProperCell (slice_index_or row place None)
cell_proper row place h = elim (cases_lt place (length row)) [
  | inl within ↦ h place None within
  | inr past ↦ subst IsProperCell (sym (get_or_past row place None past)) tt
]

-- what a member gives to a value
pub record IsProperMember (i : Interval) : Type 0 where
  pub start : IsI64 i.start
  pub stop : IsI64 i.stop
  pub cells : All IsProperCell i.row

module _ (first : Interval) (second : Option Interval) (one : IsProperMember first) (other : IfSome second IsProperMember) where
  of_member : (f : Interval → Option Value) (m : ℕ) → ((i : Interval) → IsProperMember i → IsProperCell (f i)) → IsProperCell (option_and_then f (member first second m))
  of_member f m h = member_proper f first second m (h first one) (weaker second other)
    where
      weaker : (o : Option Interval) → IfSome o IsProperMember → IfSome o (λ i. IsProperCell (f i))
      weaker None k = tt
      weaker (Some i) k = h i k

  node_proper : (n : Term-F Term) → All IsPlain (texts_at_node (map-Term Term (List (List ℕ)) (fold-Term (List (List ℕ)) texts_at_node) n)) → All IsI64 (numbers_at_node (map-Term Term (List ℤ) (fold-Term (List ℤ) numbers_at_node) n))
      → IsProperCell (value_of_node first second (map-Term Term (Option Value) (fold-Term (Option Value) (value_of_node first second)) n))
  unfolding value_of_node texts_at_node numbers_at_node
  node_proper (node.Bool b) texts numbers = tt
  node_proper (node.Int n) texts numbers = All-head IsI64 n [] numbers
  node_proper (node.Text t) texts numbers = All-head IsPlain t [] texts
  node_proper (node.Start m) texts numbers = of_member (λ (i : Interval). Some (v.Int i.start)) m (λ i p. p.start)
  node_proper (node.Stop m) texts numbers = of_member (λ (i : Interval). Some (v.Int i.stop)) m (λ i p. p.stop)
  node_proper (node.Key m place) texts numbers = of_member (λ (i : Interval). slice_index_or i.row place None) m (λ i p. cell_proper i.row place p.cells)
  node_proper (node.Neg a) texts numbers = then_proper negated negated_proper _
  node_proper (node.Not a) texts numbers = then_proper inverted inverted_proper _
  node_proper (node.Bin o a b) texts numbers = both_proper o _ _

  pub value_proper : (t : Term) → All IsPlain (texts_of t) → All IsI64 (numbers_of t) → IsProperCell (value_of first second t)
  unfolding value_of texts_of numbers_of
  value_proper t texts numbers =
      subst IsProperCell (sym (fold_out-Term (Option Value) (value_of_node first second) t))
      (node_proper (out-Term t) (subst (All IsPlain) (fold_out-Term (List (List ℕ)) texts_at_node t) texts) (subst (All IsI64) (fold_out-Term (List ℤ) numbers_at_node t) numbers))
