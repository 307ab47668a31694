-- A value of an expression has the kind of the expression. Each operator gives values of one kind, whatever its operands are.
use Rattle.std.proofs.Common.{◌≡◌, ℤ, Bool, true, false, cond, Option, Some, None, IfSome, option_and_then, option_map, refl, sym, subst}
use Rattle.nf_core.specs.Intervals.{Interval}
use Rattle.nf_core.specs.Expressions.{in_range, of_ints, of_bools, binary, negated, inverted, member, value_of_node, value_of}
use Rattle.nf_core.specs.Kinds.{Kind, Number, Truth, Text, Any, may_be_number, may_be_truth, gives, kind_of_negated, kind_of_inverted, kind_of_binary, kind_of_node, kind_of_term, kind_of_value, IsOfKind}
use Rattle.nf_core.specs.declared.values.Value.{Value}
use Rattle.nf_core.specs.declared.values.Value.TheVariants as v
use Rattle.nf_core.specs.declared.operators.BinOp.{BinOp}
use Rattle.nf_core.specs.declared.operators.BinOp.TheVariants as op
use Rattle.nf_core.specs.declared.terms.Term.{Term, Term-F, fold-Term, fold_out-Term, map-Term, out-Term}
use Rattle.nf_core.specs.declared.terms.Term.TheOpen as node
use Rattle.nf_expr.specs.declared.seen.Seen.{Seen}
use Rattle.nf_expr.specs.Seen.{value_seen}

-- a value that there is has this kind
abbrev pub Gives : Option Value → Kind → Type 0
Gives o k = IfSome o (λ x. kind_of_value x ≡ k)

-- a value that there is is of the kind that there is
abbrev Agree : Option Kind → Option Value → Type 0
Agree None o = Unit {0}
Agree (Some k) o = IfSome o (IsOfKind k)

either : (b : Bool) (x y : Option Value) (k : Kind) → Gives x k → Gives y k → Gives (cond b x y) k
either true x y k g h = g
either false x y k g h = h

range_gives : (n : ℤ) → Gives (in_range n) Number
unfolding in_range
range_gives n = either _ (Some (v.Int n)) None Number refl tt

ints_give : (f : ℤ → ℤ → Option Value) (k : Kind) → ((m n : ℤ) → Gives (f m n) k) → (a b : Value) → Gives (of_ints f a b) k
unfolding of_ints
ints_give f k h (v.Int m) (v.Int n) = h m n
ints_give f k h a b = tt

bools_give : (f : Bool → Bool → Bool) (a b : Value) → Gives (of_bools f a b) Truth
unfolding of_bools
bools_give f (v.Bool p) (v.Bool q) = refl
bools_give f a b = tt

pub binary_gives : (o : BinOp) (a b : Value) → Gives (binary o a b) (gives o)
unfolding binary
binary_gives op.Or a b = bools_give _ a b
binary_gives op.And a b = bools_give _ a b
binary_gives op.Eq a b = refl
binary_gives op.Ne a b = refl
binary_gives op.Lt a b = ints_give _ Truth (λ m n. refl) a b
binary_gives op.Le a b = ints_give _ Truth (λ m n. refl) a b
binary_gives op.Gt a b = ints_give _ Truth (λ m n. refl) a b
binary_gives op.Ge a b = ints_give _ Truth (λ m n. refl) a b
binary_gives op.Add a b = ints_give _ Number (λ m n. range_gives _) a b
binary_gives op.Sub a b = ints_give _ Number (λ m n. range_gives _) a b
binary_gives op.Mul a b = ints_give _ Number (λ m n. range_gives _) a b
binary_gives op.Div a b = ints_give _ Number (λ m n. either _ None _ Number tt (range_gives _)) a b
binary_gives op.Rem a b = ints_give _ Number (λ m n. either _ None _ Number tt (range_gives _)) a b

pub negated_gives : (a : Value) → Gives (negated a) Number
unfolding negated
negated_gives (v.Int n) = range_gives _
negated_gives a = tt

pub inverted_gives : (a : Value) → Gives (inverted a) Truth
unfolding inverted
inverted_gives (v.Bool b) = refl
inverted_gives a = tt

of_kind : (k : Kind) (x : Value) → kind_of_value x ≡ k → IsOfKind k x
of_kind Number x h = h
of_kind Truth x h = h
of_kind Text x h = h
of_kind Any x h = tt

agree : (b : Bool) (k : Kind) (o : Option Value) → Gives o k → Agree (cond b (Some k) None) o
agree false k o h = tt
agree true k None h = tt
agree true k (Some x) h = of_kind k x h

gives_then : (f : Value → Option Value) (k : Kind) → ((a : Value) → Gives (f a) k) → (o : Option Value) → Gives (option_and_then f o) k
gives_then f k h None = tt
gives_then f k h (Some a) = h a

negated_agrees : (k : Option Kind) (o : Option Value) → Agree (kind_of_negated k) (option_and_then negated o)
unfolding kind_of_negated
negated_agrees None o = tt
negated_agrees (Some k) o = agree (may_be_number k) Number _ (gives_then negated Number negated_gives o)

inverted_agrees : (k : Option Kind) (o : Option Value) → Agree (kind_of_inverted k) (option_and_then inverted o)
unfolding kind_of_inverted
inverted_agrees None o = tt
inverted_agrees (Some k) o = agree (may_be_truth k) Truth _ (gives_then inverted Truth inverted_gives o)

binary_agrees : (o : BinOp) (k l : Option Kind) (a b : Option Value) → Agree (kind_of_binary o k l) (option_and_then (λ x. option_and_then (binary o x) b) a)
unfolding kind_of_binary
binary_agrees o None l a b = tt
binary_agrees o (Some k) None a b = tt
binary_agrees o (Some k) (Some l) a b = agree _ (gives o) _ (gives_then _ (gives o) (λ x. gives_then (binary o x) (gives o) (binary_gives o x) b) a)

start_agrees : (o : Option Interval) → Agree (Some Number) (option_and_then (λ (i : Interval). Some (v.Int i.start)) o)
start_agrees None = tt
start_agrees (Some i) = refl

stop_agrees : (o : Option Interval) → Agree (Some Number) (option_and_then (λ (i : Interval). Some (v.Int i.stop)) o)
stop_agrees None = tt
stop_agrees (Some i) = refl

any_agrees : (o : Option Value) → Agree (Some Any) o
any_agrees None = tt
any_agrees (Some x) = tt

module _ (first : Interval) (second : Option Interval) where
  node_agrees : (n : Term-F Term) → Agree (kind_of_node (map-Term Term (Option Kind) (fold-Term (Option Kind) kind_of_node) n))
      (value_of_node first second (map-Term Term (Option Value) (fold-Term (Option Value) (value_of_node first second)) n))
  unfolding kind_of_node value_of_node
  node_agrees (node.Bool b) = refl
  node_agrees (node.Int n) = refl
  node_agrees (node.Text t) = refl
  node_agrees (node.Start m) = start_agrees (member first second m)
  node_agrees (node.Stop m) = stop_agrees (member first second m)
  node_agrees (node.Key m place) = any_agrees _
  node_agrees (node.Neg a) = negated_agrees _ _
  node_agrees (node.Not a) = inverted_agrees _ _
  node_agrees (node.Bin o a b) = binary_agrees o _ _ _ _

  term_agrees : (t : Term) → Agree (kind_of_term t) (value_of first second t)
  unfolding kind_of_term value_of
  term_agrees t = rw (fold_out-Term (Option Kind) kind_of_node t, fold_out-Term (Option Value) (value_of_node first second) t) (node_agrees (out-Term t))

  pub value_is_of_kind : (t : Term) (k : Kind) → kind_of_term t ≡ Some k → IfSome (value_of first second t) (IsOfKind k)
  value_is_of_kind t k h = subst (λ l. Agree l (value_of first second t)) h (term_agrees t)

  pub seen_is_of_kind : (t : Term) (o : Option Seen) → option_map value_seen o ≡ value_of first second t → (k : Kind) → kind_of_term t ≡ Some k → IfSome o (λ seen. IsOfKind k (value_seen seen))
  seen_is_of_kind t None e k h = tt
  seen_is_of_kind t (Some seen) e k h = subst (λ o. IfSome o (IsOfKind k)) (sym e) (value_is_of_kind t k h)
