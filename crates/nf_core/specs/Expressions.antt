-- The value of an expression over one or two members. Undefined is no value.
use Rattle.std.specs.Prelude.{ℕ, zero, suc, ◌+◌, nat_lt, ℤ, pos, negsuc, ◌+ℤ◌, ◌-ℤ◌, ◌*ℤ◌, neg_ℤ, int_lt, int_le, int_div, int_rem, Bool, true, not, ◌&&◌, ◌||◌, Option, Some, None, option_and_then, option_to_list, List, [], ◌∷◌, ◌++◌, map, length, slice_index, slice_index_or, if◌then◌else◌}
use Rattle.std.specs.Ordering.{int_eq, is_eq}
use Rattle.nf_core.specs.Texts.{int_least, is_i64}
use Rattle.nf_core.specs.Values.{value_cmp}
use Rattle.nf_core.specs.Intervals.{Interval}
use Rattle.nf_core.specs.declared.values.Value as value
use Rattle.nf_core.specs.declared.values.Value.TheVariants as variant
use Rattle.nf_core.specs.declared.operators.BinOp as operator
use Rattle.nf_core.specs.declared.operators.BinOp.TheVariants as op
use Rattle.nf_core.specs.declared.terms.Term as term
use Rattle.nf_core.specs.declared.terms.Term.TheOpen as node
use Rattle.nf_core.specs.declared.terms.Term.TheFolds.{fold-Term}

-- a whole number computed without bounds, and then tested for the range of values: Undefined outside it
unfoldable pub in_range : ℤ → Option value.Value
in_range n = if is_i64 n then Some (variant.Int n) else None

-- an operation on two whole numbers; Undefined at any other kind
unfoldable pub of_ints : (ℤ → ℤ → Option value.Value) → value.Value → value.Value → Option value.Value
of_ints f (variant.Int m) (variant.Int n) = f m n
of_ints f a b = None

-- an operation on two truth values; Undefined at any other kind
unfoldable pub of_bools : (Bool → Bool → Bool) → value.Value → value.Value → Option value.Value
of_bools f (variant.Bool a) (variant.Bool b) = Some (variant.Bool (f a b))
of_bools f a b = None

-- `/` truncates toward zero; a zero divisor is Undefined
abbrev pub quotient : ℤ → ℤ → Option value.Value
quotient m n = if int_eq n (pos 0) then None else in_range (int_div m n)

-- `%` has the dividend's sign; a zero divisor is Undefined, and so is the least number % -1
abbrev pub remainder : ℤ → ℤ → Option value.Value
remainder m n = if int_eq n (pos 0) || (int_eq m int_least && int_eq n (negsuc 0)) then None else in_range (int_rem m n)

-- the comparison of two whole numbers
abbrev pub compared : (ℤ → ℤ → Bool) → ℤ → ℤ → Option value.Value
compared test m n = Some (variant.Bool (test m n))

-- an operator with two operands: `|` and `&` want truth values, `< <= > >= + - * / %` whole numbers, and any other kind is Undefined; `=` and `!=` compare any two values, and values of different kinds are unequal
unfoldable pub binary : operator.BinOp → value.Value → value.Value → Option value.Value
binary op.Or a b = of_bools (λ p q. p || q) a b
binary op.And a b = of_bools (λ p q. p && q) a b
binary op.Eq a b = Some (variant.Bool (is_eq (value_cmp a b)))
binary op.Ne a b = Some (variant.Bool (not (is_eq (value_cmp a b))))
binary op.Lt a b = of_ints (compared (λ m n. int_lt m n)) a b
binary op.Le a b = of_ints (compared (λ m n. int_le m n)) a b
binary op.Gt a b = of_ints (compared (λ m n. int_lt n m)) a b
binary op.Ge a b = of_ints (compared (λ m n. int_le n m)) a b
binary op.Add a b = of_ints (λ m n. in_range (m +ℤ n)) a b
binary op.Sub a b = of_ints (λ m n. in_range (m -ℤ n)) a b
binary op.Mul a b = of_ints (λ m n. in_range (m *ℤ n)) a b
binary op.Div a b = of_ints quotient a b
binary op.Rem a b = of_ints remainder a b

-- unary `-`: of a whole number, tested for the range; Undefined at any other kind
unfoldable pub negated : value.Value → Option value.Value
negated (variant.Int n) = in_range (neg_ℤ n)
negated v = None

-- `!`: of a truth value; Undefined at any other kind
unfoldable pub inverted : value.Value → Option value.Value
inverted (variant.Bool b) = Some (variant.Bool (not b))
inverted v = None

-- member 0 is the first one and member 1 the second, where there is one; there are no others
unfoldable pub member : Interval → Option Interval → ℕ → Option Interval
member first second zero = Some first
member first second (suc zero) = second
member first second (suc (suc n)) = None

module _ (first : Interval) (second : Option Interval) where
  -- the value of a node, given the values of its operands: a missing key is Undefined, and an Undefined operand makes the node Undefined
  unfoldable pub value_of_node : node.Term-F (Option value.Value) → Option value.Value
  value_of_node (node.Bool b) = Some (variant.Bool b)
  value_of_node (node.Int n) = Some (variant.Int n)
  value_of_node (node.Text t) = Some (variant.Text t)
  value_of_node (node.Start m) = option_and_then (λ (i : Interval). Some (variant.Int i.start)) (member first second m)
  value_of_node (node.Stop m) = option_and_then (λ (i : Interval). Some (variant.Int i.stop)) (member first second m)
  value_of_node (node.Key m place) = option_and_then (λ (i : Interval). slice_index_or i.row place None) (member first second m)
  value_of_node (node.Neg a) = option_and_then negated a
  value_of_node (node.Not a) = option_and_then inverted a
  value_of_node (node.Bin op a b) = option_and_then (λ x. option_and_then (binary op x) b) a

  -- the value of an expression, node by node
  unfoldable pub value_of : term.Term → Option value.Value
  value_of = fold-Term (Option value.Value) value_of_node

-- how many cells the row of each member has: of the first, and of the second where there is one
abbrev pub widths_of : Interval → Option Interval → List ℕ
widths_of first second = map (λ (i : Interval). length i.row) (first ∷ option_to_list second)

-- whether the reads of a node are within widths, given whether those of its operands are: a begin or an end is of a member that is there, and a key is at a place below its member's width
unfoldable pub reads_within_node : List ℕ → node.Term-F Bool → Bool
reads_within_node widths (node.Bool b) = true
reads_within_node widths (node.Int n) = true
reads_within_node widths (node.Text t) = true
reads_within_node widths (node.Start m) = nat_lt m (length widths)
reads_within_node widths (node.Stop m) = nat_lt m (length widths)
reads_within_node widths (node.Key m place) = nat_lt place (slice_index widths m)
reads_within_node widths (node.Neg a) = a
reads_within_node widths (node.Not a) = a
reads_within_node widths (node.Bin op a b) = a && b

-- an expression reads only members that are there and keys at places of their rows, where the rows of the members have so many cells; a member that isn't there has none
unfoldable pub reads_within : List ℕ → term.Term → Bool
reads_within widths = fold-Term Bool (reads_within_node widths)

-- how many operators a node has with its operands, given how many these have
unfoldable pub operators_of_node : node.Term-F ℕ → ℕ
operators_of_node (node.Bool b) = 0
operators_of_node (node.Int n) = 0
operators_of_node (node.Text t) = 0
operators_of_node (node.Start m) = 0
operators_of_node (node.Stop m) = 0
operators_of_node (node.Key m place) = 0
operators_of_node (node.Neg a) = a + 1
operators_of_node (node.Not a) = a + 1
operators_of_node (node.Bin op a b) = a + b + 1

-- how many operators an expression has, those with one operand and those with two
unfoldable pub operators_of : term.Term → ℕ
operators_of = fold-Term ℕ operators_of_node

-- the texts of a node, given those of its operands
unfoldable pub texts_at_node : node.Term-F (List (List ℕ)) → List (List ℕ)
texts_at_node (node.Bool b) = []
texts_at_node (node.Int n) = []
texts_at_node (node.Text t) = t ∷ []
texts_at_node (node.Start m) = []
texts_at_node (node.Stop m) = []
texts_at_node (node.Key m place) = []
texts_at_node (node.Neg a) = a
texts_at_node (node.Not a) = a
texts_at_node (node.Bin op a b) = a ++ b

-- the texts that stand in an expression
unfoldable pub texts_of : term.Term → List (List ℕ)
texts_of = fold-Term (List (List ℕ)) texts_at_node

-- the whole numbers of a node, given those of its operands
unfoldable pub numbers_at_node : node.Term-F (List ℤ) → List ℤ
numbers_at_node (node.Bool b) = []
numbers_at_node (node.Int n) = n ∷ []
numbers_at_node (node.Text t) = []
numbers_at_node (node.Start m) = []
numbers_at_node (node.Stop m) = []
numbers_at_node (node.Key m place) = []
numbers_at_node (node.Neg a) = a
numbers_at_node (node.Not a) = a
numbers_at_node (node.Bin op a b) = a ++ b

-- the whole numbers that stand in an expression
unfoldable pub numbers_of : term.Term → List ℤ
numbers_of = fold-Term (List ℤ) numbers_at_node
