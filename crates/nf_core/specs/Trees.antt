-- The trees of a specification: expressions, their canonical parentheses, the limits of a rule, and the rules that can be written.
use Rattle.std.specs.Prelude as prelude
use Rattle.std.specs.Prelude.{ℕ, suc, ℤ, pos, ◌+◌, ◌≤◌, ◌≤ℤ◌, ◌≢◌, ◌||◌, ◌&&◌, ◌==◌, nat_lt, nat_le, max, List, [], ◌∷◌, ◌++◌, map, Option, option_to_list, All, IsTrue, if◌then◌else◌}
use Rattle.std.specs.Str.{is_utf8}
use Rattle.nf_core.specs.Texts.{int_greatest, IsPlain}
use Rattle.nf_core.specs.Identifiers.{is_identifier}
use Rattle.nf_core.specs.declared.limits.TheConstants.{MOST_OPERATORS, MOST_OPEN}
use Rattle.nf_core.specs.declared.operators.BinOp as operator
use Rattle.nf_core.specs.declared.operators.BinOp.TheVariants as op
use Rattle.nf_core.specs.declared.trees.Expr as expr
use Rattle.nf_core.specs.declared.trees.Expr.TheOpen as node
use Rattle.nf_core.specs.declared.trees.Expr.TheVariants as variant
use Rattle.nf_core.specs.declared.trees.Expr.TheFolds.{fold-Expr}
use Rattle.nf_core.specs.declared.trees.Atom.{Atom}
use Rattle.nf_core.specs.declared.trees.Body.{Body}
use Rattle.nf_core.specs.declared.trees.Body.TheVariants as body
use Rattle.nf_core.specs.declared.trees.Entry.{Entry}

-- an expression as a tree: a truth value, a whole number, a text, the begin or the end under a label, a key under a label, a unary operator with its operand, or a binary operator with its two
pub data Tree : Type 0 where
  Bool : prelude.Bool → Tree
  Int : ℤ → Tree
  Text : List ℕ → Tree
  Start : List ℕ → Tree
  Stop : List ℕ → Tree
  Key : List ℕ → List ℕ → Tree
  Neg : Tree → Tree
  Not : Tree → Tree
  Bin : operator.BinOp → Tree → Tree → Tree

-- a node of an expression as a tree, given the trees of its operands
abbrev pub layer : node.Expr-F Tree → Tree
layer (node.Bool b) = Bool b
layer (node.Int n) = Int n
layer (node.Text t) = Text t
layer (node.Start label) = Start label
layer (node.Stop label) = Stop label
layer (node.Key label key) = Key label key
layer (node.Neg a) = Neg a
layer (node.Not a) = Not a
layer (node.Bin op a b) = Bin op a b

-- an expression as a tree
abbrev pub tree : expr.Expr → Tree
tree = fold-Expr Tree layer

-- the expression that has this tree
abbrev pub expr_of : Tree → expr.Expr
expr_of (Bool b) = variant.Bool b
expr_of (Int n) = variant.Int n
expr_of (Text t) = variant.Text t
expr_of (Start label) = variant.Start label
expr_of (Stop label) = variant.Stop label
expr_of (Key label key) = variant.Key label key
expr_of (Neg a) = variant.Neg (expr_of a)
expr_of (Not a) = variant.Not (expr_of a)
expr_of (Bin op a b) = variant.Bin op (expr_of a) (expr_of b)

-- the level of a binary operator, from the loosest: `|` 1, `&` 2, comparisons 3, `+ -` 4, `* / %` 5
unfoldable pub op_level : operator.BinOp → ℕ
op_level op.Or = 1
op_level op.And = 2
op_level op.Eq = 3
op_level op.Ne = 3
op_level op.Lt = 3
op_level op.Le = 3
op_level op.Gt = 3
op_level op.Ge = 3
op_level op.Add = 4
op_level op.Sub = 4
op_level op.Mul = 5
op_level op.Div = 5
op_level op.Rem = 5

-- the level of comparisons, which don't chain
abbrev pub comparison_level : ℕ
comparison_level = 3

-- the level of the unary operators
abbrev pub unary_level : ℕ
unary_level = 6

-- the level of an expression: that of the operator at its top, and 7 where there is none
unfoldable pub level : Tree → ℕ
level (Neg a) = unary_level
level (Not a) = unary_level
level (Bin op a b) = op_level op
level other = 7

-- the left operand of a binary operator stands in parentheses exactly where its level is less than the operator's, or where both are comparisons
abbrev pub left_in_parens : operator.BinOp → Tree → prelude.Bool
left_in_parens op a = nat_lt (level a) (op_level op) || (level a == comparison_level && op_level op == comparison_level)

-- the right operand of a binary operator stands in parentheses exactly where its level is at most the operator's
abbrev pub right_in_parens : operator.BinOp → Tree → prelude.Bool
right_in_parens op b = nat_le (level b) (op_level op)

-- the operand of a unary operator stands in parentheses exactly where its level is less than that of the unary operators
abbrev pub operand_in_parens : Tree → prelude.Bool
operand_in_parens a = nat_lt (level a) unary_level

-- how many operators an expression has, unary and binary ones alike
unfoldable pub operators : Tree → ℕ
operators (Neg a) = 1 + operators a
operators (Not a) = 1 + operators a
operators (Bin op a b) = 1 + operators a + operators b
operators other = 0

-- the most parentheses that are open at once in an operand, which has so many without its own
abbrev pub opened : prelude.Bool → ℕ → ℕ
opened in_parens inner = if in_parens then 1 + inner else inner

-- the most parentheses that are open at once in the canonical text of an expression
unfoldable pub open_parens : Tree → ℕ
open_parens (Neg a) = opened (operand_in_parens a) (open_parens a)
open_parens (Not a) = opened (operand_in_parens a) (open_parens a)
open_parens (Bin op a b) = max (opened (left_in_parens op a) (open_parens a)) (opened (right_in_parens op b) (open_parens b))
open_parens other = 0

-- the limits of an expression: at most 256 operators (`MOST_OPERATORS`), and at most 64 parentheses (`MOST_OPEN`) open at once in its canonical text
pub record IsWithinLimits (t : Tree) : Type 0 where
  pub few_operators : operators t ≤ MOST_OPERATORS
  pub few_parens : open_parens t ≤ MOST_OPEN

-- a rule as it is written: its head, its body, and its clauses
pub record Rule : Type 0 where
  pub head : List ℕ
  pub body : Body
  pub filter : Option expr.Expr
  pub entries : List Entry
  pub start : Option expr.Expr
  pub stop : Option expr.Expr

-- the rule of these parts
abbrev pub rule_from : List ℕ → Body → Option expr.Expr → List Entry → Option expr.Expr → Option expr.Expr → Rule
rule_from head body filter entries start stop =
    record { head = head; body = body; filter = filter; entries = entries; start = start; stop = stop }

-- the atoms of a body in reading order
abbrev pub atoms_of : Body → List Atom
atoms_of (body.One first) = first ∷ []
atoms_of (body.Pair first op second) = first ∷ second ∷ []
atoms_of (body.Unless first xop second) = first ∷ second ∷ []

-- the values of a map's entries
abbrev pub values_of : List Entry → List expr.Expr
values_of entries = map (λ (entry : Entry). entry.value) entries

-- the expressions of a rule's clauses
abbrev pub expressions_of : Rule → List expr.Expr
expressions_of rule = option_to_list rule.filter ++ values_of rule.entries ++ option_to_list rule.start ++ option_to_list rule.stop

-- every expression of a rule is within the limits
abbrev pub IsRule : Rule → Type 0
IsRule rule = All (λ x. IsWithinLimits (tree x)) (expressions_of rule)

-- a text that can stand between `"`: UTF-8, as every text is, plain, and without `"`
pub record IsWrittenText (text : List ℕ) : Type 0 where
  pub utf8 : IsTrue (is_utf8 text)
  pub plain : IsPlain text
  pub no_quote : All (λ byte. byte ≢ 34) text

-- an expression that can be written: its labels and keys are identifiers, its numbers aren't negative and are values, and its texts can stand between `"`
unfoldable pub IsWrittenTree : Tree → Type 0
IsWrittenTree (Bool b) = Unit
IsWrittenTree (Int n) = (pos 0 ≤ℤ n) × (n ≤ℤ int_greatest)
IsWrittenTree (Text t) = IsWrittenText t
IsWrittenTree (Start label) = IsTrue (is_identifier label)
IsWrittenTree (Stop label) = IsTrue (is_identifier label)
IsWrittenTree (Key label key) = IsTrue (is_identifier label) × IsTrue (is_identifier key)
IsWrittenTree (Neg a) = IsWrittenTree a
IsWrittenTree (Not a) = IsWrittenTree a
IsWrittenTree (Bin op a b) = IsWrittenTree a × IsWrittenTree b

-- a rule that can be written: its head, and the labels and names of its atoms, and the keys of its map are identifiers, and its expressions can be written
pub record IsWritten (rule : Rule) : Type 0 where
  pub head : IsTrue (is_identifier rule.head)
  pub labels : All (λ (atom : Atom). IsTrue (is_identifier atom.label)) (atoms_of rule.body)
  pub names : All (λ (atom : Atom). IsTrue (is_identifier atom.name)) (atoms_of rule.body)
  pub keys : All (λ (entry : Entry). IsTrue (is_identifier entry.key)) rule.entries
  pub expressions : All (λ x. IsWrittenTree (tree x)) (expressions_of rule)
