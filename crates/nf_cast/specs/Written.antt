-- How expressions are written: their operators, their levels and their parentheses.
use Rattle.std.specs.Prelude.{ℕ, ◌+◌, ℤ, max, Bool, true, false, nat_lt, nat_le, List, ◌++◌, codes, if◌then◌else◌}
use Rattle.std.specs.Fmt.{signed_decimal}
use Rattle.nf_core.specs.declared.operators.BinOp.{BinOp}
use Rattle.nf_core.specs.declared.operators.BinOp.TheVariants as op
use Rattle.nf_cast.specs.declared.expressions.CExpr.{CExpr, CExpr-F, fold-CExpr}
use Rattle.nf_cast.specs.declared.expressions.CExpr.TheOpen as e

-- the mark of a binary operator
unfoldable pub c_mark : BinOp → List ℕ
c_mark op.Or = codes "||"
c_mark op.And = codes "&&"
c_mark op.Eq = codes "=="
c_mark op.Ne = codes "!="
c_mark op.Lt = codes "<"
c_mark op.Le = codes "<="
c_mark op.Gt = codes ">"
c_mark op.Ge = codes ">="
c_mark op.Add = codes "+"
c_mark op.Sub = codes "-"
c_mark op.Mul = codes "*"
c_mark op.Div = codes "/"
c_mark op.Rem = codes "%"

-- the level of a binary operator, from the loosest: `||` 1, `&&` 2, `== !=` 3, `< <= > >=` 4, `+ -` 5, `* / %` 6
unfoldable pub c_level : BinOp → ℕ
c_level op.Or = 1
c_level op.And = 2
c_level op.Eq = 3
c_level op.Ne = 3
c_level op.Lt = 4
c_level op.Le = 4
c_level op.Gt = 4
c_level op.Ge = 4
c_level op.Add = 5
c_level op.Sub = 5
c_level op.Mul = 6
c_level op.Div = 6
c_level op.Rem = 6

-- the level of the unary operators
abbrev pub unary_level : ℕ
unary_level = 7

-- the level of what has no operator at its top
abbrev pub primary_level : ℕ
primary_level = 8

-- an expression as it is written: the level of the operator at its top, whether that is a unary `-`, the text, how many parentheses and brackets are open in it at once at most, and how many operators it has, an element's bracket counted as one
pub record Written : Type 0 where
  pub level : ℕ
  pub is_minus : Bool
  pub text : List ℕ
  pub nesting : ℕ
  pub operators : ℕ

-- an operand, between parentheses where it stands in them
unfoldable pub enclosed : Bool → Written → Written
enclosed false a = a
enclosed true a = record { level = primary_level; is_minus = false; text = codes "(" ++ a.text ++ codes ")"; nesting = 1 + a.nesting; operators = a.operators }

-- the operand of a unary operator stands in parentheses exactly where its level is less than that of the unary operators
abbrev pub as_operand : Written → Written
as_operand a = enclosed (nat_lt a.level unary_level) a

-- the left operand of a binary operator stands in parentheses exactly where its level is less than the operator's
abbrev pub as_left : BinOp → Written → Written
as_left o a = enclosed (nat_lt a.level (c_level o)) a

-- the right operand stands in parentheses exactly where its level is at most the operator's
abbrev pub as_right : BinOp → Written → Written
as_right o b = enclosed (nat_le b.level (c_level o)) b

-- a literal is `INT64_C(n)`
abbrev pub literal_text : ℤ → List ℕ
literal_text n = codes "INT64_C(" ++ signed_decimal n ++ codes ")"

-- a text without an operator
abbrev pub plain : List ℕ → Written
plain text = record { level = primary_level; is_minus = false; text = text; nesting = 0; operators = 0 }

-- an element is `a[i]`
abbrev pub element : List ℕ → Written → Written
element x i = record { level = primary_level; is_minus = false; text = x ++ codes "[" ++ i.text ++ codes "]"; nesting = 1 + i.nesting; operators = 1 + i.operators }

-- a unary `-` stands directly before its operand, except that one space follows it where its operand is a unary `-`
abbrev pub negated : Written → Written
negated a = record { level = unary_level; is_minus = true; text = (if a.is_minus then codes "- " else codes "-") ++ a.text; nesting = a.nesting; operators = 1 + a.operators }

-- a `!` stands directly before its operand
abbrev pub inverted : Written → Written
inverted a = record { level = unary_level; is_minus = false; text = codes "!" ++ a.text; nesting = a.nesting; operators = 1 + a.operators }

-- a binary operator has one space on each side
abbrev pub joined : BinOp → Written → Written → Written
joined o a b = record { level = c_level o; is_minus = false; text = a.text ++ codes " " ++ c_mark o ++ codes " " ++ b.text; nesting = max a.nesting b.nesting; operators = 1 + a.operators + b.operators }

-- an expression as it is written, given how its operands are
abbrev pub written_layer : CExpr-F Written → Written
written_layer (e.Lit n) = plain (literal_text n)
written_layer (e.Name x) = plain x
written_layer (e.Cell x i) = element x i
written_layer (e.Neg a) = negated (as_operand a)
written_layer (e.Not a) = inverted (as_operand a)
written_layer (e.Bin o a b) = joined o (as_left o a) (as_right o b)

-- an expression as it is written
unfoldable pub written : CExpr → Written
written = fold-CExpr Written written_layer
