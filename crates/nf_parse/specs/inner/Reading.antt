-- The reader of expressions as functions on states.
use Rattle.std.specs.Prelude.{ℕ, zero, suc, pos, true, false, Bool, List, Option, is_some, option_to_list}
use Rattle.std.specs.Str.Parse.{digits_value}
use Rattle.nf_core.specs.declared.operators.BinOp.{BinOp}
use Rattle.nf_core.specs.declared.trees.Expr.{Expr}
use Rattle.nf_core.specs.declared.trees.Expr.TheVariants as e
use Rattle.nf_lex.specs.Faults.{body_of}
use Rattle.nf_grammar.specs.inner.Parsers.{counted, and_then, done, choose, repeated, nowhere, in_table}
use Rattle.nf_parse.specs.declared.level.Level.{Level}
use Rattle.nf_parse.specs.declared.level.Level.TheVariants as level
use Rattle.nf_parse.specs.declared.symbol.Sym.TheVariants as sym
use Rattle.nf_parse.specs.State.{Word}
use Rattle.nf_parse.specs.Grammar.{op_at, sign_of, joined, signed}
use Rattle.nf_parse.specs.inner.Parsers.{Parser, is_kind, token, after, enclosed, optional}

-- what a word is as an operator of a level
abbrev pub op_of_word : Level → Word → Option BinOp
op_of_word l word = op_at l word.0

-- whether a word is an operator of a level
abbrev pub is_operator : Level → Option Word → Bool
is_operator l n = is_some (in_table (op_of_word l) n)

-- what a word is as a sign
abbrev pub sign_of_word : Word → Option (Expr → Expr)
sign_of_word word = sign_of word.0

abbrev pub is_sign : Option Word → Bool
is_sign n = is_some (in_table sign_of_word n)

-- an operator of a level with its right operand
unfoldable pub with_operand : Level → Parser Expr → Parser (BinOp × Expr)
with_operand l operand = and_then (counted (op_of_word l)) (λ o.
    and_then operand (λ right. done (o, right)))

-- an operator of a level and its right operand, behind a left one
abbrev pub right_of : Level → Parser Expr → Expr → Parser Expr
right_of l operand left = and_then (with_operand l operand)
    (λ next. done (e.Bin next.0 left next.1))

-- operand { operator operand }
unfoldable pub chain : Level → Parser Expr → Parser Expr
chain l operand = and_then operand (λ left.
    and_then (repeated (is_operator l) (with_operand l operand)) (λ rest. done (joined left rest)))

-- operand [ operator operand ]
unfoldable pub single : Level → Parser Expr → Parser Expr
single l operand = and_then operand (λ left.
    and_then (optional (is_operator l) (with_operand l operand))
    (λ rest. done (joined left (option_to_list rest))))

-- what stands behind the `.` of a read
unfoldable pub member : List ℕ → Parser Expr
member label =
    choose (is_kind sym.Ident) (and_then (token sym.Ident) (λ key. done (e.Key label key)))
    (choose (is_kind sym.Begin) (after sym.Begin (done (e.Start label)))
    (after sym.End (done (e.Stop label))))

-- a read of a key, of a begin or of an end
unfoldable pub read : Parser Expr
read = and_then (token sym.Ident) (λ label. after sym.Dot (member label))

-- an operand without operators, by its first word
unfoldable pub primary : Parser Expr → Parser Expr
primary paren =
    choose (is_kind sym.Number) (and_then (token sym.Number)
    (λ bytes. done (e.Int (pos (digits_value 10 bytes)))))
    (choose (is_kind sym.Text) (and_then (token sym.Text) (λ bytes. done (e.Text (body_of bytes))))
    (choose (is_kind sym.True) (after sym.True (done (e.Bool true)))
    (choose (is_kind sym.False) (after sym.False (done (e.Bool false)))
    (choose (is_kind sym.Ident) read paren))))

-- signs and then an operand
unfoldable pub unary : Parser Expr → Parser Expr
unary prim = and_then (repeated is_sign (counted sign_of_word)) (λ signs.
    and_then prim (λ x. done (signed signs x)))

module _ (paren : Parser Expr) where
  -- an operand behind any number of signs
  abbrev pub signed_operand : Parser Expr
  signed_operand = unary (primary paren)

  abbrev pub product : Parser Expr
  product = chain level.Product signed_operand

  abbrev pub sum : Parser Expr
  sum = chain level.Sum product

  abbrev pub comparison : Parser Expr
  comparison = single level.Compare sum

  abbrev pub conjunction : Parser Expr
  conjunction = chain level.And comparison

  abbrev pub expression : Parser Expr
  expression = chain level.Or conjunction

  -- what stands between the operators of a level
  abbrev pub operand : Level → Parser Expr
  operand level.Or = conjunction
  operand level.And = comparison
  operand level.Compare = sum
  operand level.Sum = product
  operand level.Product = signed_operand

  -- operand { operator operand } at a level
  abbrev pub chain_at : Level → Parser Expr
  chain_at l = chain l (operand l)

  -- an operator of a level and its right operand, behind a left one
  abbrev pub right_at : Level → Expr → Parser Expr
  right_at l left = right_of l (operand l) left

-- "(" expr ")", where at most so many parentheses are open at once
unfoldable pub paren : ℕ → Parser Expr
paren zero = nowhere (is_kind sym.Open)
paren (suc depth) = enclosed sym.Open (expression (paren depth)) sym.Close
