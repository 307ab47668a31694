-- The reader of expressions as functions on states.
use Rattle.std.specs.Prelude.{ℕ, zero, suc, pos, Bool, Option, is_some}
use Rattle.nf_core.specs.declared.operators.BinOp.{BinOp}
use Rattle.nf_cast.specs.declared.placed.PlacedName.{PlacedName}
use Rattle.nf_cast.specs.declared.placed.PlacedExpr.{PlacedExpr}
use Rattle.nf_cast.specs.declared.placed.PlacedExpr.TheVariants as e
use Rattle.nf_grammar.specs.inner.Parsers.{counted, and_then, done, choose, repeated, nowhere, in_table}
use Rattle.nf_cparse.specs.declared.level.Level.{Level}
use Rattle.nf_cparse.specs.declared.level.Level.TheVariants as level
use Rattle.nf_cparse.specs.declared.symbol.Sym.{Sym}
use Rattle.nf_cparse.specs.declared.symbol.Sym.TheVariants as sym
use Rattle.nf_cparse.specs.Lexing.{Word}
use Rattle.nf_cparse.specs.Grammar.{of_kind, placed, literal_value, op_of, at_level, joined, sign_of, signed}
use Rattle.nf_cparse.specs.inner.Parsers.{Parser, is_kind, token, after}

-- the levels by their numbers
abbrev pub number_of : Level → ℕ
number_of level.Or = 1
number_of level.And = 2
number_of level.Equality = 3
number_of level.Relation = 4
number_of level.Sum = 5
number_of level.Product = 6

-- what a kind of words is as an operator of a level
unfoldable pub op_at : Level → Sym → Option BinOp
op_at l k = at_level (number_of l) (op_of k)

-- what a word is as an operator of a level
abbrev pub op_of_word : Level → Word → Option BinOp
op_of_word l word = op_at l word.sym

-- whether a word is an operator of a level
abbrev pub is_operator : Level → Option Word → Bool
is_operator l n = is_some (in_table (op_of_word l) n)

-- whether a word is a sign
abbrev pub is_sign : Option Word → Bool
is_sign n = is_some (in_table sign_of n)

-- an operator of a level with its right operand
unfoldable pub with_operand : Level → Parser PlacedExpr → Parser (BinOp × PlacedExpr)
with_operand l operand = and_then (counted (op_of_word l)) (λ o.
    and_then operand (λ right. done (o, right)))

-- an operator of a level and its right operand, behind a left one
abbrev pub right_of : Level → Parser PlacedExpr → PlacedExpr → Parser PlacedExpr
right_of l operand left = and_then (with_operand l operand)
    (λ next. done (e.Bin next.0 left next.1))

-- operand { operator operand }
unfoldable pub chain : Level → Parser PlacedExpr → Parser PlacedExpr
chain l operand = and_then operand (λ left.
    and_then (repeated (is_operator l) (with_operand l operand)) (λ rest. done (joined left rest)))

-- a name
unfoldable pub named : Parser PlacedName
named = and_then (token sym.Ident) (λ word. done (placed word))

-- what opens one more parenthesis or bracket
pub record Nest : Type 0 where
  pub parens : Parser PlacedExpr
  pub index : Parser PlacedExpr

-- what stands behind a name: an index, where a bracket opens there, else nothing
unfoldable pub behind_name : Parser PlacedExpr → PlacedName → Parser PlacedExpr
behind_name index name = choose (is_kind sym.OpenBracket) (and_then index (λ i. done (e.Cell name i))) (done (e.Name name))

unfoldable pub name_or_cell : Parser PlacedExpr → Parser PlacedExpr
name_or_cell index = and_then named (behind_name index)

-- a literal
unfoldable pub literal : Parser PlacedExpr
literal = and_then (token sym.Lit) (λ word. done (e.Lit word.line (pos (literal_value word.text))))

-- an operand without operators, by its first word
unfoldable pub primary : Nest → Parser PlacedExpr
primary nest = choose (is_kind sym.Lit) literal (choose (is_kind sym.Ident) (name_or_cell nest.index) nest.parens)

-- signs and then an operand
unfoldable pub unary : Parser PlacedExpr → Parser PlacedExpr
unary prim = and_then (repeated is_sign (counted sign_of)) (λ signs.
    and_then prim (λ x. done (signed signs x)))

module _ (nest : Nest) where
  -- an operand behind any number of signs
  abbrev pub signed_operand : Parser PlacedExpr
  signed_operand = unary (primary nest)

  abbrev pub product : Parser PlacedExpr
  product = chain level.Product signed_operand

  abbrev pub sum : Parser PlacedExpr
  sum = chain level.Sum product

  abbrev pub relation : Parser PlacedExpr
  relation = chain level.Relation sum

  abbrev pub equality : Parser PlacedExpr
  equality = chain level.Equality relation

  abbrev pub conjunction : Parser PlacedExpr
  conjunction = chain level.And equality

  abbrev pub expression : Parser PlacedExpr
  expression = chain level.Or conjunction

  -- what stands between the operators of a level
  abbrev pub operand : Level → Parser PlacedExpr
  operand level.Or = conjunction
  operand level.And = equality
  operand level.Equality = relation
  operand level.Relation = sum
  operand level.Sum = product
  operand level.Product = signed_operand

  -- operand { operator operand } at a level
  abbrev pub chain_at : Level → Parser PlacedExpr
  chain_at l = chain l (operand l)

  -- an operator of a level and its right operand, behind a left one
  abbrev pub right_at : Level → PlacedExpr → Parser PlacedExpr
  right_at l left = right_of l (operand l) left

-- "(" e ")", and "[" e "]" behind a name
unfoldable pub closed_parens : Parser PlacedExpr → Parser PlacedExpr
closed_parens inner = and_then (token sym.Open) (λ open'. and_then inner (λ a. after sym.Close (done (e.Parens open'.line a))))

unfoldable pub closed_index : Parser PlacedExpr → Parser PlacedExpr
closed_index inner = and_then (counted (of_kind sym.OpenBracket)) (λ open'. and_then inner (λ i. after sym.CloseBracket (done i)))

-- at most so many parentheses and brackets are open at once
unfoldable pub nest : ℕ → Nest
nest zero = record { parens = nowhere (is_kind sym.Open); index = nowhere (is_kind sym.OpenBracket) }
nest (suc depth) = record { parens = closed_parens (expression (nest depth)); index = closed_index (expression (nest depth)) }

abbrev pub parens_at : ℕ → Parser PlacedExpr
parens_at depth = (nest depth).parens

abbrev pub index_at : ℕ → Parser PlacedExpr
index_at depth = (nest depth).index
