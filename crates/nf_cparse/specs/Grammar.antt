-- The grammar of a C text, production by production. In quotation marks stand the words themselves, ID and LIT are kinds of tokens, [ ] is an optional part, { } a repeated one, | a choice.
use Rattle.std.specs.Prelude.{ℕ, zero, suc, pos, ◌&&◌, ◌==◌, List, [], ◌∷◌, drop, filter, codes, bytes_eq, unwrap_or, Option, Some, None, is_some, option_map, if◌then◌else◌}
use Rattle.std.specs.Char.{is_ascii_digit}
use Rattle.std.specs.Str.Parse.{digits_value}
use denote.Enum.Bare.{sameb}
use Rattle.nf_core.specs.declared.operators.BinOp.{BinOp}
use Rattle.nf_core.specs.declared.operators.BinOp.TheVariants as op
use Rattle.nf_cast.specs.Written.{c_level}
use Rattle.nf_cast.specs.declared.objects.CForm.{CForm}
use Rattle.nf_cast.specs.declared.objects.CForm.TheVariants as form
use Rattle.nf_cast.specs.declared.placed.PlacedName.{PlacedName}
use Rattle.nf_cast.specs.declared.placed.PlacedExpr.{PlacedExpr}
use Rattle.nf_cast.specs.declared.placed.PlacedExpr.TheVariants as e
use Rattle.nf_cast.specs.declared.placed.PlacedRight.{PlacedRight}
use Rattle.nf_cast.specs.declared.placed.PlacedRight.TheVariants as right
use Rattle.nf_cast.specs.declared.placed.PlacedBound.{PlacedBound}
use Rattle.nf_cast.specs.declared.placed.PlacedBound.TheVariants as bound
use Rattle.nf_cast.specs.declared.placed.PlacedStmt.{PlacedStmt}
use Rattle.nf_cast.specs.declared.placed.PlacedStmt.TheVariants as stmt
use Rattle.nf_cast.specs.declared.placed.PlacedBlock.{PlacedBlock}
use Rattle.nf_cast.specs.declared.placed.PlacedItem.{PlacedItem}
use Rattle.nf_cast.specs.declared.placed.PlacedItem.TheVariants as item
use Rattle.nf_grammar.specs.Parts.{Part, token, counted, done, nowhere, and_then, either, repeated, alone, after, between, optional, separated}
use Rattle.nf_cparse.specs.contracts.symbol.Sym.{the_type}
use Rattle.nf_cparse.specs.declared.symbol.Sym.{Sym}
use Rattle.nf_cparse.specs.declared.symbol.Sym.TheVariants as sym
use Rattle.nf_cparse.specs.Lexing.{Word}

-- a production gives trees of one kind
abbrev pub Production : Type 0 → Type 1
Production A = Part Word A

-- a token of a kind
abbrev pub of_kind : Sym → Word → Option Word
of_kind k word = if sameb the_type word.sym k then Some word else None

-- one token of a kind, which gives it
abbrev pub word : Sym → Production Word
word k = token (of_kind k)

-- a token of a kind, and then a production
abbrev pub behind : {A : Type 0} → Sym → Production A → Production A
behind k p = after (of_kind k) p

-- a production between two tokens
abbrev pub enclosed : {A : Type 0} → Sym → Production A → Sym → Production A
enclosed opening p closing = between (of_kind opening) p (of_kind closing)

-- ID: a name, and its line
abbrev pub placed : Word → PlacedName
placed word = record { line = word.line; name = word.text }

abbrev pub named : Production PlacedName
named = and_then (word sym.Ident) (λ word. done (placed word))

-- an identifier with just these bytes
abbrev pub is_written : List ℕ → Word → Option Word
is_written text word = if sameb the_type word.sym sym.Ident && bytes_eq word.text text then Some word else None

-- the value of a literal: that of its digits, which stand behind `INT64_C`
unfoldable pub literal_value : List ℕ → ℕ
literal_value text = digits_value 10 (filter is_ascii_digit (drop 7 text))

-- LIT0 and LIT1: a literal of this value
abbrev pub of_value : ℕ → Word → Option Word
of_value n word = if sameb the_type word.sym sym.Lit && literal_value word.text == n then Some word else None

-- the binary operators
unfoldable pub op_of : Sym → Option BinOp
op_of sym.Or = Some op.Or
op_of sym.And = Some op.And
op_of sym.EqualEqual = Some op.Eq
op_of sym.NotEqual = Some op.Ne
op_of sym.Less = Some op.Lt
op_of sym.LessEqual = Some op.Le
op_of sym.Greater = Some op.Gt
op_of sym.GreaterEqual = Some op.Ge
op_of sym.Plus = Some op.Add
op_of sym.Minus = Some op.Sub
op_of sym.Star = Some op.Mul
op_of sym.Slash = Some op.Div
op_of sym.Percent = Some op.Rem
op_of k = None

-- an operator, where it has this level
abbrev pub at_level : ℕ → Option BinOp → Option BinOp
at_level level None = None
at_level level (Some o) = if c_level o == level then Some o else None

-- an operator of a level, which is counted
abbrev pub operator : ℕ → Production BinOp
operator level = counted (λ (word : Word). at_level level (op_of word.sym))

-- an expression and what stands behind it, operators each with its right operand: left associative
unfoldable pub joined : PlacedExpr → List (BinOp × PlacedExpr) → PlacedExpr
joined left [] = left
joined left (next ∷ rest) = joined (e.Bin next.0 left next.1) rest

-- operand { operator operand }
abbrev pub chain : ℕ → Production PlacedExpr → Production PlacedExpr
chain level operand = and_then operand (λ left.
    and_then (repeated (and_then (operator level) (λ o. and_then operand (λ right. done (o, right))))) (λ rest.
    done (joined left rest)))

-- a sign of an operand
unfoldable pub sign_of : Word → Option (PlacedExpr → PlacedExpr)
sign_of word =
    if sameb the_type word.sym sym.Minus then Some (λ a. e.Neg word.line a)
    else (if sameb the_type word.sym sym.Bang then Some (λ a. e.Not word.line a) else None)

-- signs in front of an operand, each of all that stands behind it
unfoldable pub signed : List (PlacedExpr → PlacedExpr) → PlacedExpr → PlacedExpr
signed [] a = a
signed (sign ∷ signs) a = sign (signed signs a)

-- what opens one more parenthesis or bracket: "(" e ")", and "[" e "]" behind a name
pub record Nest : Type 1 where
  pub parens : Production PlacedExpr
  pub index : Production PlacedExpr

-- what is given stands for these
module _ (nest : Nest) where
  -- prim = LIT | ID | ID "[" e "]" | "(" e ")"
  abbrev pub primary : Production PlacedExpr
  primary =
      either (and_then (word sym.Lit) (λ word. done (e.Lit word.line (pos (literal_value word.text)))))
      (either (and_then named (λ at. done (e.Name at)))
      (either (and_then named (λ at. and_then nest.index (λ i. done (e.Cell at i))))
      nest.parens))

  -- un = ( "-" | "!" ) un | prim: signs, which are counted as operators, and then an operand without any
  abbrev pub unary : Production PlacedExpr
  unary = and_then (repeated (counted sign_of)) (λ signs. and_then primary (λ a. done (signed signs a)))

  -- prod = un { ( "*" | "/" | "%" ) un }
  abbrev pub product : Production PlacedExpr
  product = chain 6 unary

  -- sum = prod { ( "+" | "-" ) prod }
  abbrev pub sum : Production PlacedExpr
  sum = chain 5 product

  -- rel = sum { ( "<" | "<=" | ">" | ">=" ) sum }
  abbrev pub relation : Production PlacedExpr
  relation = chain 4 sum

  -- eq = rel { ( "==" | "!=" ) rel }
  abbrev pub equality : Production PlacedExpr
  equality = chain 3 relation

  -- and = eq { "&&" eq }
  abbrev pub conjunction : Production PlacedExpr
  conjunction = chain 2 equality

  -- e = and { "||" and }
  abbrev pub expression : Production PlacedExpr
  expression = chain 1 conjunction

-- at most so many parentheses and brackets are open at once; a bracket counts as an operator, and what stands in it belongs to the expression in which it stands
unfoldable pub nest : ℕ → Nest
nest zero = record { parens = nowhere; index = nowhere }
nest (suc depth) = record {
  parens = and_then (word sym.Open) (λ open'. and_then (expression (nest depth)) (λ a. behind sym.Close (done (e.Parens open'.line a))));
  index = and_then (counted (of_kind sym.OpenBracket)) (λ open'. and_then (expression (nest depth)) (λ i. behind sym.CloseBracket (done i)));
}

-- what stands before the name of a function: "static" "void" | "static" "int64_t" | "int64_t"
abbrev pub form_of : Production CForm
form_of =
    either (behind sym.Static (behind sym.Void (done form.StaticVoid)))
    (either (behind sym.Static (behind sym.Int64 (done form.StaticInt)))
    (behind sym.Int64 (done form.Int)))

-- "int64_t" ID
abbrev pub declared : Production PlacedName
declared = behind sym.Int64 named

-- params = "void" | "int64_t" ID { "," "int64_t" ID }
abbrev pub params : Production (List PlacedName)
params = either (behind sym.Void (done [])) (separated (of_kind sym.Comma) declared)

-- bound = LIT | ID
abbrev pub bound_of : Production PlacedBound
bound_of =
    either (and_then (word sym.Lit) (λ word. done (bound.Lit (pos (literal_value word.text)))))
    (and_then named (λ at. done (bound.Name at)))

-- a block and the line of its "}"
abbrev pub Closed : Type 0
Closed = PlacedBlock × ℕ

-- in what follows at most so many parentheses and brackets are open at once in an expression
module _ (depth : ℕ) where
  -- an expression that stands in no other one
  abbrev pub whole : Production PlacedExpr
  whole = alone (expression (nest depth))

  -- "(" [ e { "," e } ] ")"
  abbrev pub arguments : Production (List PlacedExpr)
  arguments = and_then (enclosed sym.Open (optional (separated (of_kind sym.Comma) whole)) sym.Close)
      (λ found. done (unwrap_or found []))

  -- right = ID "(" [ e { "," e } ] ")" | e
  abbrev pub right_of : Production PlacedRight
  right_of =
      either (and_then named (λ at. and_then arguments (λ found. done (right.Call at found))))
      (and_then whole (λ a. done (right.Value a)))

  -- [ "const" ] "int64_t" ID "=" right ";"
  abbrev pub local : Production PlacedStmt
  local = and_then (optional (word sym.Const)) (λ constant. and_then declared (λ at. behind sym.Equal (and_then right_of (λ r.
      behind sym.Semicolon (done (stmt.Local (is_some constant) at r))))))

  -- ID "=" right ";"
  abbrev pub assign : Production PlacedStmt
  assign = and_then named (λ at. behind sym.Equal (and_then right_of (λ r. behind sym.Semicolon (done (stmt.Assign at r)))))

  -- ID "[" e "]" "=" e ";"
  abbrev pub store : Production PlacedStmt
  store = and_then named (λ at. and_then (enclosed sym.OpenBracket whole sym.CloseBracket) (λ i.
      behind sym.Equal (and_then whole (λ a. behind sym.Semicolon (done (stmt.Store at i a))))))

  -- ID "(" [ e { "," e } ] ")" ";"
  abbrev pub call : Production PlacedStmt
  call = and_then named (λ at. and_then arguments (λ found. behind sym.Semicolon (done (stmt.Call at found))))

  -- "return" [ e ] ";"
  abbrev pub return : Production PlacedStmt
  return = and_then (word sym.Return) (λ word. and_then (optional whole) (λ a.
      behind sym.Semicolon (done (stmt.Return word.line a))))

  -- what is given stands for a block
  module _ (block : Production Closed) where
    -- "if" "(" e ")" block [ "else" block ]
    abbrev pub conditional : Production PlacedStmt
    conditional = behind sym.If (and_then (enclosed sym.Open whole sym.Close) (λ c. and_then block (λ a.
        and_then (optional (behind sym.Else block)) (λ b.
        done (stmt.If c a.0 (option_map (λ (x : Closed). x.0) b))))))

    -- "for" "(" "int64_t" ID "=" LIT0 ";" ID "<" bound ";" ID "=" ID "+" LIT1 ")" block
    abbrev pub loop : Production PlacedStmt
    loop = behind sym.For (behind sym.Open (and_then declared (λ at. behind sym.Equal (after (of_value 0) (behind sym.Semicolon
        (and_then named (λ tested. behind sym.Less (and_then bound_of (λ b. behind sym.Semicolon
        (and_then named (λ set. behind sym.Equal (and_then named (λ counts. behind sym.Plus (after (of_value 1) (behind sym.Close
        (and_then block (λ body. done (stmt.For at tested b set counts body.0))))))))))))))))))

    -- stmt
    abbrev pub statement : Production PlacedStmt
    statement = either local (either assign (either store (either call (either conditional (either loop return)))))

  -- block = "{" { stmt } "}", where at most so many blocks are open at once
  unfoldable pub block : ℕ → Production Closed
  block zero = nowhere
  block (suc blocks) = behind sym.OpenBrace (and_then (repeated (statement (block blocks))) (λ stmts.
      and_then (word sym.CloseBrace) (λ word. done (record { stmts = stmts }, word.line))))

  -- object = "static" "int64_t" ID [ "[" LIT "]" ] ";"
  abbrev pub object : Production PlacedItem
  object = behind sym.Static (and_then declared (λ at.
      and_then (optional (enclosed sym.OpenBracket (word sym.Lit) sym.CloseBracket)) (λ cells.
      behind sym.Semicolon (done (item.Object (record {
        name = at;
        cells = option_map (λ (word : Word). record { line = word.line; count = pos (literal_value word.text) }) cells;
      }))))))

  -- func = ( "static" "void" | "static" "int64_t" | "int64_t" ) ID "(" params ")" block
  abbrev pub func : Production PlacedItem
  func = and_then form_of (λ f. and_then named (λ at. and_then (enclosed sym.Open params sym.Close) (λ xs.
      and_then (block depth) (λ body. done (item.Func (record { form = f; name = at; params = xs; body = body.0; end = body.1 }))))))

  -- text = proto { object | func }
  abbrev pub items : Production (List PlacedItem)
  items = repeated (either object func)

-- one of the words of the declaration of `nf_emit`
abbrev pub written : {A : Type 0} → List ℕ → Production A → Production A
written text p = after (is_written text) p

-- proto = "void" nf_emit "(" "int64_t" sign "," "int64_t" name "," "int64_t" begin "," "int64_t" end ")" ";"
abbrev pub proto : Production (List PlacedItem) → Production (List PlacedItem)
proto p = behind sym.Void (written (codes "nf_emit") (behind sym.Open
    (behind sym.Int64 (written (codes "sign") (behind sym.Comma
    (behind sym.Int64 (written (codes "name") (behind sym.Comma
    (behind sym.Int64 (written (codes "begin") (behind sym.Comma
    (behind sym.Int64 (written (codes "end") (behind sym.Close (behind sym.Semicolon p)))))))))))))))

-- text, where at most so many blocks of a function, and so many parentheses and brackets of an expression, are open at once: one limit for both, since both are 32
abbrev pub c_text_grammar : ℕ → Production (List PlacedItem)
c_text_grammar depth = proto (items depth)
