-- The reader of statements and blocks as functions on states.
use Rattle.std.specs.Prelude.{ℕ, zero, suc, pos, Bool, true, false, ◌&&◌, ◌||◌, not, List, [], Option, Some, None, option_map, unwrap_or, if◌then◌else◌}
use Rattle.nf_cast.specs.declared.placed.PlacedName.{PlacedName}
use Rattle.nf_cast.specs.declared.placed.PlacedExpr.{PlacedExpr}
use Rattle.nf_cast.specs.declared.placed.PlacedRight.{PlacedRight}
use Rattle.nf_cast.specs.declared.placed.PlacedRight.TheVariants as right
use Rattle.nf_cast.specs.declared.placed.PlacedBound.{PlacedBound}
use Rattle.nf_cast.specs.declared.placed.PlacedBound.TheVariants as bound
use Rattle.nf_cast.specs.declared.placed.PlacedStmt.{PlacedStmt}
use Rattle.nf_cast.specs.declared.placed.PlacedStmt.TheVariants as stmt
use Rattle.nf_grammar.specs.State.{next, next_of}
use Rattle.nf_grammar.specs.inner.Parsers as parser
use Rattle.nf_grammar.specs.inner.Parsers.{and_then, done, choose, repeated, nowhere, alone, tail_of}
use Rattle.nf_cparse.specs.declared.symbol.Sym.{Sym}
use Rattle.nf_cparse.specs.declared.symbol.Sym.TheVariants as sym
use Rattle.nf_cparse.specs.Lexing.{Word}
use Rattle.nf_cparse.specs.Grammar.{literal_value, of_value, Closed}
use Rattle.nf_cparse.specs.inner.Parsers.{State, Parser, kind_of_next, is_kind, token, after, enclosed, optional, separated}
use Rattle.nf_cparse.specs.inner.ExpressionReading.{named, expression, nest}

-- whether a word is of another kind, or there is none
abbrev pub is_no : Sym → Option Word → Bool
is_no k n = not (is_kind k n)

-- the word behind the next one, if there is one
abbrev pub second : State → Option Word
second s = next_of (tail_of s.words)

-- whether a call comes next: a name, and "(" behind it
abbrev pub begins_call : State → Bool
begins_call s = is_kind sym.Ident (next s) && is_kind sym.Open (second s)

-- "int64_t" ID
unfoldable pub declared : Parser PlacedName
declared = after sym.Int64 named

-- "const", or nothing
unfoldable pub constant : Parser Bool
constant = choose (is_kind sym.Const) (after sym.Const (done true)) (done false)

-- bound = LIT | ID
unfoldable pub bound_of : Parser PlacedBound
bound_of = choose (is_kind sym.Lit) (and_then (token sym.Lit) (λ word. done (bound.Lit (pos (literal_value word.text)))))
    (and_then named (λ at. done (bound.Name at)))

-- a literal of this value
abbrev pub valued : ℕ → Parser Word
valued n = parser.token (of_value n)

-- "int64_t" ID "=" LIT0 ";"
unfoldable pub header_start : Parser PlacedName
header_start = and_then declared (λ at. after sym.Equal (and_then (valued 0) (λ word. after sym.Semicolon (done at))))

-- ID "<" bound ";"
unfoldable pub header_test : Parser (PlacedName × PlacedBound)
header_test = and_then named (λ tested. after sym.Less (and_then bound_of (λ b. after sym.Semicolon (done (tested, b)))))

-- ID "=" ID "+" LIT1
unfoldable pub header_step : Parser (PlacedName × PlacedName)
header_step = and_then named (λ set. after sym.Equal (and_then named (λ counted. after sym.Plus
    (and_then (valued 1) (λ word. done (set, counted))))))

-- whether a statement may begin with a word of a kind
unfoldable pub starts : Sym → Bool
starts sym.Const = true
starts sym.Int64 = true
starts sym.Ident = true
starts sym.If = true
starts sym.For = true
starts sym.Return = true
starts k = false

abbrev pub begins_with : Option Sym → Bool
begins_with None = false
begins_with (Some k) = starts k

abbrev pub begins_statement : Option Word → Bool
begins_statement n = begins_with (kind_of_next n)

-- whether a declaration begins with a word
abbrev pub begins_local : Option Word → Bool
begins_local n = is_kind sym.Const n || is_kind sym.Int64 n

-- in what follows at most so many parentheses and brackets are open at once in an expression
module _ (depth : ℕ) where
  -- an expression that stands in no other one
  unfoldable pub whole : Parser PlacedExpr
  whole = alone (expression (nest depth))

  -- "," e
  abbrev pub next_argument : Parser PlacedExpr
  next_argument = after sym.Comma whole

  -- e { "," e }
  abbrev pub argument_list : Parser (List PlacedExpr)
  argument_list = separated sym.Comma whole

  -- [ e { "," e } ]
  abbrev pub optional_arguments : Parser (Option (List PlacedExpr))
  optional_arguments = optional (is_no sym.Close) argument_list

  -- "(" [ e { "," e } ] ")"
  unfoldable pub arguments : Parser (List PlacedExpr)
  arguments = and_then (enclosed sym.Open optional_arguments sym.Close) (λ found. done (unwrap_or found []))

  -- a call as a value
  unfoldable pub called : Parser PlacedRight
  called = and_then named (λ at. and_then arguments (λ found. done (right.Call at found)))

  -- an expression as a value
  unfoldable pub computed : Parser PlacedRight
  computed = and_then whole (λ a. done (right.Value a))

  -- right = ID "(" [ e { "," e } ] ")" | e
  unfoldable pub right_of : Parser PlacedRight
  right_of s = if begins_call s then called s else computed s

  -- "=" right ";"
  unfoldable pub set_to : Parser PlacedRight
  set_to = after sym.Equal (and_then right_of (λ r. after sym.Semicolon (done r)))

  -- [ "const" ] "int64_t" ID "=" right ";"
  unfoldable pub local : Parser PlacedStmt
  local = and_then constant (λ fixed. and_then declared (λ at. and_then set_to (λ r. done (stmt.Local fixed at r))))

  -- "=" right ";" behind a name
  unfoldable pub assign_behind : PlacedName → Parser PlacedStmt
  assign_behind at = and_then set_to (λ r. done (stmt.Assign at r))

  -- "[" e "]"
  unfoldable pub place : Parser PlacedExpr
  place = enclosed sym.OpenBracket whole sym.CloseBracket

  -- "[" e "]" "=" e ";" behind a name
  unfoldable pub store_behind : PlacedName → Parser PlacedStmt
  store_behind at = and_then place (λ i. after sym.Equal (and_then whole (λ a. after sym.Semicolon (done (stmt.Store at i a)))))

  -- "(" [ e { "," e } ] ")" ";" behind a name
  unfoldable pub call_behind : PlacedName → Parser PlacedStmt
  call_behind at = and_then arguments (λ found. after sym.Semicolon (done (stmt.Call at found)))

  -- what stands behind the name with which a statement begins
  unfoldable pub behind_name : PlacedName → Parser PlacedStmt
  behind_name at = choose (is_kind sym.Open) (call_behind at)
      (choose (is_kind sym.OpenBracket) (store_behind at) (assign_behind at))

  -- a statement that begins with a name
  unfoldable pub named_statement : Parser PlacedStmt
  named_statement = and_then named behind_name

  -- [ e ] before ";"
  abbrev pub returned : Parser (Option PlacedExpr)
  returned = optional (is_no sym.Semicolon) whole

  -- "return" [ e ] ";"
  unfoldable pub exit : Parser PlacedStmt
  exit = and_then (token sym.Return) (λ word. and_then returned (λ a. after sym.Semicolon (done (stmt.Return word.line a))))

  -- "(" e ")" behind "if"
  unfoldable pub condition : Parser PlacedExpr
  condition = enclosed sym.Open whole sym.Close

  -- what is given stands for a block
  module _ (block : Parser Closed) where
    -- [ "else" block ]
    abbrev pub otherwise : Parser (Option Closed)
    otherwise = optional (is_kind sym.Else) (after sym.Else block)

    -- "if" "(" e ")" block [ "else" block ]
    unfoldable pub conditional : Parser PlacedStmt
    conditional = after sym.If (and_then condition (λ c. and_then block (λ a.
        and_then otherwise (λ b. done (stmt.If c a.0 (option_map (λ (x : Closed). x.0) b))))))

    -- "for" "(" .. ")" block
    unfoldable pub counted_loop : Parser PlacedStmt
    counted_loop = after sym.For (after sym.Open (and_then header_start (λ at. and_then header_test (λ test. and_then header_step (λ step.
        after sym.Close (and_then block (λ body. done (stmt.For at test.0 test.1 step.0 step.1 body.0))))))))

    -- a statement, by its first word
    unfoldable pub statement : Parser PlacedStmt
    statement = choose begins_local local (choose (is_kind sym.Ident) named_statement
        (choose (is_kind sym.If) conditional (choose (is_kind sym.For) counted_loop exit)))

    -- { stmt }
    abbrev pub statements : Parser (List PlacedStmt)
    statements = repeated begins_statement statement

    -- "{" { stmt } "}"
    unfoldable pub closed_block : Parser Closed
    closed_block = after sym.OpenBrace (and_then statements (λ stmts.
        and_then (token sym.CloseBrace) (λ word. done (record { stmts = stmts }, word.line))))

  -- a block, where at most so many are open at once
  unfoldable pub block : ℕ → Parser Closed
  block zero = nowhere (is_kind sym.OpenBrace)
  block (suc blocks) = closed_block (block blocks)

  -- statements with blocks, of which at most so many are open at once
  abbrev pub conditional_at : ℕ → Parser PlacedStmt
  conditional_at blocks = conditional (block blocks)

  abbrev pub otherwise_at : ℕ → Parser (Option Closed)
  otherwise_at blocks = otherwise (block blocks)

  abbrev pub counted_loop_at : ℕ → Parser PlacedStmt
  counted_loop_at blocks = counted_loop (block blocks)

  abbrev pub statement_at : ℕ → Parser PlacedStmt
  statement_at blocks = statement (block blocks)

  abbrev pub statements_at : ℕ → Parser (List PlacedStmt)
  statements_at blocks = statements (block blocks)
