-- The reader of rules, modules and files as functions on states, over a reader of expressions.
use Rattle.std.specs.Prelude.{ℕ, Bool, ◌||◌, not, List, [], Option, Some, is_some, unwrap_or}
use Rattle.nf_core.specs.declared.operators.Op.{Op}
use Rattle.nf_core.specs.declared.operators.Xop.{Xop}
use Rattle.nf_core.specs.declared.trees.Expr.{Expr}
use Rattle.nf_core.specs.declared.trees.Atom.{Atom}
use Rattle.nf_core.specs.declared.trees.Body.{Body}
use Rattle.nf_core.specs.declared.trees.Body.TheVariants as body
use Rattle.nf_core.specs.declared.trees.Entry.{Entry}
use Rattle.nf_core.specs.declared.trees.Rule.{Rule}
use Rattle.nf_core.specs.declared.trees.Module.{Module}
use Rattle.nf_grammar.specs.inner.Parsers as parser
use Rattle.nf_grammar.specs.inner.Parsers.{and_then, done, choose, repeated, alone, in_table}
use Rattle.nf_parse.specs.declared.symbol.Sym.{Sym}
use Rattle.nf_parse.specs.declared.symbol.Sym.TheVariants.{Ident, Import, Where, Map, Begin, End, Unless, Defines, Arrow, OpenBrace, CloseBrace, Comma, Semicolon, Colon}
use Rattle.nf_parse.specs.declared.symbol.Sym.TheVariants as sym
use Rattle.nf_parse.specs.State.{Word}
use Rattle.nf_core.specs.declared.limits.TheConstants.{MOST_OPEN}
use Rattle.nf_parse.specs.Grammar.{op_of, xop_of, atom_of, Item, loose, named, unnamed, modules_of}
use Rattle.nf_parse.specs.inner.Parsers.{Parser, is_kind, token, after, enclosed, optional, separated}
use Rattle.nf_parse.specs.inner.Reading as reading

-- [ ":" IDENT ]
abbrev pub name_behind : Parser (Option (List ℕ))
name_behind = optional (is_kind Colon) (after Colon (token Ident))

-- atom = IDENT [ ":" IDENT ]
unfoldable pub atom : Parser Atom
atom = and_then (token Ident) (λ word. and_then name_behind (λ name. done (atom_of word name)))

-- what a word is as an operator of rules
abbrev pub op_of_word : Word → Option Op
op_of_word word = op_of word.0

abbrev pub xop_of_word : Word → Option Xop
xop_of_word word = xop_of word.0

-- op atom
unfoldable pub pair : Atom → Parser Body
pair first = and_then (parser.token op_of_word) (λ o.
    and_then atom (λ second. done (body.Pair first o second)))

-- "unless" xop atom
unfoldable pub exclusive : Atom → Parser Body
exclusive first = after Unless (and_then (parser.token xop_of_word) (λ x.
    and_then atom (λ second. done (body.Unless first x second))))

-- whether a word is an inclusive operator
abbrev pub is_op : Option Word → Bool
is_op n = is_some (in_table op_of_word n)

-- whether a body has nothing behind its first atom before a word
abbrev pub ends_body : Option Word → Bool
ends_body n = not (is_op n || is_kind Unless n)

-- what stands behind the first atom of a body
abbrev pub body_behind : Atom → Parser Body
body_behind first = choose ends_body (done (body.One first))
    (choose is_op (pair first) (exclusive first))

-- body = atom | atom op atom | atom "unless" xop atom
unfoldable pub rule_body : Parser Body
rule_body = and_then atom body_behind

-- "," IDENT
abbrev pub next_name : Parser (List ℕ)
next_name = after Comma (token Ident)

-- IDENT { "," IDENT }
abbrev pub name_list : Parser (List (List ℕ))
name_list = separated Comma (token Ident)

-- "import" IDENT { "," IDENT } ";"
unfoldable pub imports : Parser (List (List ℕ))
imports = after Import (and_then name_list (λ names. after Semicolon (done names)))

-- [ "import" .. ]
abbrev pub optional_imports : Parser (Option (List (List ℕ)))
optional_imports = optional (is_kind Import) imports

-- whether a word is an identifier, with which rules begin
abbrev pub is_ident : Option Word → Bool
is_ident n = is_kind Ident n

module _ (expression : Parser Expr) where
  -- a keyword and its expression
  unfoldable pub clause : Sym → Parser Expr
  clause k = after k (alone expression)

  -- a keyword and its expression, where the keyword comes next
  abbrev pub optional_clause : Sym → Parser (Option Expr)
  optional_clause k = optional (is_kind k) (clause k)

  -- entry = IDENT "->" expr
  unfoldable pub entry : Parser Entry
  entry = and_then (token Ident) (λ key. and_then (clause Arrow) (λ value.
      done (record { key = key; value = value })))

  -- "," entry
  abbrev pub next_entry : Parser Entry
  next_entry = after Comma entry

  -- entry { "," entry }
  abbrev pub entry_list : Parser (List Entry)
  entry_list = separated Comma entry

  -- [ entry { "," entry } ]
  abbrev pub inner_entries : Parser (Option (List Entry))
  inner_entries = optional is_ident entry_list

  -- "map" "{" [ entry { "," entry } ] "}"
  unfoldable pub entries : Parser (List Entry)
  entries = after Map (and_then (enclosed OpenBrace inner_entries CloseBrace)
      (λ entries. done (unwrap_or entries [])))

  -- [ "map" .. ]
  abbrev pub optional_entries : Parser (Option (List Entry))
  optional_entries = optional (is_kind Map) entries

  -- rule = IDENT ":-" body [ "where" expr ] [ "map" .. ] [ "begin" expr ] [ "end" expr ]
  unfoldable pub rule : Parser Rule
  rule = and_then (token Ident) (λ head. after Defines (and_then rule_body (λ body.
      and_then (optional_clause Where) (λ filter. and_then optional_entries (λ entries.
      and_then (optional_clause Begin) (λ start. and_then (optional_clause End) (λ stop.
      done (record {
        head = head;
        body = body;
        filter = filter;
        entries = unwrap_or entries [];
        start = start;
        stop = stop;
      }))))))))

  -- { rule }
  unfoldable pub rules : Parser (List Rule)
  rules = repeated is_ident rule

  -- module = "module" IDENT "{" [ "import" .. ] { rule } "}"
  unfoldable pub module_word : Parser Module
  module_word = after sym.Module (and_then (token Ident) (λ name. enclosed OpenBrace
      (and_then optional_imports (λ imports. and_then rules (λ rules.
      done (record { name = Some name; imports = unwrap_or imports []; rules = rules }))))
      CloseBrace))

  -- rule | module
  unfoldable pub item : Parser Item
  item = choose is_ident (and_then rule (λ rule. done (loose rule)))
      (and_then module_word (λ m. done (named m)))

  -- file = { rule | module }, up to the end of the words
  unfoldable pub file : Parser (List Module)
  file = and_then (repeated is_some item) (λ items. done (modules_of items))

-- the rules here, as long as one follows another, as a module without name
abbrev pub run_of_rules : Parser Expr → Parser Module
run_of_rules expression = and_then (rules expression) (λ rules. done (unnamed rules))

-- a module with a name, or a run of rules
unfoldable pub part : Parser Expr → Parser Module
part expression = choose is_ident (run_of_rules expression) (module_word expression)

-- an expression with at most so many parentheses open at once as the limit is
unfoldable pub limited : Parser Expr
limited = reading.expression (reading.paren MOST_OPEN)
