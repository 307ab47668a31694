-- The grammar of a specification, production by production. In quotation marks stand the words themselves, IDENT, NUMBER and TEXT are kinds of tokens, [ ] is an optional part, { } a repeated one, | a choice.
use Rattle.std.specs.Prelude.{ℕ, zero, suc, pos, List, [], ◌∷◌, Option, Some, None, unwrap_or, option_to_list, true, false}
use Rattle.std.specs.Str.Parse.{digits_value}
use Rattle.nf_core.specs.declared.operators.BinOp.{BinOp}
use Rattle.nf_core.specs.declared.operators.BinOp.TheVariants as binary
use Rattle.nf_core.specs.declared.operators.Op.{Op}
use Rattle.nf_core.specs.declared.operators.Op.TheVariants as op
use Rattle.nf_core.specs.declared.operators.Xop.{Xop}
use Rattle.nf_core.specs.declared.operators.Xop.TheVariants as xop
use Rattle.nf_core.specs.declared.trees.Expr.{Expr}
use Rattle.nf_core.specs.declared.trees.Expr.TheVariants as e
use Rattle.nf_core.specs.declared.trees.Atom.{Atom}
use Rattle.nf_core.specs.declared.trees.Body.{Body}
use Rattle.nf_core.specs.declared.trees.Body.TheVariants as body
use Rattle.nf_core.specs.declared.trees.Entry.{Entry}
use Rattle.nf_core.specs.declared.trees.Rule.{Rule}
use Rattle.nf_core.specs.declared.trees.Module.{Module}
use Rattle.nf_lex.specs.Faults.{body_of}
use Rattle.nf_parse.specs.declared.level.Level.{Level}
use Rattle.nf_parse.specs.declared.level.Level.TheVariants as level
use Rattle.nf_parse.specs.declared.symbol.Sym.{Sym}
use Rattle.nf_parse.specs.declared.symbol.Sym.TheVariants.{Ident, Number, Text, Import, Where, Map, Begin, End, Unless, True, False, Defines, Arrow, Bang, Minus, Open, Close, OpenBrace, CloseBrace, Comma, Semicolon, Dot, Colon}
use Rattle.nf_parse.specs.declared.symbol.Sym.TheVariants as sym
use Rattle.nf_grammar.specs.Parts.{Part, token, counted, done, nowhere, and_then, either, repeated, alone, after, between, optional, separated}
use Rattle.nf_parse.specs.State.{Word, of_kind}

-- a production gives trees of one kind
abbrev pub Production : Type 0 → Type 1
Production A = Part Word A

-- one word of a kind, which gives its bytes
abbrev pub word : Sym → Production (List ℕ)
word k = token (of_kind k)

-- a word of a kind, and then a production
abbrev pub behind : {A : Type 0} → Sym → Production A → Production A
behind k p = after (of_kind k) p

-- a production between two words
abbrev pub enclosed : {A : Type 0} → Sym → Production A → Sym → Production A
enclosed opening p closing = between (of_kind opening) p (of_kind closing)

-- the operators of each level
unfoldable pub op_at : Level → Sym → Option BinOp
op_at level.Or sym.Or = Some binary.Or
op_at level.And sym.And = Some binary.And
op_at level.Compare sym.Equal = Some binary.Eq
op_at level.Compare sym.NotEqual = Some binary.Ne
op_at level.Compare sym.Less = Some binary.Lt
op_at level.Compare sym.LessEqual = Some binary.Le
op_at level.Compare sym.Greater = Some binary.Gt
op_at level.Compare sym.GreaterEqual = Some binary.Ge
op_at level.Sum sym.Plus = Some binary.Add
op_at level.Sum sym.Minus = Some binary.Sub
op_at level.Product sym.Star = Some binary.Mul
op_at level.Product sym.Slash = Some binary.Div
op_at level.Product sym.Percent = Some binary.Rem
op_at other k = None

-- an operator of a level, which is counted
abbrev pub operator : Level → Production BinOp
operator l = counted (λ (word : Word). op_at l word.0)

-- an expression and what stands behind it, operators each with its right operand: left associative
unfoldable pub joined : Expr → List (BinOp × Expr) → Expr
joined left [] = left
joined left (next ∷ rest) = joined (e.Bin next.0 left next.1) rest

-- an operator of a level with its right operand
abbrev pub with_operand : Level → Production Expr → Production (BinOp × Expr)
with_operand l operand = and_then (operator l) (λ o. and_then operand (λ right. done (o, right)))

-- operand { operator operand }
abbrev pub chain : Level → Production Expr → Production Expr
chain l operand = and_then operand (λ left.
    and_then (repeated (with_operand l operand)) (λ rest. done (joined left rest)))

-- operand [ operator operand ]
abbrev pub single : Level → Production Expr → Production Expr
single l operand = and_then operand (λ left.
    and_then (optional (with_operand l operand)) (λ rest. done (joined left (option_to_list rest))))

-- what is read under a label: IDENT | "begin" | "end"
abbrev pub member : List ℕ → Production Expr
member label = either (and_then (word Ident) (λ key. done (e.Key label key)))
    (either (behind Begin (done (e.Start label))) (behind End (done (e.Stop label))))

-- IDENT "." ( IDENT | "begin" | "end" )
abbrev pub read : Production Expr
read = and_then (word Ident) (λ label. behind Dot (member label))

-- prim = NUMBER | TEXT | "true" | "false" | IDENT "." ( IDENT | "begin" | "end" ) | "(" expr ")", where what is given stands for "(" expr ")"
abbrev pub primary : Production Expr → Production Expr
primary paren =
    either (and_then (word Number) (λ bytes. done (e.Int (pos (digits_value 10 bytes)))))
    (either (and_then (word Text) (λ bytes. done (e.Text (body_of bytes))))
    (either (behind True (done (e.Bool true)))
    (either (behind False (done (e.Bool false)))
    (either read paren))))

-- a sign of an operand
unfoldable pub sign_of : Sym → Option (Expr → Expr)
sign_of sym.Minus = Some (λ x. e.Neg x)
sign_of sym.Bang = Some (λ x. e.Not x)
sign_of k = None

-- signs in front of an operand, each of all that stands behind it
unfoldable pub signed : List (Expr → Expr) → Expr → Expr
signed [] x = x
signed (sign ∷ signs) x = sign (signed signs x)

-- unary = ( "-" | "!" ) unary | prim: signs, which are counted as operators, and then an operand without any
abbrev pub unary : Production Expr → Production Expr
unary prim = and_then (repeated (counted (λ (word : Word). sign_of word.0)))
    (λ signs. and_then prim (λ x. done (signed signs x)))

-- what is given stands for "(" expr ")"
module _ (paren : Production Expr) where
  -- prod = unary { ( "*" | "/" | "%" ) unary }
  abbrev pub product : Production Expr
  product = chain level.Product (unary (primary paren))

  -- sum = prod { ( "+" | "-" ) prod }
  abbrev pub sum : Production Expr
  sum = chain level.Sum product

  -- comp = sum [ ( "=" | "!=" | "<" | "<=" | ">" | ">=" ) sum ]
  abbrev pub comparison : Production Expr
  comparison = single level.Compare sum

  -- conj = comp { "&" comp }
  abbrev pub conjunction : Production Expr
  conjunction = chain level.And comparison

  -- expr = conj { "|" conj }
  abbrev pub expression : Production Expr
  expression = chain level.Or conjunction

-- "(" expr ")", where at most so many parentheses are open at once
unfoldable pub paren : ℕ → Production Expr
paren zero = nowhere
paren (suc depth) = enclosed Open (expression (paren depth)) Close

-- op = "before" | "meet" | "during" | "coincide" | "start" | "finish" | "overlap" | "slice"
unfoldable pub op_of : Sym → Option Op
op_of sym.Before = Some op.Before
op_of sym.Meet = Some op.Meet
op_of sym.During = Some op.During
op_of sym.Coincide = Some op.Coincide
op_of sym.Start = Some op.Start
op_of sym.Finish = Some op.Finish
op_of sym.Overlap = Some op.Overlap
op_of sym.Slice = Some op.Slice
op_of k = None

-- xop = "after" | "follow" | "contain"
unfoldable pub xop_of : Sym → Option Xop
xop_of sym.After = Some xop.After
xop_of sym.Follow = Some xop.Follow
xop_of sym.Contain = Some xop.Contain
xop_of k = None

-- an atom without a label has the label of its name
abbrev pub atom_of : List ℕ → Option (List ℕ) → Atom
atom_of word None = record { label = word; name = word }
atom_of word (Some name) = record { label = word; name = name }

-- atom = IDENT [ ":" IDENT ]
abbrev pub atom : Production Atom
atom = and_then (word Ident) (λ label.
    and_then (optional (behind Colon (word Ident))) (λ name. done (atom_of label name)))

-- a side of a body is an atom
abbrev pub side : Production Atom
side = atom

-- body = atom | atom op atom | atom "unless" xop atom
abbrev pub rule_body : Production Body
rule_body = and_then side (λ first. either (done (body.One first)) (either
    (and_then (token (λ (word : Word). op_of word.0)) (λ o.
    and_then side (λ second. done (body.Pair first o second))))
    (behind Unless (and_then (token (λ (word : Word). xop_of word.0)) (λ x.
    and_then side (λ second. done (body.Unless first x second)))))))

-- an item of a file: a rule outside modules, or a module
pub data Item : Type 0 where
  loose : Rule → Item
  named : Module → Item

-- in what follows at most so many parentheses are open at once in an expression
module _ (depth : ℕ) where
  -- a keyword and its expression, which is one by itself
  abbrev pub clause : Sym → Production Expr
  clause k = behind k (alone (expression (paren depth)))

  -- entry = IDENT "->" expr
  abbrev pub entry : Production Entry
  entry = and_then (word Ident) (λ key. and_then (clause Arrow) (λ value.
      done (record { key = key; value = value })))

  -- "map" "{" [ entry { "," entry } ] "}"
  abbrev pub entries : Production (List Entry)
  entries = behind Map (and_then
      (enclosed OpenBrace (optional (separated (of_kind Comma) entry)) CloseBrace)
      (λ found. done (unwrap_or found [])))

  -- rule = IDENT ":-" body [ "where" expr ] [ "map" .. ] [ "begin" expr ] [ "end" expr ]; no map is an empty one
  abbrev pub rule : Production Rule
  rule = and_then (word Ident) (λ head. behind Defines (and_then rule_body (λ body.
      and_then (optional (clause Where)) (λ filter. and_then (optional entries) (λ found.
      and_then (optional (clause Begin)) (λ start. and_then (optional (clause End)) (λ stop.
      done (record {
        head = head;
        body = body;
        filter = filter;
        entries = unwrap_or found [];
        start = start;
        stop = stop;
      }))))))))

  -- "import" IDENT { "," IDENT } ";"
  abbrev pub imports : Production (List (List ℕ))
  imports = behind Import (and_then (separated (of_kind Comma) (word Ident)) (λ names.
      behind Semicolon (done names)))

  -- module = "module" IDENT "{" [ "import" .. ] { rule } "}"
  abbrev pub named_module : Production Module
  named_module = behind sym.Module (and_then (word Ident) (λ name. enclosed OpenBrace
      (and_then (optional imports) (λ names. and_then (repeated rule) (λ rules.
      done (record { name = Some name; imports = unwrap_or names []; rules = rules }))))
      CloseBrace))

  -- rule | module
  abbrev pub item : Production Item
  item = either (and_then rule (λ r. done (loose r))) (and_then named_module (λ m. done (named m)))

-- a module without name
abbrev pub unnamed : List Rule → Module
unnamed rules = record { name = None; imports = []; rules = rules }

-- a rule in front of modules: in the first one where that has no name, else in a module without name of its own
abbrev pub in_front : Rule → List Module → List Module
in_front rule [] = unnamed (rule ∷ []) ∷ []
in_front rule (first ∷ modules) = elim first.name [
  | None ↦ unnamed (rule ∷ first.rules) ∷ modules
  | Some name ↦ unnamed (rule ∷ []) ∷ first ∷ modules
]

-- the modules of a file's items: each longest run of rules outside modules is a module without name
unfoldable pub modules_of : List Item → List Module
modules_of [] = []
modules_of (loose rule ∷ items) = in_front rule (modules_of items)
modules_of (named m ∷ items) = m ∷ modules_of items

-- file = { rule | module }
abbrev pub file : ℕ → Production (List Module)
file depth = and_then (repeated (item depth)) (λ items. done (modules_of items))
