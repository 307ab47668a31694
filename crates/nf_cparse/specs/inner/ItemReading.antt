-- The reader of objects, of functions and of whole texts as functions on states.
use Rattle.std.specs.Prelude.{ℕ, pos, List, [], Option, is_some, codes}
use Rattle.nf_cast.specs.declared.objects.CForm.{CForm}
use Rattle.nf_cast.specs.declared.objects.CForm.TheVariants as form
use Rattle.nf_cast.specs.declared.placed.PlacedName.{PlacedName}
use Rattle.nf_cast.specs.declared.placed.PlacedCells.{PlacedCells}
use Rattle.nf_cast.specs.declared.placed.PlacedItem.{PlacedItem}
use Rattle.nf_cast.specs.declared.placed.PlacedItem.TheVariants as item'
use Rattle.nf_grammar.specs.inner.Parsers as parser
use Rattle.nf_grammar.specs.inner.Parsers.{and_then, done, choose, repeated}
use Rattle.nf_cparse.specs.declared.symbol.Sym.TheVariants as sym
use Rattle.nf_cparse.specs.Lexing.{Word}
use Rattle.nf_cparse.specs.Grammar.{literal_value, is_written}
use Rattle.nf_cparse.specs.inner.Parsers.{Parser, is_kind, token, after, enclosed, optional, separated}
use Rattle.nf_cparse.specs.inner.ExpressionReading.{named}
use Rattle.nf_cparse.specs.inner.StatementReading.{declared, block}

-- "," "int64_t" ID
abbrev pub next_param : Parser PlacedName
next_param = after sym.Comma declared

-- "int64_t" ID { "," "int64_t" ID }
abbrev pub param_list : Parser (List PlacedName)
param_list = separated sym.Comma declared

-- params = "void" | "int64_t" ID { "," "int64_t" ID }
unfoldable pub params : Parser (List PlacedName)
params = choose (is_kind sym.Void) (after sym.Void (done [])) param_list

-- "(" params ")"
unfoldable pub closed_params : Parser (List PlacedName)
closed_params = enclosed sym.Open params sym.Close

-- the number of cells that a literal gives
abbrev pub cells_of : Word → PlacedCells
cells_of word = record { line = word.line; count = pos (literal_value word.text) }

-- "[" LIT "]"
unfoldable pub size : Parser PlacedCells
size = after sym.OpenBracket (and_then (token sym.Lit) (λ word. after sym.CloseBracket (done (cells_of word))))

-- [ "[" LIT "]" ]
abbrev pub cells : Parser (Option PlacedCells)
cells = optional (is_kind sym.OpenBracket) size

-- [ "[" LIT "]" ] ";" behind the name of an object
unfoldable pub object_behind : PlacedName → Parser PlacedItem
object_behind at = and_then cells (λ found. after sym.Semicolon (done (item'.Object (record { name = at; cells = found }))))

-- "int64_t" and one of the names of the declaration of `nf_emit`
unfoldable pub parameter : List ℕ → Parser (Unit {0})
parameter text = after sym.Int64 (and_then (parser.token (is_written text)) (λ word. done tt))

-- "," and one more
unfoldable pub next_parameter : List ℕ → Parser (Unit {0})
next_parameter text = after sym.Comma (parameter text)

-- "void" nf_emit "(" .. ")" ";"
unfoldable pub declaration : Parser (Unit {0})
declaration = after sym.Void (and_then (parser.token (is_written (codes "nf_emit"))) (λ word. after sym.Open
    (and_then (parameter (codes "sign")) (λ first. and_then (next_parameter (codes "name")) (λ second.
    and_then (next_parameter (codes "begin")) (λ third. and_then (next_parameter (codes "end")) (λ fourth.
    after sym.Close (after sym.Semicolon (done tt)))))))))

-- at most so many blocks of a function, and so many parentheses and brackets of an expression, are open at once
module _ (depth : ℕ) where
  -- "(" params ")" block behind the name of a function
  unfoldable pub func_behind : CForm → PlacedName → Parser PlacedItem
  func_behind f at = and_then closed_params (λ xs. and_then (block depth depth) (λ body.
      done (item'.Func (record { form = f; name = at; params = xs; body = body.0; end = body.1 }))))

  -- ID "(" params ")" block
  unfoldable pub func : CForm → Parser PlacedItem
  func f = and_then named (func_behind f)

  -- what stands behind "static" "int64_t" ID, by the next word
  unfoldable pub behind_declared : PlacedName → Parser PlacedItem
  behind_declared at = choose (is_kind sym.Open) (func_behind form.StaticInt at) (object_behind at)

  -- what stands behind "static", by the next word
  unfoldable pub behind_static : Parser PlacedItem
  behind_static = choose (is_kind sym.Void) (after sym.Void (func form.StaticVoid)) (and_then declared behind_declared)

  -- an object or a function, by its first words
  unfoldable pub item : Parser PlacedItem
  item = choose (is_kind sym.Static) (after sym.Static behind_static) (after sym.Int64 (func form.Int))

  -- { object | func }, up to the end of the words
  abbrev pub items : Parser (List PlacedItem)
  items = repeated is_some item

  -- text = proto { object | func }
  unfoldable pub text : Parser (List PlacedItem)
  text = and_then declaration (λ read. items)
