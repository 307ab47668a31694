-- The rules of a C text, token by token: what each expression, statement, object and function asks. At one token the rules are asked in the order of their kinds.
use Rattle.std.specs.Prelude.{ℕ, nat_abs, Bool, true, false, not, ◌&&◌, ◌||◌, nat_eq, List, [], map, length, codes, Option, Some, None, is_some, is_none, if◌then◌else◌}
use Rattle.nf_core.specs.Texts.{text_eq}
use Rattle.nf_core.specs.declared.operators.BinOp.{BinOp}
use Rattle.nf_core.specs.declared.operators.BinOp.TheVariants as op
use Rattle.nf_cast.specs.declared.rules.CRule.TheVariants as rule
use Rattle.nf_cast.specs.declared.rules.Breach.{Breach}
use Rattle.nf_cast.specs.declared.rules.Global.TheVariants as g
use Rattle.nf_cast.specs.declared.rules.Local.TheVariants as l
use Rattle.nf_cast.specs.declared.objects.CForm.{CForm}
use Rattle.nf_cast.specs.declared.objects.CForm.TheVariants as form
use Rattle.nf_cast.specs.declared.placed.PlacedName.{PlacedName}
use Rattle.nf_cast.specs.declared.placed.PlacedCells.{PlacedCells}
use Rattle.nf_cast.specs.declared.placed.PlacedExpr.{PlacedExpr, PlacedExpr-F, fold-PlacedExpr}
use Rattle.nf_cast.specs.declared.placed.PlacedExpr.TheOpen as e
use Rattle.nf_cast.specs.declared.placed.PlacedRight.{PlacedRight}
use Rattle.nf_cast.specs.declared.placed.PlacedRight.TheVariants as right
use Rattle.nf_cast.specs.declared.placed.PlacedBound.{PlacedBound}
use Rattle.nf_cast.specs.declared.placed.PlacedBound.TheVariants as bound
use Rattle.nf_cast.specs.declared.placed.PlacedStmt.{PlacedStmt, PlacedStmt-F, fold-PlacedStmt}
use Rattle.nf_cast.specs.declared.placed.PlacedStmt.TheOpen as s
use Rattle.nf_cast.specs.declared.placed.PlacedBlock.{PlacedBlock, PlacedBlock-F, fold-PlacedBlock}
use Rattle.nf_cast.specs.declared.placed.PlacedFunc.{PlacedFunc}
use Rattle.nf_cast.specs.declared.placed.PlacedItem.{PlacedItem}
use Rattle.nf_cast.specs.declared.placed.PlacedItem.TheVariants as item
use Rattle.nf_cast.specs.Book.{Book, Step, Needs, steps, demand, is_scalar, is_array, is_func, fresh, used, assigned, bounded, again, counted, valued, deepen, take_room, declare, publish, ends, within, has_interface, opening}

-- what an expression asks: whether it is a condition; the line of its first token; what is asked at that token, but its class; and what is asked after it
pub record Parts : Type 0 where
  pub condition : Bool
  pub line : ℕ
  pub front : Step
  pub rest : Step

-- nothing is asked
abbrev pub same : Step
same b = b

-- class: a condition stands where one is needed, and a value where one is
abbrev pub of_class : Bool → Parts → Step
of_class wanted a b = demand a.line rule.Class (if wanted then a.condition else not a.condition) b

-- a whole expression of a class
abbrev pub whole : Bool → Parts → Step
whole wanted a b = a.rest (of_class wanted a (a.front b))

-- `&&` and `||` need conditions, and every other operator needs values
unfoldable pub needs_conditions : BinOp → Bool
needs_conditions op.Or = true
needs_conditions op.And = true
needs_conditions o = false

-- `&&`, `||` and the comparisons are conditions, and every other operator is a value
unfoldable pub is_condition : BinOp → Bool
is_condition op.Add = false
is_condition op.Sub = false
is_condition op.Mul = false
is_condition op.Div = false
is_condition op.Rem = false
is_condition o = true

-- a value that begins with its one name or literal
abbrev pub value_parts : ℕ → Step → Step → Parts
value_parts line front rest = record { condition = false; line = line; front = front; rest = rest }

-- a unary operator and its operand
abbrev pub unary_parts : Bool → ℕ → Parts → Parts
unary_parts wanted line a = record { condition = wanted; line = line; front = same; rest = whole wanted a }

-- a binary operator begins with its left operand: of this the class is asked at the first token, and then the rest
abbrev pub binary_parts : BinOp → Parts → Parts → Parts
binary_parts o a c = record {
  condition = is_condition o;
  line = a.line;
  front = a.front;
  rest = λ b. whole (needs_conditions o) c (a.rest (of_class (needs_conditions o) a b));
}

-- parentheses have the class of what stands in them
abbrev pub parens_parts : ℕ → Parts → Parts
parens_parts line a = record { condition = a.condition; line = line; front = same; rest = λ b. a.rest (a.front b) }

-- what an expression asks, given what its operands ask
abbrev pub parts_layer : PlacedExpr-F Parts → Parts
parts_layer (e.Lit line n) = value_parts line same same
parts_layer (e.Name at) = value_parts at.line (used is_scalar at) same
parts_layer (e.Cell at i) = value_parts at.line (used is_array at) (whole false i)
parts_layer (e.Neg line a) = unary_parts false line a
parts_layer (e.Not line a) = unary_parts true line a
parts_layer (e.Bin o a c) = binary_parts o a c
parts_layer (e.Parens line a) = parens_parts line a

-- what an expression asks
unfoldable pub parts : PlacedExpr → Parts
parts = fold-PlacedExpr Parts parts_layer

-- an expression that is a value
abbrev pub value_rules : PlacedExpr → Step
value_rules a = whole false (parts a)

-- an expression that is a condition
abbrev pub condition_rules : PlacedExpr → Step
condition_rules a = whole true (parts a)

-- a call, at its name and then in its arguments
abbrev pub call_rules : PlacedName → List PlacedExpr → Step
call_rules at arguments b = steps (map value_rules arguments)
    (deepen at (counted (length arguments) at (used is_func at b)))

-- a call whose value is used
abbrev pub used_call_rules : PlacedName → List PlacedExpr → Step
used_call_rules at arguments b = steps (map value_rules arguments)
    (deepen at (valued at (counted (length arguments) at (used is_func at b))))

-- what stands to the right of `=`
unfoldable pub right_rules : PlacedRight → Step
right_rules (right.Call at arguments) = used_call_rules at arguments
right_rules (right.Value a) = value_rules a

-- a loop's bound
unfoldable pub bound_rules : PlacedBound → Step
bound_rules (bound.Lit n) b = b
bound_rules (bound.Name at) b = bounded at b

-- a loop's header behind its first name, which is visible from there on
unfoldable pub header_rules : List ℕ → PlacedName → PlacedBound → PlacedName → PlacedName → Step
header_rules x tested limit set counts b = again x counts (again x set (bound_rules limit (again x tested (declare x l.Loop b))))

-- what may be missing asks nothing then
unfoldable pub maybe : Option Step → Step
maybe None b = b
maybe (Some f) b = f b

-- the value that is returned, where there is one
unfoldable pub optional_rules : Option PlacedExpr → Step
optional_rules None b = b
optional_rules (Some a) b = value_rules a b

-- return: a void function gives no value, and every other one does
abbrev pub return_rules : ℕ → Option PlacedExpr → Step
return_rules line a b = ends true (optional_rules a (demand line rule.Return (if b.void then is_none a else is_some a) b))

-- what a statement asks, given what its blocks ask
abbrev pub stmt_layer : PlacedStmt-F Step Step → Step
stmt_layer (s.Local constant at r) b = ends false (declare at.name (if constant then l.Constant else l.Plain) (right_rules r (fresh at b)))
stmt_layer (s.Assign at r) b = ends false (right_rules r (assigned at b))
stmt_layer (s.Store at i a) b = ends false (value_rules a (value_rules i (used is_array at b)))
stmt_layer (s.Call at arguments) b = ends false (call_rules at arguments b)
stmt_layer (s.If c a d) b = ends false (maybe d (a (condition_rules c b)))
stmt_layer (s.For at tested limit set counts body) b = ends false (within (λ c. body (header_rules at.name tested limit set counts c)) (fresh at b))
stmt_layer (s.Return line a) b = return_rules line a b

-- what the statements of a block declare is visible in it alone
abbrev pub block_layer : PlacedBlock-F Step Step → Step
block_layer block = within (steps block.stmts)

-- what a statement asks
unfoldable pub stmt_rules : PlacedStmt → Step
stmt_rules = fold-PlacedStmt Step Step stmt_layer block_layer

-- what a block asks
unfoldable pub block_rules : PlacedBlock → Step
block_rules = fold-PlacedBlock Step Step stmt_layer block_layer

-- an object, of so many cells: a scalar has one
unfoldable pub object_rules : PlacedName → Option PlacedCells → Step
object_rules at None b = publish at.name g.Scalar (take_room at.line 1 (fresh at b))
object_rules at (Some cells) b = publish at.name (g.Array (nat_abs cells.count)) (take_room cells.line (nat_abs cells.count) (fresh at b))

-- whether a function is static
unfoldable pub is_static : CForm → Bool
is_static form.StaticVoid = true
is_static form.StaticInt = true
is_static form.Int = false

-- whether a function gives no value
unfoldable pub is_void : CForm → Bool
is_void form.StaticVoid = true
is_void form.StaticInt = false
is_void form.Int = false

-- interface: `nf_event` isn't static and has its number of parameters, and every other function is static
unfoldable pub fits_outside : Needs → CForm → List ℕ → ℕ → Bool
fits_outside needs f name params =
    if text_eq name (codes "nf_event") then not (is_static f) && nat_eq params needs.params else is_static f

-- a parameter is declared like a local
abbrev pub param_rules : PlacedName → Step
param_rules at b = declare at.name l.Plain (fresh at b)

-- a function begins: it has no locals, and calls no function yet
abbrev pub enter : Bool → Step
enter void b = record b { locals = []; depth = 1; void = void; ended = false }

-- a function ends: from its closing brace on it is visible
abbrev pub leave : List ℕ → ℕ → Step
leave name params b = publish name (g.Func params b.void b.depth) (record b { locals = [] })

-- return: a function that gives a value ends with a return
abbrev pub brace_rules : ℕ → Step
brace_rules line b = demand line rule.Return (b.void || b.ended) b

-- a function: its name, its parameters, its body, and its closing brace
unfoldable pub func_rules : Needs → PlacedFunc → Step
func_rules needs f b =
    leave f.name.name (length f.params) (brace_rules f.end (block_rules f.body (steps (map param_rules f.params)
    (enter (is_void f.form) (demand f.name.line rule.Interface (fits_outside needs f.form f.name.name (length f.params)) (fresh f.name b))))))

-- an object or a function
unfoldable pub item_rules : Needs → PlacedItem → Step
item_rules needs (item.Object o) = object_rules o.name o.cells
item_rules needs (item.Func f) = func_rules needs f

-- a whole text, of which the end stands at a line
abbrev pub text_rules : Needs → ℕ → List PlacedItem → Book
text_rules needs last items = let b = steps (map (item_rules needs) items) opening in demand last rule.Interface (has_interface needs b) b

-- the first breach of a text
unfoldable pub breach_of : Needs → ℕ → List PlacedItem → Option Breach
breach_of needs last items = (text_rules needs last items).first
