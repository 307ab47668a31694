-- The trees of a C text and the trees as they are written.
use Rattle.std.specs.Prelude.{ℕ, ℤ, Bool, true, ◌&&◌, List, map, Option, Some, None}
use Rattle.std.specs.List.{list_all}
use Rattle.nf_core.specs.Texts.{text_eq}
use Rattle.nf_cast.specs.declared.expressions.CExpr.{CExpr, CExpr-F, fold-CExpr}
use Rattle.nf_cast.specs.declared.expressions.CExpr.TheOpen as open_expr
use Rattle.nf_cast.specs.declared.expressions.CExpr.TheVariants as expr
use Rattle.nf_cast.specs.declared.expressions.CRight.{CRight}
use Rattle.nf_cast.specs.declared.expressions.CRight.TheVariants as right
use Rattle.nf_cast.specs.declared.expressions.CBound.{CBound}
use Rattle.nf_cast.specs.declared.expressions.CBound.TheVariants as bound
use Rattle.nf_cast.specs.declared.statements.CStmt.{CStmt, CStmt-F, fold-CStmt}
use Rattle.nf_cast.specs.declared.statements.CStmt.TheOpen as open_stmt
use Rattle.nf_cast.specs.declared.statements.CStmt.TheVariants as stmt
use Rattle.nf_cast.specs.declared.statements.CBlock.{CBlock, CBlock-F, fold-CBlock}
use Rattle.nf_cast.specs.declared.objects.CItem.{CItem}
use Rattle.nf_cast.specs.declared.objects.CItem.TheVariants as item
use Rattle.nf_cast.specs.declared.placed.PlacedName.{PlacedName}
use Rattle.nf_cast.specs.declared.placed.PlacedCells.{PlacedCells}
use Rattle.nf_cast.specs.declared.placed.PlacedExpr.{PlacedExpr, PlacedExpr-F, fold-PlacedExpr}
use Rattle.nf_cast.specs.declared.placed.PlacedExpr.TheOpen as open_placed
use Rattle.nf_cast.specs.declared.placed.PlacedExpr.TheVariants as placed
use Rattle.nf_cast.specs.declared.placed.PlacedRight.{PlacedRight}
use Rattle.nf_cast.specs.declared.placed.PlacedRight.TheVariants as placed_right
use Rattle.nf_cast.specs.declared.placed.PlacedBound.{PlacedBound}
use Rattle.nf_cast.specs.declared.placed.PlacedBound.TheVariants as placed_bound
use Rattle.nf_cast.specs.declared.placed.PlacedStmt.{PlacedStmt, PlacedStmt-F, fold-PlacedStmt}
use Rattle.nf_cast.specs.declared.placed.PlacedStmt.TheOpen as open_placed_stmt
use Rattle.nf_cast.specs.declared.placed.PlacedStmt.TheVariants as placed_stmt
use Rattle.nf_cast.specs.declared.placed.PlacedBlock.{PlacedBlock, PlacedBlock-F, fold-PlacedBlock}
use Rattle.nf_cast.specs.declared.placed.PlacedItem.{PlacedItem}
use Rattle.nf_cast.specs.declared.placed.PlacedItem.TheVariants as placed_item

-- an expression without its lines and its parentheses, given its operands so
abbrev pub strip_layer : PlacedExpr-F CExpr → CExpr
strip_layer (open_placed.Lit line n) = expr.Lit n
strip_layer (open_placed.Name at) = expr.Name at.name
strip_layer (open_placed.Cell at i) = expr.Cell at.name i
strip_layer (open_placed.Neg line a) = expr.Neg a
strip_layer (open_placed.Not line a) = expr.Not a
strip_layer (open_placed.Bin o a b) = expr.Bin o a b
strip_layer (open_placed.Parens line a) = a

-- an expression without its lines and its parentheses
unfoldable pub strip : PlacedExpr → CExpr
strip = fold-PlacedExpr CExpr strip_layer

-- a right side without lines and parentheses
unfoldable pub strip_right : PlacedRight → CRight
strip_right (placed_right.Call at arguments) = right.Call at.name (map strip arguments)
strip_right (placed_right.Value a) = right.Value (strip a)

-- a loop's bound without its line
unfoldable pub strip_bound : PlacedBound → CBound
strip_bound (placed_bound.Lit n) = bound.Lit n
strip_bound (placed_bound.Name at) = bound.Name at.name

-- the value of a return without lines and parentheses
unfoldable pub strip_optional : Option PlacedExpr → Option CExpr
strip_optional None = None
strip_optional (Some a) = Some (strip a)

-- a statement without lines and parentheses, given its blocks so; of a loop's header the first name stays
abbrev pub strip_stmt_layer : PlacedStmt-F CStmt CBlock → CStmt
strip_stmt_layer (open_placed_stmt.Local constant at r) = stmt.Local constant at.name (strip_right r)
strip_stmt_layer (open_placed_stmt.Assign at r) = stmt.Assign at.name (strip_right r)
strip_stmt_layer (open_placed_stmt.Store at i a) = stmt.Store at.name (strip i) (strip a)
strip_stmt_layer (open_placed_stmt.Call at arguments) = stmt.Call at.name (map strip arguments)
strip_stmt_layer (open_placed_stmt.If c a b) = stmt.If (strip c) a b
strip_stmt_layer (open_placed_stmt.For at tested limit set counts body) = stmt.For at.name (strip_bound limit) body
strip_stmt_layer (open_placed_stmt.Return line a) = stmt.Return (strip_optional a)

-- a block has its statements in their order
abbrev pub strip_block_layer : PlacedBlock-F CStmt CBlock → CBlock
strip_block_layer block = record { stmts = block.stmts }

-- a statement without lines and parentheses
unfoldable pub strip_stmt : PlacedStmt → CStmt
strip_stmt = fold-PlacedStmt CStmt CBlock strip_stmt_layer strip_block_layer

-- a block without lines and parentheses
unfoldable pub strip_block : PlacedBlock → CBlock
strip_block = fold-PlacedBlock CStmt CBlock strip_stmt_layer strip_block_layer

-- names without their lines
abbrev pub names_of : List PlacedName → List (List ℕ)
names_of names = map (λ (at : PlacedName). at.name) names

-- the number of an array's cells without its line
unfoldable pub strip_cells : Option PlacedCells → Option ℤ
strip_cells None = None
strip_cells (Some cells) = Some cells.count

-- an object or a function without lines and parentheses
unfoldable pub strip_item : PlacedItem → CItem
strip_item (placed_item.Object o) = item.Object (record { name = o.name.name; cells = strip_cells o.cells })
strip_item (placed_item.Func f) = item.Func (record {
  form = f.form;
  name = f.name.name;
  params = names_of f.params;
  body = strip_block f.body;
})

-- a name at no line
abbrev pub nowhere : List ℕ → PlacedName
nowhere x = record { line = 0; name = x }

-- an expression with line 0 for all its lines and without parentheses, given its operands so
abbrev pub bare_layer : CExpr-F PlacedExpr → PlacedExpr
bare_layer (open_expr.Lit n) = placed.Lit 0 n
bare_layer (open_expr.Name x) = placed.Name (nowhere x)
bare_layer (open_expr.Cell x i) = placed.Cell (nowhere x) i
bare_layer (open_expr.Neg a) = placed.Neg 0 a
bare_layer (open_expr.Not a) = placed.Not 0 a
bare_layer (open_expr.Bin o a b) = placed.Bin o a b

-- an expression with line 0 for all its lines and without parentheses
unfoldable pub bare : CExpr → PlacedExpr
bare = fold-CExpr PlacedExpr bare_layer

-- a right side at no lines and without parentheses
unfoldable pub bare_right : CRight → PlacedRight
bare_right (right.Call f arguments) = placed_right.Call (nowhere f) (map bare arguments)
bare_right (right.Value a) = placed_right.Value (bare a)

-- a loop's bound at no line
unfoldable pub bare_bound : CBound → PlacedBound
bare_bound (bound.Lit n) = placed_bound.Lit n
bare_bound (bound.Name x) = placed_bound.Name (nowhere x)

-- the value of a return at no lines and without parentheses
unfoldable pub bare_optional : Option CExpr → Option PlacedExpr
bare_optional None = None
bare_optional (Some a) = Some (bare a)

-- a statement at no lines and without parentheses, given its blocks so; all four names of a loop's header are the loop's
abbrev pub bare_stmt_layer : CStmt-F PlacedStmt PlacedBlock → PlacedStmt
bare_stmt_layer (open_stmt.Local constant x r) = placed_stmt.Local constant (nowhere x) (bare_right r)
bare_stmt_layer (open_stmt.Assign x r) = placed_stmt.Assign (nowhere x) (bare_right r)
bare_stmt_layer (open_stmt.Store x i a) = placed_stmt.Store (nowhere x) (bare i) (bare a)
bare_stmt_layer (open_stmt.Call f arguments) = placed_stmt.Call (nowhere f) (map bare arguments)
bare_stmt_layer (open_stmt.If c a b) = placed_stmt.If (bare c) a b
bare_stmt_layer (open_stmt.For x limit body) = placed_stmt.For (nowhere x) (nowhere x) (bare_bound limit) (nowhere x) (nowhere x) body
bare_stmt_layer (open_stmt.Return a) = placed_stmt.Return 0 (bare_optional a)

-- a block has its statements in their order
abbrev pub bare_block_layer : CBlock-F PlacedStmt PlacedBlock → PlacedBlock
bare_block_layer block = record { stmts = block.stmts }

-- a statement at no lines and without parentheses
unfoldable pub bare_stmt : CStmt → PlacedStmt
bare_stmt = fold-CStmt PlacedStmt PlacedBlock bare_stmt_layer bare_block_layer

-- a block at no lines and without parentheses
unfoldable pub bare_block : CBlock → PlacedBlock
bare_block = fold-CBlock PlacedStmt PlacedBlock bare_stmt_layer bare_block_layer

-- the number of an array's cells at no line
unfoldable pub bare_cells : Option ℤ → Option PlacedCells
bare_cells None = None
bare_cells (Some n) = Some (record { line = 0; count = n })

-- an object or a function at no lines and without parentheses
unfoldable pub bare_item : CItem → PlacedItem
bare_item (item.Object o) = placed_item.Object (record { name = nowhere o.name; cells = bare_cells o.cells })
bare_item (item.Func f) = placed_item.Func (record {
  form = f.form;
  name = nowhere f.name;
  params = map nowhere f.params;
  body = bare_block f.body;
  end = 0;
})

-- what may be missing is straight then
abbrev pub maybe_straight : Option Bool → Bool
maybe_straight None = true
maybe_straight (Some straight) = straight

-- a loop's header repeats its name: its first name is the one that is tested, set and counted
abbrev pub straight_layer : PlacedStmt-F Bool Bool → Bool
straight_layer (open_placed_stmt.Local constant at r) = true
straight_layer (open_placed_stmt.Assign at r) = true
straight_layer (open_placed_stmt.Store at i a) = true
straight_layer (open_placed_stmt.Call at arguments) = true
straight_layer (open_placed_stmt.If c a b) = a && maybe_straight b
straight_layer (open_placed_stmt.For at tested limit set counts body) =
    text_eq at.name tested.name && text_eq at.name set.name && text_eq at.name counts.name && body
straight_layer (open_placed_stmt.Return line a) = true

-- a block is straight where all its statements are
abbrev pub straight_block_layer : PlacedBlock-F Bool Bool → Bool
straight_block_layer block = list_all (λ b. b) block.stmts

-- whether each loop's header in a statement repeats its name
unfoldable pub is_straight_stmt : PlacedStmt → Bool
is_straight_stmt = fold-PlacedStmt Bool Bool straight_layer straight_block_layer

-- whether each loop's header in a block repeats its name
unfoldable pub is_straight_block : PlacedBlock → Bool
is_straight_block = fold-PlacedBlock Bool Bool straight_layer straight_block_layer

-- whether each loop's header in an object or a function repeats its name
unfoldable pub is_straight : PlacedItem → Bool
is_straight (placed_item.Object o) = true
is_straight (placed_item.Func f) = is_straight_block f.body
