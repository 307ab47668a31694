-- Statements as they are written, by their forms: what they ask, and the statements without lines and parentheses.
use Rattle.std.proofs.Common.{◌≡◌, ℕ, Bool, true, false, List, [], ◌∷◌, map, Option, Some, None, sym, ap, subst, ◌∙◌}
use Rattle.std.specs.Prelude.{if◌then◌else◌, ◌&&◌}
use Rattle.std.specs.List.{list_all}
use Rattle.nf_core.specs.Texts.{text_eq}
use Rattle.nf_cast.specs.declared.rules.Local.TheVariants as l
use Rattle.nf_cast.specs.declared.placed.PlacedName.{PlacedName}
use Rattle.nf_cast.specs.declared.placed.PlacedExpr.{PlacedExpr}
use Rattle.nf_cast.specs.declared.placed.PlacedRight.{PlacedRight}
use Rattle.nf_cast.specs.declared.placed.PlacedBound.{PlacedBound}
use Rattle.nf_cast.specs.declared.expressions.CExpr.{CExpr}
use Rattle.nf_cast.specs.declared.expressions.CRight.{CRight}
use Rattle.nf_cast.specs.declared.expressions.CBound.{CBound}
use Rattle.nf_cast.specs.declared.statements.CStmt.{CStmt, fold-roll-CStmt}
use Rattle.nf_cast.specs.declared.statements.CStmt.TheOpen as open_stmt
use Rattle.nf_cast.specs.declared.statements.CStmt.TheVariants as stmt
use Rattle.nf_cast.specs.declared.statements.CBlock.{CBlock, fold-roll-CBlock, rolls-CBlock'}
use Rattle.nf_cast.specs.declared.placed.PlacedStmt.{PlacedStmt, PlacedStmt-F, fold-roll-PlacedStmt}
use Rattle.nf_cast.specs.declared.placed.PlacedStmt.TheFolds.{map-PlacedStmt, map-PlacedBlock}
use Rattle.nf_cast.specs.declared.placed.PlacedStmt.TheViews.{roll-PlacedStmt, roll-PlacedBlock}
use Rattle.nf_cast.specs.declared.placed.PlacedStmt.TheOpen as open_placed
use Rattle.nf_cast.specs.declared.placed.PlacedStmt.TheVariants as placed_stmt
use Rattle.nf_cast.specs.declared.placed.PlacedBlock.{PlacedBlock, PlacedBlock-F, fold-roll-PlacedBlock, ind-PlacedBlock, rolls-PlacedBlock'}
use Rattle.nf_cast.specs.Placed.{strip, strip_right, strip_bound, strip_optional, strip_stmt, strip_block, strip_stmt_layer, strip_block_layer, bare, bare_right, bare_bound, bare_optional, bare_stmt, bare_block, bare_stmt_layer, bare_block_layer, nowhere, is_straight_stmt, is_straight_block, straight_layer, straight_block_layer}
use Rattle.nf_cast.specs.Book.{Step, steps, fresh, used, assigned, is_array, declare, ends, within}
use Rattle.nf_cast.specs.Rules.{stmt_rules, block_rules, stmt_layer, block_layer, right_rules, value_rules, condition_rules, call_rules, header_rules, maybe, return_rules}

pub stmt_rules_Local : (constant : Bool) (at : PlacedName) (r : PlacedRight) → stmt_rules (placed_stmt.Local constant at r) ≡ (λ b. ends false (declare at.name (if constant then l.Constant else l.Plain) (right_rules r (fresh at b))))
unfolding stmt_rules block_rules
stmt_rules_Local constant at r = ap stmt_rules (sym (placed_stmt.rolls-Local constant at r)) ∙ fold-roll-PlacedStmt Step Step stmt_layer block_layer (open_placed.Local constant at r)

pub stmt_rules_Assign : (at : PlacedName) (r : PlacedRight) → stmt_rules (placed_stmt.Assign at r) ≡ (λ b. ends false (right_rules r (assigned at b)))
unfolding stmt_rules block_rules
stmt_rules_Assign at r = ap stmt_rules (sym (placed_stmt.rolls-Assign at r)) ∙ fold-roll-PlacedStmt Step Step stmt_layer block_layer (open_placed.Assign at r)

pub stmt_rules_Store : (at : PlacedName) (i : PlacedExpr) (a : PlacedExpr) → stmt_rules (placed_stmt.Store at i a) ≡ (λ b. ends false (value_rules a (value_rules i (used is_array at b))))
unfolding stmt_rules block_rules
stmt_rules_Store at i a = ap stmt_rules (sym (placed_stmt.rolls-Store at i a)) ∙ fold-roll-PlacedStmt Step Step stmt_layer block_layer (open_placed.Store at i a)

pub stmt_rules_Call : (at : PlacedName) (arguments : List PlacedExpr) → stmt_rules (placed_stmt.Call at arguments) ≡ (λ b. ends false (call_rules at arguments b))
unfolding stmt_rules block_rules
stmt_rules_Call at arguments = ap stmt_rules (sym (placed_stmt.rolls-Call at arguments)) ∙ fold-roll-PlacedStmt Step Step stmt_layer block_layer (open_placed.Call at arguments)

pub stmt_rules_For : (at : PlacedName) (tested : PlacedName) (limit : PlacedBound) (set : PlacedName) (counts : PlacedName) (body : PlacedBlock) → stmt_rules (placed_stmt.For at tested limit set counts body) ≡ (λ b. ends false (within (λ c. block_rules body (header_rules at.name tested limit set counts c)) (fresh at b)))
unfolding stmt_rules block_rules
stmt_rules_For at tested limit set counts body = ap stmt_rules (sym (placed_stmt.rolls-For at tested limit set counts body)) ∙ fold-roll-PlacedStmt Step Step stmt_layer block_layer (open_placed.For at tested limit set counts body)

pub stmt_rules_Return : (line : ℕ) (a : Option PlacedExpr) → stmt_rules (placed_stmt.Return line a) ≡ return_rules line a
unfolding stmt_rules block_rules
stmt_rules_Return line a = ap stmt_rules (sym (placed_stmt.rolls-Return line a)) ∙ fold-roll-PlacedStmt Step Step stmt_layer block_layer (open_placed.Return line a)

pub stmt_rules_If : (c : PlacedExpr) (a : PlacedBlock) → stmt_rules (placed_stmt.If c a None) ≡ (λ b. ends false (maybe None (block_rules a (condition_rules c b))))
unfolding stmt_rules block_rules
stmt_rules_If c a = ap stmt_rules (sym (placed_stmt.rolls-If c a None)) ∙ fold-roll-PlacedStmt Step Step stmt_layer block_layer (open_placed.If c a None)

pub stmt_rules_IfElse : (c : PlacedExpr) (a d : PlacedBlock) → stmt_rules (placed_stmt.If c a (Some d)) ≡ (λ b. ends false (maybe (Some (block_rules d)) (block_rules a (condition_rules c b))))
unfolding stmt_rules block_rules
stmt_rules_IfElse c a d = ap stmt_rules (sym (placed_stmt.rolls-If c a (Some d))) ∙ fold-roll-PlacedStmt Step Step stmt_layer block_layer (open_placed.If c a (Some d))

pub block_rules_of : (stmts : List PlacedStmt) → block_rules (record { stmts = stmts }) ≡ within (steps (map stmt_rules stmts))
unfolding stmt_rules block_rules
block_rules_of stmts = ap block_rules (sym (rolls-PlacedBlock' (record { stmts = stmts }))) ∙ fold-roll-PlacedBlock Step Step stmt_layer block_layer (record { stmts = stmts })

pub strip_stmt_Local : (constant : Bool) (at : PlacedName) (r : PlacedRight) → strip_stmt (placed_stmt.Local constant at r) ≡ stmt.Local constant at.name (strip_right r)
unfolding strip_stmt strip_block
strip_stmt_Local constant at r = ap strip_stmt (sym (placed_stmt.rolls-Local constant at r)) ∙ fold-roll-PlacedStmt CStmt CBlock strip_stmt_layer strip_block_layer (open_placed.Local constant at r)

pub strip_stmt_Assign : (at : PlacedName) (r : PlacedRight) → strip_stmt (placed_stmt.Assign at r) ≡ stmt.Assign at.name (strip_right r)
unfolding strip_stmt strip_block
strip_stmt_Assign at r = ap strip_stmt (sym (placed_stmt.rolls-Assign at r)) ∙ fold-roll-PlacedStmt CStmt CBlock strip_stmt_layer strip_block_layer (open_placed.Assign at r)

pub strip_stmt_Store : (at : PlacedName) (i : PlacedExpr) (a : PlacedExpr) → strip_stmt (placed_stmt.Store at i a) ≡ stmt.Store at.name (strip i) (strip a)
unfolding strip_stmt strip_block
strip_stmt_Store at i a = ap strip_stmt (sym (placed_stmt.rolls-Store at i a)) ∙ fold-roll-PlacedStmt CStmt CBlock strip_stmt_layer strip_block_layer (open_placed.Store at i a)

pub strip_stmt_Call : (at : PlacedName) (arguments : List PlacedExpr) → strip_stmt (placed_stmt.Call at arguments) ≡ stmt.Call at.name (map strip arguments)
unfolding strip_stmt strip_block
strip_stmt_Call at arguments = ap strip_stmt (sym (placed_stmt.rolls-Call at arguments)) ∙ fold-roll-PlacedStmt CStmt CBlock strip_stmt_layer strip_block_layer (open_placed.Call at arguments)

pub strip_stmt_For : (at : PlacedName) (tested : PlacedName) (limit : PlacedBound) (set : PlacedName) (counts : PlacedName) (body : PlacedBlock) → strip_stmt (placed_stmt.For at tested limit set counts body) ≡ stmt.For at.name (strip_bound limit) (strip_block body)
unfolding strip_stmt strip_block
strip_stmt_For at tested limit set counts body = ap strip_stmt (sym (placed_stmt.rolls-For at tested limit set counts body)) ∙ fold-roll-PlacedStmt CStmt CBlock strip_stmt_layer strip_block_layer (open_placed.For at tested limit set counts body)

pub strip_stmt_Return : (line : ℕ) (a : Option PlacedExpr) → strip_stmt (placed_stmt.Return line a) ≡ stmt.Return (strip_optional a)
unfolding strip_stmt strip_block
strip_stmt_Return line a = ap strip_stmt (sym (placed_stmt.rolls-Return line a)) ∙ fold-roll-PlacedStmt CStmt CBlock strip_stmt_layer strip_block_layer (open_placed.Return line a)

pub strip_stmt_If : (c : PlacedExpr) (a : PlacedBlock) → strip_stmt (placed_stmt.If c a None) ≡ stmt.If (strip c) (strip_block a) None
unfolding strip_stmt strip_block
strip_stmt_If c a = ap strip_stmt (sym (placed_stmt.rolls-If c a None)) ∙ fold-roll-PlacedStmt CStmt CBlock strip_stmt_layer strip_block_layer (open_placed.If c a None)

pub strip_stmt_IfElse : (c : PlacedExpr) (a d : PlacedBlock) → strip_stmt (placed_stmt.If c a (Some d)) ≡ stmt.If (strip c) (strip_block a) (Some (strip_block d))
unfolding strip_stmt strip_block
strip_stmt_IfElse c a d = ap strip_stmt (sym (placed_stmt.rolls-If c a (Some d))) ∙ fold-roll-PlacedStmt CStmt CBlock strip_stmt_layer strip_block_layer (open_placed.If c a (Some d))

pub strip_block_of : (stmts : List PlacedStmt) → strip_block (record { stmts = stmts }) ≡ record { stmts = map strip_stmt stmts }
unfolding strip_stmt strip_block
strip_block_of stmts = ap strip_block (sym (rolls-PlacedBlock' (record { stmts = stmts }))) ∙ fold-roll-PlacedBlock CStmt CBlock strip_stmt_layer strip_block_layer (record { stmts = stmts })

pub bare_stmt_Local : (constant : Bool) (x : List ℕ) (r : CRight) → bare_stmt (stmt.Local constant x r) ≡ placed_stmt.Local constant (nowhere x) (bare_right r)
unfolding bare_stmt bare_block
bare_stmt_Local constant x r = ap bare_stmt (sym (stmt.rolls-Local constant x r)) ∙ fold-roll-CStmt PlacedStmt PlacedBlock bare_stmt_layer bare_block_layer (open_stmt.Local constant x r)

pub bare_stmt_Assign : (x : List ℕ) (r : CRight) → bare_stmt (stmt.Assign x r) ≡ placed_stmt.Assign (nowhere x) (bare_right r)
unfolding bare_stmt bare_block
bare_stmt_Assign x r = ap bare_stmt (sym (stmt.rolls-Assign x r)) ∙ fold-roll-CStmt PlacedStmt PlacedBlock bare_stmt_layer bare_block_layer (open_stmt.Assign x r)

pub bare_stmt_Store : (x : List ℕ) (i : CExpr) (a : CExpr) → bare_stmt (stmt.Store x i a) ≡ placed_stmt.Store (nowhere x) (bare i) (bare a)
unfolding bare_stmt bare_block
bare_stmt_Store x i a = ap bare_stmt (sym (stmt.rolls-Store x i a)) ∙ fold-roll-CStmt PlacedStmt PlacedBlock bare_stmt_layer bare_block_layer (open_stmt.Store x i a)

pub bare_stmt_Call : (f : List ℕ) (arguments : List CExpr) → bare_stmt (stmt.Call f arguments) ≡ placed_stmt.Call (nowhere f) (map bare arguments)
unfolding bare_stmt bare_block
bare_stmt_Call f arguments = ap bare_stmt (sym (stmt.rolls-Call f arguments)) ∙ fold-roll-CStmt PlacedStmt PlacedBlock bare_stmt_layer bare_block_layer (open_stmt.Call f arguments)

pub bare_stmt_For : (x : List ℕ) (limit : CBound) (body : CBlock) → bare_stmt (stmt.For x limit body) ≡ placed_stmt.For (nowhere x) (nowhere x) (bare_bound limit) (nowhere x) (nowhere x) (bare_block body)
unfolding bare_stmt bare_block
bare_stmt_For x limit body = ap bare_stmt (sym (stmt.rolls-For x limit body)) ∙ fold-roll-CStmt PlacedStmt PlacedBlock bare_stmt_layer bare_block_layer (open_stmt.For x limit body)

pub bare_stmt_Return : (a : Option CExpr) → bare_stmt (stmt.Return a) ≡ placed_stmt.Return 0 (bare_optional a)
unfolding bare_stmt bare_block
bare_stmt_Return a = ap bare_stmt (sym (stmt.rolls-Return a)) ∙ fold-roll-CStmt PlacedStmt PlacedBlock bare_stmt_layer bare_block_layer (open_stmt.Return a)

pub bare_stmt_If : (c : CExpr) (a : CBlock) → bare_stmt (stmt.If c a None) ≡ placed_stmt.If (bare c) (bare_block a) None
unfolding bare_stmt bare_block
bare_stmt_If c a = ap bare_stmt (sym (stmt.rolls-If c a None)) ∙ fold-roll-CStmt PlacedStmt PlacedBlock bare_stmt_layer bare_block_layer (open_stmt.If c a None)

pub bare_stmt_IfElse : (c : CExpr) (a d : CBlock) → bare_stmt (stmt.If c a (Some d)) ≡ placed_stmt.If (bare c) (bare_block a) (Some (bare_block d))
unfolding bare_stmt bare_block
bare_stmt_IfElse c a d = ap bare_stmt (sym (stmt.rolls-If c a (Some d))) ∙ fold-roll-CStmt PlacedStmt PlacedBlock bare_stmt_layer bare_block_layer (open_stmt.If c a (Some d))

pub bare_block_of : (stmts : List CStmt) → bare_block (record { stmts = stmts }) ≡ record { stmts = map bare_stmt stmts }
unfolding bare_stmt bare_block
bare_block_of stmts = ap bare_block (sym (rolls-CBlock' (record { stmts = stmts }))) ∙ fold-roll-CBlock PlacedStmt PlacedBlock bare_stmt_layer bare_block_layer (record { stmts = stmts })

pub straight_If : (c : PlacedExpr) (a : PlacedBlock) → is_straight_stmt (placed_stmt.If c a None) ≡ (is_straight_block a && true)
unfolding is_straight_stmt is_straight_block
straight_If c a = ap is_straight_stmt (sym (placed_stmt.rolls-If c a None)) ∙ fold-roll-PlacedStmt Bool Bool straight_layer straight_block_layer (open_placed.If c a None)

pub straight_IfElse : (c : PlacedExpr) (a d : PlacedBlock) → is_straight_stmt (placed_stmt.If c a (Some d)) ≡ (is_straight_block a && is_straight_block d)
unfolding is_straight_stmt is_straight_block
straight_IfElse c a d = ap is_straight_stmt (sym (placed_stmt.rolls-If c a (Some d))) ∙ fold-roll-PlacedStmt Bool Bool straight_layer straight_block_layer (open_placed.If c a (Some d))

pub straight_For : (at tested : PlacedName) (limit : PlacedBound) (set counts : PlacedName) (body : PlacedBlock) → is_straight_stmt (placed_stmt.For at tested limit set counts body) ≡ (text_eq at.name tested.name && text_eq at.name set.name && text_eq at.name counts.name && is_straight_block body)
unfolding is_straight_stmt is_straight_block
straight_For at tested limit set counts body = ap is_straight_stmt (sym (placed_stmt.rolls-For at tested limit set counts body)) ∙ fold-roll-PlacedStmt Bool Bool straight_layer straight_block_layer (open_placed.For at tested limit set counts body)

pub straight_of : (stmts : List PlacedStmt) → is_straight_block (record { stmts = stmts }) ≡ list_all (λ b. b) (map is_straight_stmt stmts)
unfolding is_straight_stmt is_straight_block
straight_of stmts = ap is_straight_block (sym (rolls-PlacedBlock' (record { stmts = stmts }))) ∙ fold-roll-PlacedBlock Bool Bool straight_layer straight_block_layer (record { stmts = stmts })

-- a claim of each item of a list
abbrev pub Each : {A : Type 0} → (A → Type 0) → List A → Type 0
Each P [] = Unit {0}
Each P (x ∷ xs) = P x × Each P xs

-- claims of placed statements and of placed blocks, form by form, each from the claims of its parts
pub record StmtCases (P : PlacedStmt → Type 0) (Q : PlacedBlock → Type 0) : Type 0 where
  pub declares : (constant : Bool) (at : PlacedName) (r : PlacedRight) → P (placed_stmt.Local constant at r)
  pub assigns : (at : PlacedName) (r : PlacedRight) → P (placed_stmt.Assign at r)
  pub stores : (at : PlacedName) (i a : PlacedExpr) → P (placed_stmt.Store at i a)
  pub calls : (at : PlacedName) (arguments : List PlacedExpr) → P (placed_stmt.Call at arguments)
  pub chooses : (c : PlacedExpr) (a : PlacedBlock) → Q a → P (placed_stmt.If c a None)
  pub divides : (c : PlacedExpr) (a d : PlacedBlock) → Q a → Q d → P (placed_stmt.If c a (Some d))
  pub repeats : (at tested : PlacedName) (limit : PlacedBound) (set counts : PlacedName) (body : PlacedBlock) → Q body → P (placed_stmt.For at tested limit set counts body)
  pub gives : (line : ℕ) (a : Option PlacedExpr) → P (placed_stmt.Return line a)
  pub block : (stmts : List PlacedStmt) → Each P stmts → Q (record { stmts = stmts })

module _ (P : PlacedStmt → Type 0) (Q : PlacedBlock → Type 0) (cases : StmtCases P Q) where
  abbrev stmt_of : (a : PlacedStmt) × P a → PlacedStmt
  stmt_of pair = pair.0

  abbrev block_of : (a : PlacedBlock) × Q a → PlacedBlock
  block_of pair = pair.0

  each_of : (pairs : List ((a : PlacedStmt) × P a)) → Each P (map stmt_of pairs)
  each_of [] = tt
  each_of (pair ∷ pairs) = (pair.1, each_of pairs)

  stmt_here : (y : PlacedStmt-F ((a : PlacedStmt) × P a) ((a : PlacedBlock) × Q a)) → P (roll-PlacedStmt (map-PlacedStmt ((a : PlacedStmt) × P a) ((a : PlacedBlock) × Q a) PlacedStmt PlacedBlock stmt_of block_of y))
  stmt_here (open_placed.Local constant at r) = subst P (sym (placed_stmt.rolls-Local constant at r)) (cases.declares constant at r)
  stmt_here (open_placed.Assign at r) = subst P (sym (placed_stmt.rolls-Assign at r)) (cases.assigns at r)
  stmt_here (open_placed.Store at i a) = subst P (sym (placed_stmt.rolls-Store at i a)) (cases.stores at i a)
  stmt_here (open_placed.Call at arguments) = subst P (sym (placed_stmt.rolls-Call at arguments)) (cases.calls at arguments)
  stmt_here (open_placed.If c a None) = subst P (sym (placed_stmt.rolls-If c a.0 None)) (cases.chooses c a.0 a.1)
  stmt_here (open_placed.If c a (Some d)) = subst P (sym (placed_stmt.rolls-If c a.0 (Some d.0))) (cases.divides c a.0 d.0 a.1 d.1)
  stmt_here (open_placed.For at tested limit set counts body) = subst P (sym (placed_stmt.rolls-For at tested limit set counts body.0)) (cases.repeats at tested limit set counts body.0 body.1)
  stmt_here (open_placed.Return line a) = subst P (sym (placed_stmt.rolls-Return line a)) (cases.gives line a)

  block_here : (y : PlacedBlock-F ((a : PlacedStmt) × P a) ((a : PlacedBlock) × Q a)) → Q (roll-PlacedBlock (map-PlacedBlock ((a : PlacedStmt) × P a) ((a : PlacedBlock) × Q a) PlacedStmt PlacedBlock stmt_of block_of y))
  block_here y = subst Q (sym (rolls-PlacedBlock' (record { stmts = map stmt_of y.stmts }))) (cases.block (map stmt_of y.stmts) (each_of y.stmts))

  -- a claim that is shown form by form holds of every block
  pub every_block : (a : PlacedBlock) → Q a
  every_block = ind-PlacedBlock P Q (λ node y is. subst (λ z. P (roll-PlacedStmt z)) is (stmt_here y)) (λ node y is. subst (λ z. Q (roll-PlacedBlock z)) is (block_here y))
