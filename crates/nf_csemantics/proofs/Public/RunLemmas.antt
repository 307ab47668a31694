-- What statements and blocks do, form by form.
use Rattle.std.proofs.Common.{◌≡◌, Bool, List, map, Option, Some, None, sym, ap, ◌∙◌}
use Rattle.nf_cast.specs.declared.expressions.CExpr.{CExpr}
use Rattle.nf_cast.specs.declared.expressions.CRight.{CRight}
use Rattle.nf_cast.specs.declared.expressions.CBound.{CBound}
use Rattle.nf_cast.specs.declared.statements.CStmt.{CStmt, fold-roll-CStmt}
use Rattle.nf_cast.specs.declared.statements.CStmt.TheOpen as s
use Rattle.nf_cast.specs.declared.statements.CStmt.TheVariants as stmt
use Rattle.nf_cast.specs.declared.statements.CBlock.{CBlock, fold-roll-CBlock, rolls-CBlock'}
use Rattle.nf_csemantics.specs.States.{Name}
use Rattle.nf_csemantics.specs.Statements.{Calls, Run, run_of, run_of_block, statement_layer, block_layer}

module _ (calls : Calls) where
  pub run_Local : (constant : Bool) (x : Name) (r : CRight) → run_of calls (stmt.Local constant x r) ≡ statement_layer calls (s.Local constant x r)
  unfolding run_of run_of_block
  run_Local constant x r = ap (run_of calls) (sym (stmt.rolls-Local constant x r)) ∙ fold-roll-CStmt Run Run (statement_layer calls) (block_layer calls) (s.Local constant x r)

  pub run_Assign : (x : Name) (r : CRight) → run_of calls (stmt.Assign x r) ≡ statement_layer calls (s.Assign x r)
  unfolding run_of run_of_block
  run_Assign x r = ap (run_of calls) (sym (stmt.rolls-Assign x r)) ∙ fold-roll-CStmt Run Run (statement_layer calls) (block_layer calls) (s.Assign x r)

  pub run_Store : (x : Name) (index a : CExpr) → run_of calls (stmt.Store x index a) ≡ statement_layer calls (s.Store x index a)
  unfolding run_of run_of_block
  run_Store x index a = ap (run_of calls) (sym (stmt.rolls-Store x index a)) ∙ fold-roll-CStmt Run Run (statement_layer calls) (block_layer calls) (s.Store x index a)

  pub run_Call : (f : Name) (arguments : List CExpr) → run_of calls (stmt.Call f arguments) ≡ statement_layer calls (s.Call f arguments)
  unfolding run_of run_of_block
  run_Call f arguments = ap (run_of calls) (sym (stmt.rolls-Call f arguments)) ∙ fold-roll-CStmt Run Run (statement_layer calls) (block_layer calls) (s.Call f arguments)

  pub run_If : (c : CExpr) (a : CBlock) → run_of calls (stmt.If c a None) ≡ statement_layer calls (s.If c (run_of_block calls a) None)
  unfolding run_of run_of_block
  run_If c a = ap (run_of calls) (sym (stmt.rolls-If c a None)) ∙ fold-roll-CStmt Run Run (statement_layer calls) (block_layer calls) (s.If c a None)

  pub run_IfElse : (c : CExpr) (a b : CBlock) → run_of calls (stmt.If c a (Some b)) ≡ statement_layer calls (s.If c (run_of_block calls a) (Some (run_of_block calls b)))
  unfolding run_of run_of_block
  run_IfElse c a b = ap (run_of calls) (sym (stmt.rolls-If c a (Some b))) ∙ fold-roll-CStmt Run Run (statement_layer calls) (block_layer calls) (s.If c a (Some b))

  pub run_For : (x : Name) (to : CBound) (body : CBlock) → run_of calls (stmt.For x to body) ≡ statement_layer calls (s.For x to (run_of_block calls body))
  unfolding run_of run_of_block
  run_For x to body = ap (run_of calls) (sym (stmt.rolls-For x to body)) ∙ fold-roll-CStmt Run Run (statement_layer calls) (block_layer calls) (s.For x to body)

  pub run_Return : (a : Option CExpr) → run_of calls (stmt.Return a) ≡ statement_layer calls (s.Return a)
  unfolding run_of run_of_block
  run_Return a = ap (run_of calls) (sym (stmt.rolls-Return a)) ∙ fold-roll-CStmt Run Run (statement_layer calls) (block_layer calls) (s.Return a)

  pub run_of_stmts : (stmts : List CStmt) → run_of_block calls (record { stmts = stmts }) ≡ block_layer calls (record { stmts = map (run_of calls) stmts })
  unfolding run_of run_of_block
  run_of_stmts stmts = ap (run_of_block calls) (sym (rolls-CBlock' (record { stmts = stmts }))) ∙ fold-roll-CBlock Run Run (statement_layer calls) (block_layer calls) (record { stmts = stmts })

pub ruleset run_laws = (run_Local, run_Assign, run_Store, run_Call, run_If, run_IfElse, run_For, run_Return, run_of_stmts)
