use Rattle.std.proofs.Common.{List, map, sym, ap, ◌∙◌}
use Rattle.nf_cast.specs.Placed.{strip_stmt}
use Rattle.nf_cast.specs.declared.statements.CStmt.{CStmt}
use Rattle.nf_cast.specs.declared.statements.CBlock.{CBlock, rolls-CBlock'}
use Rattle.nf_cast.proofs.Public.PlacedStmtLemmas.{strip_block_of}
use Rattle.nf_cast.proofs.stripping.+stripping.Goals as goal

abbrev block_from : List CStmt → CBlock
block_from stmts = record { stmts = stmts }

pub strip_body-returns : goal.strip_body-returns
strip_body-returns t c = rolls-CBlock' (record { stmts = c.in_ok-stmts.stmts }) ∙ ap block_from (c.in_ok-stmts.ensures ∙ ap (map strip_stmt) c.as_slice.ensures) ∙ sym (strip_block_of c.args.block.now.stmts)
