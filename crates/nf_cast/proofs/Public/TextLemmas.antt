-- The texts of statements and of blocks, by their parts.
use Rattle.std.proofs.Common.{◌≡◌, ℕ, List, [], ◌∷◌, ◌++◌, map, refl, sym, ap, ◌∙◌}
use Rattle.std.specs.Prelude.{flat_map, codes}
use Rattle.nf_cast.specs.declared.statements.CStmt.{CStmt}
use Rattle.nf_cast.specs.declared.statements.CBlock.{CBlock, fold-roll-CBlock, rolls-CBlock'}
use Rattle.nf_cast.specs.Text.{Layout, stmt_text, block_text, stmt_layer, block_layer, line_of, deeper}

-- the lines of statements, one after the other
lines_of_stmts : (margin : List ℕ) (stmts : List CStmt) → flat_map (line_of margin) (map stmt_text stmts) ≡ flat_map (λ stmt. line_of margin (stmt_text stmt)) stmts
lines_of_stmts margin [] = refl
lines_of_stmts margin (stmt ∷ stmts) = ap (λ rest. line_of margin (stmt_text stmt) ++ rest) (lines_of_stmts margin stmts)

block_layout : (block : CBlock) → block_text block ≡ block_layer (record { stmts = map stmt_text block.stmts })
unfolding stmt_text block_text
block_layout block = ap block_text (sym (rolls-CBlock' (record { stmts = block.stmts }))) ∙ fold-roll-CBlock Layout Layout stmt_layer block_layer (record { stmts = block.stmts })

-- a block has the lines of its statements between its braces
pub block_lines : (block : CBlock) (margin : List ℕ) → block_text block margin ≡ codes "{\n" ++ flat_map (λ stmt. line_of (deeper margin) (stmt_text stmt)) block.stmts ++ margin ++ codes "}"
block_lines block margin = ap (λ (layout : Layout). layout margin) (block_layout block) ∙ ap (λ lines. codes "{\n" ++ lines ++ margin ++ codes "}") (lines_of_stmts (deeper margin) block.stmts)
