use Rattle.std.proofs.Common.{◌≡◌, ◌++◌, take}
use Rattle.std.specs.Prelude.{flat_map}
use Rattle.nf_cast.specs.Text.{stmt_text, line_of}
use Rattle.nf_cast.proofs.statement_text.+statement.Given as goal

abbrev pub invariant-push_statements-loop-statement : goal.invariant-push_statements-loop-statement
invariant-push_statements-loop-statement l = l.lines ≡ l.initial.lines ++ flat_map (λ stmt. line_of l.margin (stmt_text stmt)) (take l.statement-index l.statements)
