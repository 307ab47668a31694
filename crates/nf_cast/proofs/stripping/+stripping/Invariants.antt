use Rattle.std.proofs.Common.{◌≡◌, map, take}
use Rattle.nf_cast.specs.Placed.{strip_stmt}
use Rattle.nf_cast.proofs.stripping.+stripping.Given as goal

abbrev pub invariant-strip_statements-loop-statement : goal.invariant-strip_statements-loop-statement
invariant-strip_statements-loop-statement l = l.stmts ≡ map strip_stmt (take l.statement-index l.statements)
