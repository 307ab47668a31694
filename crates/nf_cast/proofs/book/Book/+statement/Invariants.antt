use Rattle.std.proofs.Common.{◌≡◌, map, drop}
use Rattle.nf_cast.specs.Book.{steps}
use Rattle.nf_cast.specs.Rules.{stmt_rules}
use Rattle.nf_cast.proofs.book.Book.+statement.Given as goal

abbrev pub invariant-statements-loop-statement : goal.invariant-statements-loop-statement
invariant-statements-loop-statement l = steps (map stmt_rules (drop l.statement-index l.statements)) l.self ≡ steps (map stmt_rules l.statements) l.initial.self
