use Rattle.std.proofs.Common.{◌≡◌, map, drop}
use Rattle.nf_cast.specs.Book.{steps}
use Rattle.nf_cast.specs.Rules.{value_rules}
use Rattle.nf_cast.proofs.book.Book.values.Given as goal

abbrev pub invariant-loop-expression : goal.invariant-loop-expression
invariant-loop-expression l = steps (map value_rules (drop l.expression-index l.expressions)) l.self ≡ steps (map value_rules l.expressions) l.initial.self
