use Rattle.std.proofs.Common.{◌≡◌, map, drop}
use Rattle.nf_cast.specs.Book.{steps}
use Rattle.nf_cast.specs.Rules.{param_rules}
use Rattle.nf_cast.proofs.book.Book.params.Given as goal

abbrev pub invariant-loop-param : goal.invariant-loop-param
invariant-loop-param l = steps (map param_rules (drop l.param-index l.params)) l.self ≡ steps (map param_rules l.params) l.initial.self
