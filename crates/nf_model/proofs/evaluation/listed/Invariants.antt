use Rattle.std.proofs.Common.{◌≡◌, ◌++◌}
use Rattle.nf_model.proofs.evaluation.listed.Given as goal

-- the list so far, followed by what is left
abbrev pub invariant-loop-interval : goal.invariant-loop-interval
invariant-loop-interval l = l.list ++ l.interval-iterator ≡ l.set
