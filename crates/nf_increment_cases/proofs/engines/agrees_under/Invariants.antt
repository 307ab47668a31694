use Rattle.std.proofs.Common.{◌≡◌}
use Rattle.nf_increment_cases.proofs.engines.agrees_under.Given as goal

-- both stay evaluators of the plan
abbrev pub invariant-loop : goal.invariant-loop
invariant-loop g l = (l.both.engine.plan ≡ l.plan) × (l.both.scratch.plan ≡ l.plan)
