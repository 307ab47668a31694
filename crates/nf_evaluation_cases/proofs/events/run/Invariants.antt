use Rattle.std.proofs.Common.{◌≡◌}
use Rattle.nf_evaluation_cases.proofs.events.run.Given as goal

-- the plan stays
abbrev pub invariant-loop-row : goal.invariant-loop-row
invariant-loop-row g l = (g.I.Inferer.content l.inferer).plan ≡ l.plan
