use Rattle.std.proofs.Common.{ℕ, ◌<◌, ◌≤◌}
use Rattle.nf_core.specs.Plan.{level_of}
use Rattle.nf_model.proofs.evaluation.highest_level.Given as goal

-- no name so far has a greater level
abbrev pub invariant-loop-name : goal.invariant-loop-name
invariant-loop-name l = (n : ℕ) → n < l.name → level_of l.plan n ≤ l.highest
