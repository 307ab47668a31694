-- The turns of names within a step.
use Rattle.std.specs.Prelude.{◌≡◌, ℕ, ◌≤◌, ◌+◌, nat_le, cond, List, [], ◌∷◌}
use Rattle.nf_core.specs.Plan.{Plan}
use Rattle.nf_model.specs.Work.{work_by}
use Rattle.nf_engine.specs.declared.queues.Due.{Due}
use Rattle.nf_engine.specs.declared.rounds.Round.{Round}
use Rattle.nf_engine.specs.inner.Numbered.{numbered_sum}
use Rattle.nf_engine.specs.inner.Queues.{rank}
use Rattle.nf_engine.specs.inner.Rounds.{Passage, old_pools, new_pools, IsBetween, work_left}

-- the work of a whole step
abbrev pub whole_work : Plan → Passage → ℕ
whole_work plan passage = work_by plan (old_pools plan passage) (new_pools plan passage)

-- a step has come to some place in the order, between two turns
pub record IsStarted (plan : Plan) (passage : Passage) (round : Round) : Type 0 where
  pub frontier : ℕ
  pub between : IsBetween plan passage frontier round

-- all names had their turn, and no rule is to be evaluated
pub record IsEnded (plan : Plan) (passage : Passage) (round : Round) : Type 0 where
  pub frontier : ℕ
  pub between : IsBetween plan passage frontier round
  pub nothing_due : round.queue ≡ []

-- some names had their turn: what was evaluated, with the work that may be left, is no more than that of the whole step
pub record IsRunning (plan : Plan) (passage : Passage) (before now : ℕ) (round : Round) : Type 0 where
  pub frontier : ℕ
  pub between : IsBetween plan passage frontier round
  pub cost : now + work_left plan passage frontier round.queue ≤ before + whole_work plan passage

-- how many rules may be evaluated yet: those whose heads don't come before the head of the first entry
abbrev pub rules_left : Plan → List Due → ℕ
rules_left plan [] = 0
rules_left plan (d ∷ rest) = numbered_sum (λ k rule. cond (nat_le (rank plan d.head) (rank plan rule.head)) 1 0) plan.rules
