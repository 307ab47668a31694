-- Sums over the rules of a plan, by their numbers.
use Rattle.std.specs.Prelude.{ℕ, suc, ◌+◌, Bool, List, [], ◌∷◌, if◌then◌else◌}
use Rattle.nf_core.specs.declared.terms.PlanRule.{PlanRule}

-- a number for each rule, which its own number may tell, summed; the first one has this number
abbrev pub sum_from : (ℕ → PlanRule → ℕ) → ℕ → List PlanRule → ℕ
sum_from f k [] = 0
sum_from f k (rule ∷ rules) = f k rule + sum_from f (suc k) rules

-- the same from 0 on
abbrev pub numbered_sum : (ℕ → PlanRule → ℕ) → List PlanRule → ℕ
numbered_sum f rules = sum_from f 0 rules

-- 1 where a test is met, else 0
abbrev pub one_if : Bool → ℕ
one_if b = if b then 1 else 0
