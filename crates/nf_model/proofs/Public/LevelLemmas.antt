-- Recursion on the level by any step that reads lower levels alone.
use Rattle.std.proofs.Common.{◌≡◌, ℕ, zero, suc, ◌<◌, List, [], length, refl, sym, ◌∙◌, arith}
use Rattle.nf_core.specs.Intervals.{Interval}
use Rattle.nf_core.specs.Plan.{Plan, level_of}
use Rattle.nf_model.specs.Levels.{Pools, Step, IsBelow, ReadsBelow, through_levels, by_levels}

-- what a step keeps holds of every list
module _ (step : Step) (P : ℕ → List Interval → Type 0) (none : (n : ℕ) → P n []) (kept : (pools : Pools) → ((m : ℕ) → P m (pools m)) → (n : ℕ) → P n (step pools n)) where
  kept_through : (level n : ℕ) → P n (through_levels step level n)
  unfolding through_levels
  kept_through zero n = none n
  kept_through (suc level) n = kept (through_levels step level) (kept_through level) n

  pub kept_by_levels : (plan : Plan) (n : ℕ) → P n (by_levels plan step n)
  kept_by_levels plan n = kept_through (suc (level_of plan n)) n

module _ (plan : Plan) (step : Step) (reads : ReadsBelow plan step) where
  -- the lists through any two levels are the same at a name whose level is below both
  stable : (a b n : ℕ) → n < length plan.names → level_of plan n < a → level_of plan n < b → through_levels step a n ≡ through_levels step b n
  unfolding through_levels
  stable zero b n within under_a under_b = absurd (omega arith)
  stable (suc a) zero n within under_a under_b = absurd (omega arith)
  stable (suc a) (suc b) n within under_a under_b =
      reads (through_levels step a) (through_levels step b) n within
      (λ m below. stable a b m below.name (omega (arith, below.level)) (omega (arith, below.level)))

  -- the step over lists that are right at the names below gives the list of a name
  pub step-is_by_levels : (P : Pools) (n : ℕ) → n < length plan.names → ((m : ℕ) → IsBelow plan n m → P m ≡ by_levels plan step m) → step P n ≡ by_levels plan step n
  unfolding through_levels
  step-is_by_levels P n within alike =
      reads P (through_levels step (level_of plan n)) n within
      (λ m below. alike m below ∙ stable (suc (level_of plan m)) (level_of plan n) m below.name (omega arith) below.level)

  -- the lists solve the equation of the step
  pub by_levels_solved : (n : ℕ) → n < length plan.names → by_levels plan step n ≡ step (by_levels plan step) n
  by_levels_solved n within = sym (step-is_by_levels (by_levels plan step) n within (λ m below. refl))
