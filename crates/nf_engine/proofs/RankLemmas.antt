-- The order of names: a lower level comes first, and no two names have one place.
use Rattle.std.proofs.Common.{◌≡◌, ℕ, ◌+◌, ◌*◌, ◌<◌, ◌≤◌, length, ap, inl, inr, arith, add-mul}
use Rattle.std.proofs.lemmas.Bool.{cases_lt}
use Rattle.std.proofs.Math.Nat.{mul-le-mul_right}
use Rattle.nf_core.specs.Plan.{Plan, level_of}
use Rattle.nf_engine.specs.inner.Queues.{rank}

-- a whole row of places lies between two levels
apart : (a b w m : ℕ) → a < b → m < w → a * w + m < b * w
apart a b w m lower within =
    let step : (a + 1) * w ≤ b * w = mul-le-mul_right {m = a + 1} {n = b} w (omega arith) in
    let row : (a + 1) * w ≡ a * w + 1 * w = add-mul a 1 w in
    omega arith

module _ (plan : Plan) (m n : ℕ) where
  -- a name of a lower level comes first
  pub lower_first : m < length plan.names → level_of plan m < level_of plan n → rank plan m < rank plan n
  unfolding rank
  lower_first within lower =
      let gap : level_of plan m * length plan.names + m < level_of plan n * length plan.names = apart (level_of plan m) (level_of plan n) (length plan.names) m lower within in
      omega arith

  -- and within a level the one with the lower number
  pub number_first : level_of plan m ≡ level_of plan n → m ≤ n → rank plan m ≤ rank plan n
  unfolding rank
  number_first level less =
      let rows : level_of plan m * length plan.names ≡ level_of plan n * length plan.names = ap (λ (l : ℕ). l * length plan.names) level in
      omega arith

module _ (plan : Plan) (m n : ℕ) where
  -- names in one place are one
  pub one_place : m < length plan.names → n < length plan.names → rank plan m ≡ rank plan n → m ≡ n
  unfolding rank
  one_place here there is =
      elim (cases_lt (level_of plan m) (level_of plan n)) [
        | inl lower ↦ let gap : level_of plan m * length plan.names + m < level_of plan n * length plan.names = apart (level_of plan m) (level_of plan n) (length plan.names) m lower here in absurd (omega arith)
        | inr more ↦ elim (cases_lt (level_of plan n) (level_of plan m)) [
          | inl lower ↦ let gap : level_of plan n * length plan.names + n < level_of plan m * length plan.names = apart (level_of plan n) (level_of plan m) (length plan.names) n lower there in absurd (omega arith)
          | inr less ↦
              let level : level_of plan m ≡ level_of plan n = omega arith in
              let rows : level_of plan m * length plan.names ≡ level_of plan n * length plan.names = ap (λ (l : ℕ). l * length plan.names) level in
              omega arith
        ]
      ]
