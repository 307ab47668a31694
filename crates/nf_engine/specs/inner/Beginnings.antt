-- What an evaluator keeps before anything was entered, as far as it is made.
use Rattle.std.specs.Prelude.{◌≡◌, ℕ, ◌<◌, ◌==◌, Bool, true, List, [], length, slice_get, Option, Some, All}
use Rattle.std.specs.List.{list_any}
use Rattle.nf_core.specs.Plan.{Plan}
use Rattle.nf_core.specs.declared.terms.PlanRule.{PlanRule}
use Rattle.nf_model.specs.Pools.{holds_all}
use Rattle.nf_minimal.specs.Minimals.{Minimal}
use Rattle.nf_engine.specs.declared.parts.RulePart.{RulePart}
use Rattle.nf_engine.specs.inner.Parts.{IsPartOf}
use Rattle.nf_engine.specs.inner.Readers.{readers_of, IsReader}
use Rattle.nf_engine.specs.inner.Rounds.{minimal_at, part_at, reads}

-- a name has no candidates, and all of them or the minimal ones will be held, as the plan says
pub record IsEmptyName (plan : Plan) (full : Bool) (n : ℕ) (m : Minimal) : Type 0 where
  pub all : m.full ≡ holds_all plan full n
  pub none : m.sources ≡ []

-- so many names are there, none with candidates
pub record AreEmptyNames (plan : Plan) (full : Bool) (count : ℕ) (names : List Minimal) : Type 0 where
  pub each : length names ≡ count
  pub empty : (n : ℕ) → n < count → IsEmptyName plan full n (minimal_at names n)

-- a part is that of the rule with a number, where no name has intervals
abbrev pub IsIdlePart : Plan → ℕ → Option RulePart → Type 0
IsIdlePart plan k part = (rule : PlanRule) → slice_get plan.rules k ≡ Some rule → IsPartOf rule (λ n. []) part

-- so many parts of rules are there, over names without intervals
pub record AreIdleParts (plan : Plan) (count : ℕ) (parts : List (Option RulePart)) : Type 0 where
  pub each : length parts ≡ count
  pub idle : (k : ℕ) → k < count → IsIdlePart plan k (part_at parts k)

-- each name has the numbers of the rules before a number that read it, and none of rules that don't
pub record AreFirstReaders (plan : Plan) (count : ℕ) (readers : List (List ℕ)) : Type 0 where
  pub each : length readers ≡ length plan.names
  pub rules : (n : ℕ) → All (IsReader plan n) (readers_of readers n)
  pub complete : (n k : ℕ) (rule : PlanRule) → k < count → slice_get plan.rules k ≡ Some rule → reads rule n ≡ true
      → list_any (λ m. m == k) (readers_of readers n) ≡ true
