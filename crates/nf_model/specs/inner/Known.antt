-- Lists that are the pools of some names: how far an evaluation has come.
use Rattle.std.specs.Prelude.{◌≡◌, ℕ, ◌<◌, Bool, length}
use Rattle.nf_core.specs.Plan.{Plan, level_of}
use Rattle.nf_model.specs.Members.{AreOfKeys}
use Rattle.nf_model.specs.Changes.{IsContent}
use Rattle.nf_model.specs.Pools.{Inputs, of_name, pool}

-- the lists of the names below a level are their pools, and each list has rows as long as its name's keys
pub record AreKnown (plan : Plan) (full : Bool) (inputs : Inputs) (level : ℕ) (lists : Inputs) : Type 0 where
  pub each : length lists ≡ length plan.names
  pub rows : AreOfKeys plan lists
  pub below : (n : ℕ) → n < length plan.names → level_of plan n < level
      → of_name lists n ≡ pool plan full inputs n

-- and so are those of the names of that level that have a number below a given one
pub record AreKnownUpTo (plan : Plan) (full : Bool) (inputs : Inputs)
    (level count : ℕ) (lists : Inputs) : Type 0 where
  pub each : length lists ≡ length plan.names
  pub rows : AreOfKeys plan lists
  pub below : (n : ℕ) → n < length plan.names → level_of plan n < level
      → of_name lists n ≡ pool plan full inputs n
  pub here : (n : ℕ) → n < length plan.names → n < count → level_of plan n ≡ level
      → of_name lists n ≡ pool plan full inputs n

-- the lists of all names are their pools
pub record ArePools (plan : Plan) (full : Bool) (inputs : Inputs) (lists : Inputs) : Type 0 where
  pub each : length lists ≡ length plan.names
  pub pools : (n : ℕ) → n < length plan.names → of_name lists n ≡ pool plan full inputs n

-- what an evaluator keeps: a content, and the pools of its inputs
pub record IsEvaluated (plan : Plan) (full : Bool) (inputs pools : Inputs) : Type 0 where
  pub content : IsContent (record { plan = plan; full = full; inputs = inputs })
  pub known : ArePools plan full inputs pools
