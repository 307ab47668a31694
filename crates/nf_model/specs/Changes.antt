-- What the pools of heads lose and gain between two inputs.
use Rattle.std.specs.Prelude.{◌≡◌, ℕ, Bool, not, List, [], map, filter, flat_map, length, replicate, slice_set, All, IsTrue}
use Rattle.std.specs.List.{range_with_len}
use Rattle.nf_core.specs.Intervals.{Interval}
use Rattle.nf_core.specs.Sets.{IsSet, has, inserted}
use Rattle.nf_core.specs.Plan.{Plan, IsPlan, is_head, is_wide}
use Rattle.nf_core.specs.declared.intervals.Delta.{Delta}
use Rattle.nf_core.specs.declared.intervals.Named.{Named}
use Rattle.nf_core.specs.declared.intervals.Change.{Change}
use Rattle.nf_model.specs.Levels.{Pools}
use Rattle.nf_model.specs.Members.{IsInTime, AreOfKeys}
use Rattle.nf_model.specs.Pools.{Inputs, of_name, pool}

-- a plan, whether minimality is off, and the inputs
pub record Content : Type 0 where
  pub plan : Plan
  pub full : Bool
  pub inputs : Inputs

-- what holds of every content: its plan is one, and each name has a list of inputs that ascends and has each interval once, whose rows have a cell for each key of the name, and which begin no later than they end; a wide name has no inputs
pub record IsContent (content : Content) : Type 0 where
  pub valid : IsPlan content.plan
  pub each : length content.inputs ≡ length content.plan.names
  pub sets : (n : ℕ) → IsSet (of_name content.inputs n)
  pub rows : AreOfKeys content.plan content.inputs
  pub times : (n : ℕ) → All IsInTime (of_name content.inputs n)
  pub narrow : (n : ℕ) → IsTrue (is_wide content.plan n) → of_name content.inputs n ≡ []

-- the content of a plan before anything was entered
abbrev pub no_inputs : Plan → Bool → Content
no_inputs plan full = record { plan = plan; full = full; inputs = replicate (length plan.names) [] }

-- the pool of a name
abbrev pub pool_of : Content → Pools
pool_of content = pool content.plan content.full content.inputs

-- the content with an interval added to the inputs of a name that it has, once
abbrev pub with_input : ℕ → Interval → Content → Content
with_input n i content = record content { inputs = slice_set content.inputs n (inserted i (of_name content.inputs n)) }

-- the head names, by number
abbrev pub heads : Plan → List ℕ
heads plan = filter (is_head plan) (range_with_len 0 (length plan.names))

-- the members of a list that another one lacks
abbrev pub lacking : List Interval → List Interval → List Interval
lacking members others = filter (λ i. not (has others i)) members

-- the delta from one list to another: what the first one has and the other lacks went, and the other way round came
abbrev pub delta_of : (old now : List Interval) → Delta
delta_of old now = record { gone = lacking old now; come = lacking now old }

-- intervals with their name's number
abbrev pub named : ℕ → List Interval → List Named
named n members = map (λ i. record { name = n; interval = i }) members

-- what the heads have in one choice of pools and lack in another, by the head's number and then by the order of intervals
abbrev pub beyond : Plan → (pools others : Pools) → List Named
beyond plan pools others = flat_map (λ n. named n (lacking (pools n) (others n))) (heads plan)

-- `gone` is what the pools of heads had and lack now, `come` what they lacked and have now
abbrev pub change_over : Plan → (before now : Pools) → Change
change_over plan before now = record { gone = beyond plan before now; come = beyond plan now before }

-- the change from one content to another one of the same plan, where a content has such pools
abbrev pub change_by : (Content → Pools) → (before now : Content) → Change
change_by pools before now = change_over before.plan (pools before) (pools now)

-- the change of the pools
abbrev pub change : (before now : Content) → Change
change before now = change_by pool_of before now
