-- What names lost and gained so far in a step.
use Rattle.std.specs.Prelude.{◌≡◌, ℕ, ◌<◌, ◌==◌, Bool, List, [], ◌++◌, length, unwrap_or, is_some, flat_map, All, if◌then◌else◌}
use Rattle.std.specs.Map.{lookup}
use Rattle.nf_core.specs.Intervals.{Interval}
use Rattle.nf_core.specs.Plan.{Plan, is_head}
use Rattle.nf_core.specs.declared.intervals.Change.{Change}
use Rattle.nf_core.specs.declared.intervals.Delta.{Delta}
use Rattle.nf_core.specs.declared.intervals.Named.{Named}
use Rattle.nf_model.specs.Changes.{heads, named}

-- names with their deltas, each name once, ascending
abbrev pub NamedDeltas : Type 0
NamedDeltas = List (ℕ × Delta)

-- the delta of what stays
abbrev pub no_change : Delta
no_change = record { gone = []; come = [] }

-- what a name lost and gained
abbrev pub delta_at : NamedDeltas → ℕ → Delta
delta_at changed n = unwrap_or (lookup (λ m. n == m) changed) no_change

-- whether a name has a delta
abbrev pub is_changed : NamedDeltas → ℕ → Bool
is_changed changed n = is_some (lookup (λ m. n == m) changed)

-- what the heads lost and gained, by number, where each name has a delta
abbrev pub change_of_heads : Plan → (ℕ → Delta) → Change
change_of_heads plan deltas = record {
  gone = flat_map (λ n. named n (deltas n).gone) (heads plan);
  come = flat_map (λ n. named n (deltas n).come) (heads plan);
}

-- what entries tell of heads by one of the two lists of a delta, in their order, and nothing of names that are no heads
abbrev pub told : Plan → (side : Delta → List Interval) → NamedDeltas → List Named
told plan side entries = flat_map (λ (e : ℕ × Delta). if is_head plan e.0 then named e.0 (side e.1) else []) entries

-- a change has what all entries but the last ones tell of heads; those are of names of the plan
pub record IsTold (plan : Plan) (left entries : NamedDeltas) (change : Change) : Type 0 where
  pub gone : change.gone ++ told plan (λ d. d.gone) left ≡ told plan (λ d. d.gone) entries
  pub come : change.come ++ told plan (λ d. d.come) left ≡ told plan (λ d. d.come) entries
  pub names : All (λ (e : ℕ × Delta). e.0 < length plan.names) left
