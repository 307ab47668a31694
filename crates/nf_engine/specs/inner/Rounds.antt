-- How far a step has come: what is kept of names and rules, what changed so far, and which rules are to be evaluated yet.
use Rattle.std.specs.Prelude.{◌≡◌, ℕ, ◌+◌, ◌<◌, ◌≤◌, nat_le, ◌==◌, Bool, true, false, ◌||◌, cond, List, [], length, slice_get, slice_index_or, Option, None, Some, All, if◌then◌else◌}
use Rattle.std.specs.List.{list_any}
use Rattle.nf_core.specs.Intervals.{Interval}
use Rattle.nf_core.specs.Sets.{has, once}
use Rattle.nf_core.specs.Plan.{Plan, IsPlan, level_of, body_names}
use Rattle.nf_core.specs.declared.intervals.Delta.{Delta}
use Rattle.nf_core.specs.declared.terms.PlanRule.{PlanRule}
use Rattle.nf_model.specs.Levels.{Pools, IsBelow, ReadsBelow}
use Rattle.nf_model.specs.Members.{IsOfKeys}
use Rattle.nf_model.specs.Pools.{Inputs, of_name, pool, results_over, held_over, holds_all}
use Rattle.nf_model.specs.Work.{rule_work, sides_of}
use Rattle.nf_minimal.specs.Minimals.{Minimal, held_of}
use Rattle.nf_model.specs.Changes.{delta_of}
use Rattle.nf_tally.specs.Numbers.{number, often}
use Rattle.nf_engine.specs.declared.queues.Due.{Due}
use Rattle.nf_engine.specs.declared.rounds.Round.{Round}
use Rattle.nf_engine.specs.declared.parts.RulePart.{RulePart}
use Rattle.nf_engine.specs.inner.Queues.{rank, is_due}
use Rattle.nf_engine.specs.inner.Deltas.{no_change, delta_at, is_changed}
use Rattle.nf_engine.specs.inner.Numbered.{numbered_sum, one_if}
use Rattle.nf_engine.specs.inner.Parts.{IsPartOf}

-- what a step leads from and to: whether minimality is off, and the inputs before and now
pub record Passage : Type 0 where
  pub full : Bool
  pub before : Inputs
  pub now : Inputs

-- the pools before a step, and those after it
abbrev pub old_pools : Plan → Passage → Pools
old_pools plan passage = pool plan passage.full passage.before

abbrev pub new_pools : Plan → Passage → Pools
new_pools plan passage = pool plan passage.full passage.now

-- a name without candidates
abbrev pub no_candidates : Minimal
no_candidates = record { full = false; sources = [] }

-- what is kept of a name
abbrev pub minimal_at : List Minimal → ℕ → Minimal
minimal_at names n = slice_index_or names n no_candidates

-- the held intervals of each name, as far as a step has come
abbrev pub held_in : List Minimal → Pools
held_in names n = held_of (minimal_at names n)

-- what is kept of a rule
abbrev pub part_at : List (Option RulePart) → ℕ → Option RulePart
part_at rules k = slice_index_or rules k None

-- whether a rule reads a name
abbrev pub reads : PlanRule → ℕ → Bool
reads rule n = list_any (λ m. m == n) (body_names rule)

-- it is one of a valid plan: rules read names of lower levels than their heads', the pools read lower levels alone, and the rows of the pools are as long as their names' keys
pub record IsPassage (plan : Plan) (passage : Passage) : Type 0 where
  pub valid : IsPlan plan
  pub lower : (k : ℕ) (rule : PlanRule) (m : ℕ) → slice_get plan.rules k ≡ Some rule → reads rule m ≡ true → IsBelow plan rule.head m
  pub below : ReadsBelow plan (held_over plan passage.full passage.now)
  pub old_rows : (n : ℕ) → All (IsOfKeys plan n) (old_pools plan passage n)
  pub new_rows : (n : ℕ) → All (IsOfKeys plan n) (new_pools plan passage n)

-- the pools that a rule's part knows: those before the step where it is to be evaluated yet, else those that are held
abbrev pub known_to : Plan → Passage → List Minimal → List Due → ℕ → Pools
known_to plan passage names queue k = if is_due queue k then old_pools plan passage else held_in names

-- how many rules of a name have an interval among their results, each over its own pools
abbrev pub found : Plan → (ℕ → Pools) → ℕ → Interval → ℕ
found plan pools n q =
    numbered_sum (λ k rule. cond (rule.head == n) (one_if (has (once (results_over (pools k) rule)) q)) 0) plan.rules

-- what is gathered for one name, and nothing for any other one
abbrev pub only_at : ℕ → Delta → ℕ → Delta
only_at head delta n = cond (n == head) delta no_change

abbrev pub nothing : ℕ → Delta
nothing n = no_change

-- an entry of the queue: it is that of a rule, whose head doesn't come before a place in the order
pub record IsDueIn (plan : Plan) (low : ℕ) (d : Due) : Type 0 where
  pub rule : PlanRule
  pub at : slice_get plan.rules d.rule ≡ Some rule
  pub head : d.head ≡ rule.head
  pub level : d.level ≡ level_of plan rule.head
  pub late : low ≤ rank plan rule.head

-- each name's number of an interval is 1 where it is an input, and 1 for each rule of the name that has it among its results, as far as the rule was evaluated and what that gave isn't gathered still
abbrev pub AreSources : Plan → Passage → (ℕ → Delta) → List Minimal → List Due → Type 0
AreSources plan passage gathered names queue = (n : ℕ) → n < length plan.names → (q : Interval)
    → number (minimal_at names n).sources q + often (gathered n).come q
    ≡ often (gathered n).gone q + (one_if (has (of_name passage.now n) q) + found plan (known_to plan passage names queue) n q)

-- the names before `low` have had their turn, and those before `high` need none of a rule that isn't in the queue
pub record IsUnderway (plan : Plan) (passage : Passage) (low high : ℕ) (gathered : ℕ → Delta) (round : Round) : Type 0 where
  pub each_name : length round.names.items ≡ length plan.names
  pub each_rule : length round.rules.items ≡ length plan.rules
  pub full : (n : ℕ) → n < length plan.names → (minimal_at round.names.items n).full ≡ holds_all plan passage.full n
  pub sources : AreSources plan passage gathered round.names.items round.queue
  pub parts : (k : ℕ) (rule : PlanRule) → slice_get plan.rules k ≡ Some rule
      → IsPartOf rule (known_to plan passage round.names.items round.queue k) (part_at round.rules.items k)
  pub deltas : (n : ℕ) → n < length plan.names → delta_at round.changed n ≡ delta_of (old_pools plan passage n) (held_in round.names.items n)
  pub turned : (n : ℕ) → is_changed round.changed n ≡ true → (n < length plan.names) × (rank plan n < low)
  pub due : All (IsDueIn plan low) round.queue
  pub queued : (k : ℕ) (rule : PlanRule) (m : ℕ) → slice_get plan.rules k ≡ Some rule → reads rule m ≡ true → is_changed round.changed m ≡ true
      → high ≤ rank plan rule.head → is_due round.queue k ≡ true

-- between two turns
abbrev pub IsBetween : Plan → Passage → ℕ → Round → Type 0
IsBetween plan passage frontier round = IsUnderway plan passage frontier frontier nothing round

-- within the turn of a name, with what was gathered for it
abbrev pub IsWithin : Plan → Passage → ℕ → Delta → Round → Type 0
IsWithin plan passage head delta round =
    IsUnderway plan passage (rank plan head) (rank plan head + 1) (only_at head delta) round

-- the work of a rule, where its names come to their new pools
abbrev pub work_of : Plan → Passage → PlanRule → ℕ
work_of plan passage rule = rule_work rule (sides_of (old_pools plan passage) rule) (sides_of (new_pools plan passage) rule)

-- the work that may be left: that of the rules in the queue, and of those whose heads don't come before a place in the order
abbrev pub work_left : Plan → Passage → ℕ → List Due → ℕ
work_left plan passage frontier queue =
    numbered_sum (λ k rule. cond (is_due queue k || nat_le frontier (rank plan rule.head)) (work_of plan passage rule) 0) plan.rules
