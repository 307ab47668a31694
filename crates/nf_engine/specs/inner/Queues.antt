-- In which order a step turns to names and rules.
use Rattle.std.specs.Prelude.{◌≡◌, ◌≢◌, ◌⊎◌, ℕ, ◌+◌, ◌*◌, ◌==◌, Bool, List, [], ◌∷◌, length, slice_get, Some, All}
use Rattle.std.specs.declared.cmp.Ordering.{Ordering}
use Rattle.std.specs.Ordering.{ordering_then, nat_cmp}
use Rattle.std.specs.List.{list_any}
use Rattle.std.specs.BTreeMap.Range.{IsLeBy, IsLtBy}
use Rattle.nf_core.specs.Plan.{Plan, level_of}
use Rattle.nf_engine.specs.declared.queues.Due.{Due}

-- the place of a name in the order of levels, and within a level of numbers: a name of a lower level has a lower one
unfoldable pub rank : Plan → ℕ → ℕ
rank plan n = level_of plan n * length plan.names + n

-- by the level of the head, then by its number, then by the rule's
abbrev pub due_cmp : Due → Due → Ordering
due_cmp d e = ordering_then (nat_cmp d.level e.level) (ordering_then (nat_cmp d.head e.head) (nat_cmp d.rule e.rule))

-- whether a rule is to be evaluated yet
abbrev pub is_due : List Due → ℕ → Bool
is_due queue k = list_any (λ (d : Due). d.rule == k) queue

-- the first entry of a queue, and no other one comes before it
pub record IsLeast (queue : List Due) (d : Due) : Type 0 where
  pub first : slice_get queue 0 ≡ Some d
  pub least : All (IsLeBy due_cmp d) queue

-- the first entry of a queue is that of a rule of a name
pub record IsNextOf (queue : List Due) (head k : ℕ) : Type 0 where
  pub entry : Due
  pub least : IsLeast queue entry
  pub head_is : entry.head ≡ head
  pub rule_is : entry.rule ≡ k

-- the first entry is that of a rule of another name
pub record IsOther (queue : List Due) (head : ℕ) : Type 0 where
  pub entry : Due
  pub least : IsLeast queue entry
  pub apart : entry.head ≢ head

-- no entry, or the first one is that of another name
abbrev pub IsNoNext : List Due → ℕ → Type 0
IsNoNext queue head = (queue ≡ []) ⊎ IsOther queue head

-- a queue without its first entry, and all others come after that
pub record IsPopped (old new : List Due) (d : Due) : Type 0 where
  pub rest : old ≡ d ∷ new
  pub later : All (IsLtBy due_cmp d) new
