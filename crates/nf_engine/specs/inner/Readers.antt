-- Which rules read a name.
use Rattle.std.specs.Prelude.{◌≡◌, ℕ, ◌==◌, true, ◌||◌, ◌⊎◌, List, [], length, slice_get, slice_index_or, Some, All, Contains}
use Rattle.std.specs.List.{list_any}
use Rattle.std.specs.BTreeSet.{insert_key}
use Rattle.nf_core.specs.Plan.{Plan, level_of}
use Rattle.nf_core.specs.declared.terms.PlanRule.{PlanRule}
use Rattle.nf_engine.specs.declared.queues.Due.{Due}
use Rattle.nf_engine.specs.inner.Queues.{due_cmp, is_due}
use Rattle.nf_engine.specs.inner.Rounds.{reads}

-- the numbers of the rules that read a name
abbrev pub readers_of : List (List ℕ) → ℕ → List ℕ
readers_of readers n = slice_index_or readers n []

-- a number is that of a rule that reads a name
pub record IsReader (plan : Plan) (n k : ℕ) : Type 0 where
  pub rule : PlanRule
  pub at : slice_get plan.rules k ≡ Some rule
  pub reads : reads rule n ≡ true

-- each name has the numbers of all rules that read it, and no others
pub record AreReaders (plan : Plan) (readers : List (List ℕ)) : Type 0 where
  pub each : length readers ≡ length plan.names
  pub rules : (n : ℕ) → All (IsReader plan n) (readers_of readers n)
  pub complete : (n k : ℕ) (rule : PlanRule) → slice_get plan.rules k ≡ Some rule → reads rule n ≡ true
      → list_any (λ m. m == k) (readers_of readers n) ≡ true

-- an entry with the head and the level of its rule
pub record IsEntryFor (plan : Plan) (d : Due) : Type 0 where
  pub rule : PlanRule
  pub at : slice_get plan.rules d.rule ≡ Some rule
  pub head : d.head ≡ rule.head
  pub level : d.level ≡ level_of plan rule.head

-- a rule was put into the queue, with the head and the level that it has
pub record IsQueued (plan : Plan) (k : ℕ) (old new : List Due) : Type 0 where
  pub entry : Due
  pub rule_is : entry.rule ≡ k
  pub of_plan : IsEntryFor plan entry
  pub queue : new ≡ insert_key due_cmp old entry

-- some rules were put into the queue: these are due besides those that were, and each entry was there or is that of one of these rules
pub record HasQueued (plan : Plan) (numbers : List ℕ) (old new : List Due) : Type 0 where
  pub due : (k : ℕ) → is_due new k ≡ (list_any (λ m. m == k) numbers || is_due old k)
  pub entries : (d : Due) → Contains new d → Contains old d ⊎ (IsEntryFor plan d × Contains numbers d.rule)

-- a rule's number was put into the lists of the names that it reads, and into no other one
pub record IsIndexed (plan : Plan) (k : ℕ) (old new : List (List ℕ)) : Type 0 where
  pub each : length new ≡ length old
  pub there : (n : ℕ) (rule : PlanRule) → slice_get plan.rules k ≡ Some rule → reads rule n ≡ true → list_any (λ m. m == k) (readers_of new n) ≡ true
  pub kept : (n j : ℕ) → list_any (λ m. m == j) (readers_of old n) ≡ true → list_any (λ m. m == j) (readers_of new n) ≡ true
  pub all : (n : ℕ) → All (IsReader plan n) (readers_of old n) → All (IsReader plan n) (readers_of new n)
