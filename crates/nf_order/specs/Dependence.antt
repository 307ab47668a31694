-- What heads depend on, the first head that depends on itself, and which names have levels.
use Rattle.std.specs.Prelude.{◌≡◌, ℕ, List, map, take, slice_get, Some, All, Any, Contains}
use Rattle.nf_core.specs.Trees.{Rule}
use Rattle.nf_core.specs.Written.{Levels, names_read}

-- a walk: one step, or a step followed by a walk
pub data Walk {A : Type 0} (Step : A → A → Type 0) : A → A → Type 0 where
  Last : (from to : A) → Step from to → Walk Step from to
  More : (from between to : A) → Step from between → Walk Step between to → Walk Step from to

-- a rule with this head has that name among the names of its atoms
abbrev pub Reads : List Rule → List ℕ → List ℕ → Type 0
Reads rules head name = Any (λ (rule : Rule). (rule.head ≡ head) × Contains (names_read rule.body) name) rules

-- a head depends on the names in the bodies of its rules, and on what these depend on
abbrev pub DependsOn : List Rule → List ℕ → List ℕ → Type 0
DependsOn rules head name = Walk (Reads rules) head name

-- no head depends on itself
abbrev pub IsAcyclic : List Rule → Type 0
IsAcyclic rules = All (λ (rule : Rule). ¬ DependsOn rules rule.head rule.head) rules

-- the first head, in the order of the rules, that depends on itself
pub record IsFirstCycle (rules : List Rule) (name : List ℕ) : Type 0 where
  pub place : ℕ
  pub head : slice_get (map (λ (rule : Rule). rule.head) rules) place ≡ Some name
  pub cycle : DependsOn rules name name
  pub first : All (λ (rule : Rule). ¬ DependsOn rules rule.head rule.head) (take place rules)

-- the names that have levels, in the order of these
abbrev pub leveled_names : Levels → List (List ℕ)
leveled_names levels = map (λ (l : List ℕ × ℕ). l.0) levels
