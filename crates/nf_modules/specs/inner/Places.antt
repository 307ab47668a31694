-- The numbers of modules by their names.
use Rattle.std.specs.Prelude.{◌≡◌, ◌⊎◌, ◌++◌, ◌∷◌, ℕ, Bool, not, length, find, List, [], Option, None, Some, is_some, slice_get, bytes_eq, if◌then◌else◌}
use Rattle.indexmap.specs.IndexMap.{IndexMap, get_by}
use Rattle.nf_core.specs.declared.trees.Module.{Module}
use Rattle.nf_modules.specs.Selection.{module_names, first_again}
use Rattle.nf_modules.specs.declared.fault.ModuleFault.{ModuleFault}
use Rattle.nf_modules.specs.declared.fault.ModuleFault.TheVariants.{NoMemory, SameModule}
use denote.Ref.{Bor}

-- the number that a map has for a name
abbrev pub number_in : {S : Type 0} → IndexMap (Bor (List ℕ)) ℕ S → List ℕ → Option ℕ
number_in map name = get_by (λ key. bytes_eq name key.now) map

-- a name has no number
abbrev pub has_no_number : (List ℕ → Option ℕ) → List ℕ → Bool
has_no_number number name = not (is_some (number name))

-- the first of some names that has no number
abbrev pub first_missing : (List ℕ → Option ℕ) → List (List ℕ) → Option (List ℕ)
first_missing number names = find (has_no_number number) names

-- names have the places of the modules that have them as numbers: at a number the module has the name, the name of each module has its place as a number, and no name stands twice
pub record ArePlaces (number : List ℕ → Option ℕ) (modules : List Module) : Type 0 where
  pub named : (name : List ℕ) (i : ℕ) → number name ≡ Some i → (m : Module) × (slice_get modules i ≡ Some m) × (m.name ≡ Some name)
  pub every : (i : ℕ) (m : Module) (name : List ℕ) → slice_get modules i ≡ Some m → m.name ≡ Some name → number name ≡ Some i
  pub once : first_again [] (module_names modules) ≡ None

-- a name is given a number, and the others keep theirs
abbrev pub IsGiven : (List ℕ → Option ℕ) → (List ℕ → Option ℕ) → List ℕ → ℕ → Type 0
IsGiven old new name place = (other : List ℕ) → new other ≡ (if bytes_eq name other then Some place else old other)

-- where names had the places of some modules, they have those of one more behind them
abbrev pub IsAdded : (List ℕ → Option ℕ) → (List ℕ → Option ℕ) → ℕ → Module → Type 0
IsAdded old new place m = (ms : List Module) → place ≡ length ms → ArePlaces old ms → ArePlaces new (ms ++ m ∷ [])

-- this fault, or want of memory
abbrev pub OrNoMemory : (ModuleFault → Type 0) → ModuleFault → Type 0
OrNoMemory IsFault fault = (fault ≡ NoMemory) ⊎ IsFault fault

-- SameModule at the first module whose name an earlier one has
abbrev pub IsNameFault : List Module → ModuleFault → Type 0
IsNameFault modules fault =
    (name : List ℕ) × (fault ≡ SameModule name) × (first_again [] (module_names modules) ≡ Some name)

-- SameModule at a module behind some whose places names have, whatever comes later
abbrev pub IsNameFaultBehind : (List ℕ → Option ℕ) → Module → ModuleFault → Type 0
IsNameFaultBehind number m fault =
    (name : List ℕ) × (fault ≡ SameModule name)
    × ((ms later : List Module) → ArePlaces number ms → first_again [] (module_names (ms ++ m ∷ later)) ≡ Some name)
