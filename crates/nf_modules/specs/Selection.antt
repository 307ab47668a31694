-- The rules that are selected from modules, for a root or without one.
use Rattle.std.specs.Prelude.{◌≡◌, ◌↔◌, ℕ, Bool, not, List, [], ◌∷◌, ◌++◌, flat_map, find, Option, None, Some, option_map, option_to_list, Result, Ok, Err, bytes_eq, Contains, IsTrue, if◌then◌else◌}
use Rattle.std.specs.List.{list_any, items_where_true, AllZip}
use Rattle.std.specs.Option.{option_or}
use Rattle.nf_core.specs.Trees.{Rule}
use Rattle.nf_core.specs.declared.trees.Module.{Module}
use Rattle.nf_modules.specs.declared.fault.ModuleFault.{ModuleFault}
use Rattle.nf_modules.specs.declared.fault.ModuleFault.TheVariants.{NoModule, SameModule}

-- the names of some modules in order; a module may have none
abbrev pub module_names : List Module → List (List ℕ)
module_names modules = flat_map (λ (m : Module). option_to_list m.name) modules

-- of names behind earlier ones, the first that stands earlier
abbrev pub first_again : List (List ℕ) → List (List ℕ) → Option (List ℕ)
first_again earlier [] = None
first_again earlier (name ∷ later) = if list_any (bytes_eq name) earlier then Some name else first_again (earlier ++ name ∷ []) later

-- no module has this name
abbrev pub is_missing : List Module → List ℕ → Bool
is_missing modules name = not (list_any (bytes_eq name) (module_names modules))

-- the imports of some modules in order
abbrev pub all_imports : List Module → List (List ℕ)
all_imports modules = flat_map (λ (m : Module). m.imports) modules

-- the rules of some modules in order
abbrev pub all_rules : List Module → List Rule
all_rules modules = flat_map (λ (m : Module). m.rules) modules

-- a module is reached, by walks: without a root every module is; with a root the one of that name is, and each one that a reached one imports
pub data Reached (modules : List Module) (root : Option (List ℕ)) : Module → Type 0 where
  every : {m : Module} → root ≡ None → Reached modules root m
  asked : {m : Module} {name : List ℕ} → root ≡ Some name → m.name ≡ Some name → Reached modules root m
  imported : {m n : Module} {name : List ℕ} → Contains modules m → Reached modules root m → Contains m.imports name → n.name ≡ Some name → Reached modules root n

-- the fault, where these modules are reached: SameModule at the first module whose name an earlier one has; then NoModule for a root that no module has as its name; then NoModule for the first import of the reached modules, in order, that no module has as its name
abbrev pub fault_of : List Module → Option (List ℕ) → List Module → Option ModuleFault
fault_of modules root reached =
    option_or (option_map SameModule (first_again [] (module_names modules)))
    (option_or (option_map NoModule (find (is_missing modules) (option_to_list root)))
    (option_map NoModule (find (is_missing modules) (all_imports reached))))

-- a fault, or the rules where there is none
abbrev pub settled : Option ModuleFault → List Rule → Result (List Rule) ModuleFault
settled (Some fault) rules = Err fault
settled None rules = Ok rules

-- a truth value for each module in order, true exactly where the module is reached
abbrev pub AreReached : List Module → Option (List ℕ) → List Bool → Type 0
AreReached modules root reached = AllZip (λ m is_reached. IsTrue is_reached ↔ Reached modules root m) modules reached

-- what is answered: the fault, or else the rules of the reached modules in order
pub record Selects (modules : List Module) (root : Option (List ℕ)) (answer : Result (List Rule) ModuleFault) : Type 0 where
  pub reached : List Bool
  pub by_walks : AreReached modules root reached
  pub answered : answer ≡ settled (fault_of modules root (items_where_true reached modules)) (all_rules (items_where_true reached modules))
