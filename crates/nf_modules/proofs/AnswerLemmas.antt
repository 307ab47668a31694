-- The answers of a selection, case by case.
use Rattle.std.proofs.Common.{◌≡◌, ◌⊎◌, inl, inr, ◌↔◌, ℕ, Bool, List, [], length, flat_map, find, Option, Some, None, option_map, option_to_list, Result, Ok, Err, IsTrue, sym, ap, subst, ◌∙◌}
use Rattle.std.specs.List.{items_where_true}
use Rattle.std.proofs.lemmas.Slice.Zip.{AllZip-long}
use Rattle.std.specs.Option.{option_or}
use Rattle.std.specs.Result.{IsErrAnd}
use Rattle.nf_core.specs.Trees.{Rule}
use Rattle.nf_core.specs.declared.trees.Module.{Module}
use Rattle.nf_modules.specs.declared.fault.ModuleFault.{ModuleFault}
use Rattle.nf_modules.specs.declared.fault.ModuleFault.TheVariants as fault
use Rattle.nf_modules.specs.Selection.{Reached, AreReached, Selects, module_names, first_again, is_missing, settled}
use Rattle.nf_modules.specs.inner.Places.{ArePlaces, has_no_number}
use Rattle.nf_modules.proofs.ModulePlaceLemmas.{missing_number}
use Rattle.nf_modules.proofs.ReachLemmas.{told}

-- the fault by its parts, or the rules where there is none
abbrev settled_by : Option (List ℕ) → Option (List ℕ) → Option (List ℕ) → List Rule → Result (List Rule) ModuleFault
settled_by again root import rules = settled (option_or (option_map fault.SameModule again) (option_or (option_map fault.NoModule root) (option_map fault.NoModule import))) rules

-- the truth values of a vector as a slice
module _ (modules : List Module) (root : Option (List ℕ)) (reached items : List Bool) (same : reached ≡ items) (walks : AreReached modules root items) where
  pub as_reached : AreReached modules root reached
  as_reached = subst (AreReached modules root) (sym same) walks

  pub reached_long : length reached ≡ length modules
  reached_long = AllZip-long (λ m is_reached. IsTrue is_reached ↔ Reached modules root m) modules reached as_reached

module _ (modules : List Module) (root : Option (List ℕ)) where
  abbrev reached_rules : List Bool → List Rule
  reached_rules reached = flat_map (λ (m : Module). m.rules) (items_where_true reached modules)

  abbrev reached_imports : List Bool → List (List ℕ)
  reached_imports reached = flat_map (λ (m : Module). m.imports) (items_where_true reached modules)

  same_module : (name : List ℕ) → first_again [] (module_names modules) ≡ Some name → Selects modules root (Err (fault.SameModule name))
  same_module name again = let t = told modules root in record {
    reached = t.0;
    by_walks = t.1;
    answered = sym (ap (λ o. settled_by o (find (is_missing modules) (option_to_list root)) (find (is_missing modules) (reached_imports t.0)) (reached_rules t.0)) again);
  }

  -- a fault of the numbering that is handed on
  pub handed_on : (r : Result (List Rule) ModuleFault) (f : ModuleFault) → IsErrAnd r (λ e. e ≡ f)
      → (f ≡ fault.NoMemory) ⊎ ((name : List ℕ) × (f ≡ fault.SameModule name) × (first_again [] (module_names modules) ≡ Some name))
      → (r ≡ Err fault.NoMemory) ⊎ Selects modules root r
  handed_on (Ok rules) f is why = absurd is
  handed_on (Err e) f is why = elim why [
    | inl none ↦ inl (ap Err (is ∙ none))
    | inr same ↦ inr (subst (λ g. Selects modules root (Err g)) (sym (is ∙ same.1)) (same_module same.0 same.2))
  ]

  module _ (number : List ℕ → Option ℕ) (are : ArePlaces number modules) where
    tests_same : has_no_number number ≡ is_missing modules
    tests_same = λ i name. sym (missing_number number modules name are) i

    no_root : (o : Option (List ℕ)) → o ≡ find (has_no_number number) (option_to_list root) → find (is_missing modules) (option_to_list root) ≡ o
    no_root o is = sym (is ∙ ap (λ test. find test (option_to_list root)) tests_same)

    -- the root is missing
    pub missing_root : (name : List ℕ) → Some name ≡ find (has_no_number number) (option_to_list root) → Selects modules root (Err (fault.NoModule name))
    missing_root name is = let t = told modules root in record {
      reached = t.0;
      by_walks = t.1;
      answered = sym (
          ap (λ o. settled_by o (find (is_missing modules) (option_to_list root)) (find (is_missing modules) (reached_imports t.0)) (reached_rules t.0)) are.once
          ∙ ap (λ o. settled_by None o (find (is_missing modules) (reached_imports t.0)) (reached_rules t.0)) (no_root (Some name) is));
    }

    module _ (reached : List Bool) (by_walks : AreReached modules root reached) (there : None ≡ find (has_no_number number) (option_to_list root)) where
      by_imports : (o : Option (List ℕ)) → o ≡ find (has_no_number number) (reached_imports reached) → Selects modules root (settled_by None None o (reached_rules reached))
      by_imports o is = record {
        reached = reached;
        by_walks = by_walks;
        answered = sym (
            ap (λ p. settled_by p (find (is_missing modules) (option_to_list root)) (find (is_missing modules) (reached_imports reached)) (reached_rules reached)) are.once
            ∙ ap (λ p. settled_by None p (find (is_missing modules) (reached_imports reached)) (reached_rules reached)) (no_root None there)
            ∙ ap (λ p. settled_by None None p (reached_rules reached)) (sym (is ∙ ap (λ test. find test (reached_imports reached)) tests_same)));
      }

      -- an import of a reached module is missing
      pub missing_import : (name : List ℕ) → Some name ≡ find (has_no_number number) (reached_imports reached) → Selects modules root (Err (fault.NoModule name))
      missing_import name is = by_imports (Some name) is

      -- the rules
      pub no_fault : (rules : List Rule) → None ≡ find (has_no_number number) (reached_imports reached) → rules ≡ reached_rules reached → Selects modules root (Ok rules)
      no_fault rules is all = subst (λ rs. Selects modules root (Ok rs)) (sym all) (by_imports None is)
