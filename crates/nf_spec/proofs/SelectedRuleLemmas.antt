-- What holds of all modules holds of the selected rules.
use Rattle.std.proofs.Common.{◌≡◌, ◌⊎◌, inl, inr, ⊎_elim, ℕ, ◌+◌, ◌≤◌, Bool, true, false, List, [], ◌∷◌, ◌++◌, length, All, refl, ap, ◌∙◌, subst, arith, Option, Some, None, Result, Ok, Err}
use Rattle.std.specs.List.{items_where_true}
use Rattle.std.proofs.lemmas.List.{length-append, take_at, drop_at}
use Rattle.std.proofs.lemmas.List.Elements.{All-nil, All-append, All-take, All-drop}
use Rattle.std.proofs.lemmas.Grind.{flat_map-append}
use Rattle.nf_core.specs.Trees.{Rule}
use Rattle.nf_core.specs.declared.trees.Module.{Module}
use Rattle.nf_modules.specs.Selection.{Selects, settled}
use Rattle.nf_modules.specs.declared.fault.ModuleFault.{ModuleFault}
use Rattle.nf_modules.specs.declared.fault.ModuleFault.TheVariants as selection
use Rattle.nf_parse.specs.Answers.{rules_in, entries_in, size_of}
use Rattle.nf_spec.specs.Sources.{specification_limit}
use Rattle.nf_spec.specs.Specification.{unselected}
use Rattle.nf_spec.specs.inner.Selecting.{size_of_rules, IsUnselected}
use Rattle.nf_spec.specs.declared.fault.SpecFault.{SpecFault}

-- how many rules and entries of maps a module has with those behind it
size_cons : (m : Module) (modules : List Module) → size_of (m ∷ modules) ≡ (length m.rules + length (entries_in m.rules)) + size_of modules
size_cons m modules =
    let entries : length (entries_in (m.rules ++ rules_in modules)) ≡ length (entries_in m.rules) + length (entries_in (rules_in modules)) =
    ap length (flat_map-append (λ (rule : Rule). rule.entries) m.rules (rules_in modules)) ∙ length-append (entries_in m.rules) (entries_in (rules_in modules)) in
    omega (arith, entries, length-append m.rules (rules_in modules))

-- some of the modules have no more of them
kept_few : (kept : List Bool) (modules : List Module) → size_of (items_where_true kept modules) ≤ size_of modules
kept_few [] modules = omega arith
kept_few (b ∷ kept) [] = omega arith
kept_few (true ∷ kept) (m ∷ modules) = omega (arith, size_cons m (items_where_true kept modules), size_cons m modules, kept_few kept modules)
kept_few (false ∷ kept) (m ∷ modules) = omega (arith, size_cons m modules, kept_few kept modules)

All-front : {X : Type 0} (P : X → Type 0) (xs ys : List X) → All P (xs ++ ys) → All P xs
All-front P xs ys h = subst (All P) (take_at xs ys (length xs) refl) (All-take P (length xs) (xs ++ ys) h)

All-behind : {X : Type 0} (P : X → Type 0) (xs ys : List X) → All P (xs ++ ys) → All P ys
All-behind P xs ys h = subst (All P) (drop_at xs ys (length xs) refl) (All-drop P (length xs) (xs ++ ys) h)

-- what holds of the rules of all modules holds of those of some
kept_all : (P : Rule → Type 0) (kept : List Bool) (modules : List Module) → All P (rules_in modules) → All P (rules_in (items_where_true kept modules))
kept_all P [] modules h = All-nil P
kept_all P (b ∷ kept) [] h = All-nil P
kept_all P (true ∷ kept) (m ∷ modules) h = All-append P m.rules (rules_in (items_where_true kept modules)) (All-front P m.rules (rules_in modules) h) (kept_all P kept modules (All-behind P m.rules (rules_in modules) h))
kept_all P (false ∷ kept) (m ∷ modules) h = kept_all P kept modules (All-behind P m.rules (rules_in modules) h)

-- rules that are answered are those of the modules that are kept
rules_kept : (why : Option ModuleFault) (rules kept : List Rule) → Ok rules ≡ settled why kept → kept ≡ rules
rules_kept None rules kept is = cc
rules_kept (Some f) rules kept is = cc

-- of the rules that are selected there are no more with their entries than of all modules
pub selected_few : (modules : List Module) (root : Option (List ℕ)) (rules : List Rule) → Selects modules root (Ok rules) → size_of modules ≤ specification_limit → size_of_rules rules ≤ specification_limit
selected_few modules root rules selects few =
    let is = rules_kept _ rules _ selects.answered in
    let kept = kept_few selects.reached modules in
    subst (λ rs. size_of_rules rs ≤ specification_limit) is (omega (arith, kept, few))

-- what holds of the rules of all modules holds of the selected ones
pub selected_all : (P : Rule → Type 0) (modules : List Module) (root : Option (List ℕ)) (rules : List Rule) → Selects modules root (Ok rules) → All P (rules_in modules) → All P rules
selected_all P modules root rules selects all = subst (All P) (rules_kept _ rules _ selects.answered) (kept_all P selects.reached modules all)

-- the rules that a selection answered
pub selected_here : (modules : List Module) (root : Option (List ℕ)) (rules : List Rule) (found : Result (List Rule) ModuleFault) → found ≡ Ok rules → (found ≡ Err selection.NoMemory) ⊎ Selects modules root found → Selects modules root (Ok rules)
selected_here modules root rules found is answered = ⊎_elim
    (λ (full : found ≡ Err selection.NoMemory). absurd cc)
    (λ (selects : Selects modules root found). subst (Selects modules root) is selects)
    answered

-- the fault of a selection
pub unselected_here : (modules : List Module) (root : Option (List ℕ)) (why : ModuleFault) (f : SpecFault) (found : Result (List Rule) ModuleFault) → found ≡ Err why → f ≡ unselected why → (found ≡ Err selection.NoMemory) ⊎ Selects modules root found → IsUnselected modules root f
unselected_here modules root why f found is given answered = ⊎_elim
    (λ (full : found ≡ Err selection.NoMemory). inl (let no_memory : why ≡ selection.NoMemory = cc in given ∙ ap unselected no_memory))
    (λ (selects : Selects modules root found). inr (why, subst (Selects modules root) is selects, given))
    answered
