-- What is answered of sources, from what is answered of their parts.
use Rattle.std.proofs.Common.{◌≡◌, inl, inr, ⊎_elim, ℕ, ◌<◌, ◌≤◌, List, refl, ap, sym, subst, Option, None, Ok, Err}
use Rattle.nf_core.specs.Plan.{Plan}
use Rattle.nf_core.specs.Trees.{Rule}
use Rattle.nf_core.specs.Written.{Levels, plan_of, names_of, AreLevels}
use Rattle.nf_core.specs.declared.trees.Module.{Module}
use Rattle.nf_modules.specs.Selection.{Selects}
use Rattle.nf_modules.specs.declared.fault.ModuleFault.{ModuleFault}
use Rattle.nf_order.specs.Dependence.{IsFirstCycle, leveled_names}
use Rattle.nf_order.specs.declared.fault.OrderFault.{OrderFault}
use Rattle.nf_order.specs.declared.fault.OrderFault.TheVariants as order
use Rattle.nf_parse.specs.declared.fault.ParseFault.{ParseFault}
use Rattle.nf_spec.specs.inner.Parsing.{IsRefusal}
use Rattle.nf_spec.specs.inner.Selecting.{IsUnselected, IsWrongKind}
use Rattle.nf_spec.specs.Sources.{specification_limit, total, AreParsed}
use Rattle.nf_spec.specs.Specification.{refused_at, unselected, unordered, kind_fault, AreLevelsInOrder, SpecifiesFrom, Answer, Specifies, OrNoMemory}
use Rattle.nf_spec.specs.Specification as spec
use Rattle.nf_spec.specs.declared.compiling.Compiled.{Compiled}
use Rattle.nf_spec.specs.declared.fault.SpecFault.{SpecFault}
use Rattle.nf_spec.specs.declared.fault.SpecFault.TheVariants as fault

-- the selection is refused
pub no_selection : (modules : List Module) (root : Option (List ℕ)) (f : SpecFault) → IsUnselected modules root f → OrNoMemory (SpecifiesFrom modules root) (Err f)
no_selection modules root f why = ⊎_elim
    (λ (full : f ≡ fault.NoMemory). inl (ap Err full))
    (λ (h : (why : ModuleFault) × Selects modules root (Err why) × (f ≡ unselected why)). inr (subst (λ g. SpecifiesFrom modules root (Err g)) (sym h.2) (spec.unselectable h.1)))
    why

-- the kinds of a rule aren't right
pub wrong_kinds : (modules : List Module) (root : Option (List ℕ)) (rules : List Rule) (f : SpecFault) → Selects modules root (Ok rules) → IsWrongKind rules f → OrNoMemory (SpecifiesFrom modules root) (Err f)
wrong_kinds modules root rules f selects (number, why, first, is) = inr (subst (λ g. SpecifiesFrom modules root (Err g)) (sym is) (spec.selected selects (spec.kinds first)))

-- a head depends on itself, or no memory was left
pub no_levels : (modules : List Module) (root : Option (List ℕ)) (rules : List Rule) (why : OrderFault) (f : SpecFault) → Selects modules root (Ok rules) → kind_fault rules ≡ None → f ≡ unordered why → ((name : List ℕ) → why ≡ order.Cycle name → IsFirstCycle rules name) → OrNoMemory (SpecifiesFrom modules root) (Err f)
no_levels modules root rules (order.Cycle head) f selects right is first = inr (subst (λ g. SpecifiesFrom modules root (Err g)) (sym is) (spec.selected selects (spec.cycle right (first head refl))))
no_levels modules root rules order.NoMemory f selects right is first = inl (ap Err is)

-- the rules are compiled
pub all_compiled : (modules : List Module) (root : Option (List ℕ)) (rules : List Rule) (plan : Plan) (levels : Levels) → Selects modules root (Ok rules) → kind_fault rules ≡ None → AreLevels rules levels
    → leveled_names levels ≡ names_of rules → plan ≡ plan_of rules levels → OrNoMemory (SpecifiesFrom modules root) (Ok (record { plan = plan; rules = rules; levels = levels }))
all_compiled modules root rules plan levels selects right each named planned =
    let leveled : AreLevelsInOrder rules levels = record { each_level = each; named = named } in
    let made : Compiled = record { plan = plan; rules = rules; levels = levels } in
    inr (spec.selected selects (spec.compiled {made = made} right (record { rules_are = refl; leveled = leveled; planned = record { levels = levels; leveled = leveled; is = planned } })))

-- the sources are too long
pub past_limit : (sources : List (List ℕ)) (root : Option (List ℕ)) → specification_limit < total sources → OrNoMemory (Specifies sources root) (Err fault.TooLong)
past_limit sources root over = inr (spec.too_long over)

-- a source is refused, or no memory was left
pub no_modules : (sources : List (List ℕ)) (root : Option (List ℕ)) (f : SpecFault) → total sources ≤ specification_limit → IsRefusal sources f → OrNoMemory (Specifies sources root) (Err f)
no_modules sources root f within why = ⊎_elim
    (λ (full : f ≡ fault.NoMemory). inl (ap Err full))
    (λ (h : (place : ℕ) × (why : ParseFault) × AreParsed sources (Err (place, why)) × (f ≡ refused_at place why)). inr (subst (λ g. Specifies sources root (Err g)) (sym h.3) (spec.refused within h.2)))
    why

-- what the modules define
pub from_modules : (sources : List (List ℕ)) (root : Option (List ℕ)) (modules : List Module) (answer : Answer) → total sources ≤ specification_limit → AreParsed sources (Ok modules) → OrNoMemory (SpecifiesFrom modules root) answer → OrNoMemory (Specifies sources root) answer
from_modules sources root modules answer within parsed found = ⊎_elim
    (λ (full : answer ≡ Err fault.NoMemory). inl full)
    (λ (h : SpecifiesFrom modules root answer). inr (spec.parsed within parsed h))
    found
