-- Rules that are selected and judged, and why they are refused.
use Rattle.std.specs.Prelude.{◌≡◌, ◌⊎◌, ℕ, ◌+◌, List, length, Option, Some, Err}
use Rattle.nf_core.specs.Trees.{Rule}
use Rattle.nf_core.specs.declared.trees.Module.{Module}
use Rattle.nf_modules.specs.Selection.{Selects}
use Rattle.nf_modules.specs.declared.fault.ModuleFault.{ModuleFault}
use Rattle.nf_parse.specs.Answers.{entries_in}
use Rattle.nf_spec.specs.Specification.{kind_fault, unselected}
use Rattle.nf_spec.specs.declared.fault.SpecFault.{SpecFault}
use Rattle.nf_spec.specs.declared.fault.SpecFault.TheVariants as fault
use Rattle.nf_typing.specs.declared.fault.KindFault.{KindFault}

-- how many rules and entries of maps rules have
abbrev pub size_of_rules : List Rule → ℕ
size_of_rules rules = length rules + length (entries_in rules)

-- the fault of a refused selection, or want of memory
abbrev pub IsUnselected : List Module → Option (List ℕ) → SpecFault → Type 0
IsUnselected modules root found = (found ≡ fault.NoMemory) ⊎ ((why : ModuleFault) × Selects modules root (Err why) × (found ≡ unselected why))

-- the fault of the first rule whose kinds aren't right, by its number
abbrev pub IsWrongKind : List Rule → SpecFault → Type 0
IsWrongKind rules found = (number : ℕ) × (why : KindFault) × (kind_fault rules ≡ Some (number, why)) × (found ≡ fault.Kinds number why)
