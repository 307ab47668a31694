-- Only sources past the limit are too long.
use Rattle.std.proofs.Common.{◌≡◌, ℕ, ◌<◌, List, Option, Err}
use Rattle.nf_core.specs.Trees.{Rule}
use Rattle.nf_core.specs.declared.trees.Module.{Module}
use Rattle.nf_modules.specs.declared.fault.ModuleFault.{ModuleFault}
use Rattle.nf_modules.specs.declared.fault.ModuleFault.TheVariants as selection
use Rattle.nf_parse.specs.declared.fault.ParseFault.{ParseFault}
use Rattle.nf_parse.specs.declared.fault.ParseFault.TheVariants as source
use Rattle.nf_spec.specs.Sources.{specification_limit, total}
use Rattle.nf_spec.specs.Specification as spec
use Rattle.nf_spec.specs.Specification.{Answer, Specifies}
use Rattle.nf_spec.specs.declared.fault.SpecFault.TheVariants as fault
use Rattle.nf_spec.proofs.Public.FaultLemmas.{fault_is}

not_ordered : (rules : List Rule) (answer : Answer) → answer ≡ Err fault.TooLong → spec.Ordered rules answer → ⊥
not_ordered rules answer e (spec.kinds found) = cc
not_ordered rules answer e (spec.cycle found first) = cc
not_ordered rules answer e (spec.compiled found made) = cc

not_unselected : (why : ModuleFault) → spec.unselected why ≡ fault.TooLong → ⊥
not_unselected (selection.NoModule name) e = cc
not_unselected (selection.SameModule name) e = cc
not_unselected selection.NoMemory e = cc

not_refused : (place : ℕ) (why : ParseFault) → spec.refused_at place why ≡ fault.TooLong → ⊥
not_refused place (source.Lex lexical) e = cc
not_refused place (source.Grammar line) e = cc
not_refused place (source.TooDeep line) e = cc
not_refused place source.NoMemory e = cc

not_from : (modules : List Module) (root : Option (List ℕ)) (answer : Answer) → answer ≡ Err fault.TooLong → spec.SpecifiesFrom modules root answer → ⊥
not_from modules root answer e (spec.unselectable {why} selects) = not_unselected why (fault_is _ _ e)
not_from modules root answer e (spec.selected {rules} selects ordered) = not_ordered rules answer e ordered

-- a specification that is refused as too long is past the limit
pub is_past : (sources : List (List ℕ)) (root : Option (List ℕ)) (answer : Answer) → answer ≡ Err fault.TooLong → Specifies sources root answer → specification_limit < total sources
is_past sources root answer e (spec.too_long over) = over
is_past sources root answer e (spec.refused {place} {why} within parsed) = absurd (not_refused place why (fault_is _ _ e))
is_past sources root answer e (spec.parsed {modules} within parsed defined) = absurd (not_from modules root answer e defined)
