-- What the sources of a specification define, under a root or without one: a plan with the selected rules and the levels of their names, or one refusal.
use Rattle.std.specs.Prelude.{◌≡◌, ◌⊎◌, ℕ, suc, ◌<◌, ◌≤◌, List, [], ◌∷◌, Option, Some, None, Result, Ok, Err, false, All, IsTrue}
use Rattle.nf_core.specs.Trees.{Rule}
use Rattle.nf_core.specs.Identifiers.{is_identifier}
use Rattle.nf_core.specs.Plan.{Plan, is_wide}
use Rattle.nf_core.specs.Written.{Levels, plan_of, names_of, AreLevels}
use Rattle.nf_core.specs.declared.trees.Module.{Module}
use Rattle.nf_modules.specs.Selection.{Selects}
use Rattle.nf_modules.specs.declared.fault.ModuleFault.{ModuleFault}
use Rattle.nf_modules.specs.declared.fault.ModuleFault.TheVariants as selection
use Rattle.nf_order.specs.Dependence.{IsFirstCycle, leveled_names}
use Rattle.nf_order.specs.declared.fault.OrderFault.{OrderFault}
use Rattle.nf_order.specs.declared.fault.OrderFault.TheVariants as order
use Rattle.nf_parse.specs.declared.fault.ParseFault.{ParseFault}
use Rattle.nf_parse.specs.declared.fault.ParseFault.TheVariants as source
use Rattle.nf_spec.specs.Sources.{specification_limit, total, AreParsed}
use Rattle.nf_spec.specs.declared.compiling.Compiled.{Compiled}
use Rattle.nf_spec.specs.declared.fault.SpecFault.{SpecFault}
use Rattle.nf_spec.specs.declared.fault.SpecFault.TheVariants as fault
use Rattle.nf_typing.specs.Faults.{fault_of}
use Rattle.nf_typing.specs.declared.fault.KindFault.{KindFault}

-- the fault of a refused source, by its place among the sources
abbrev pub refused_at : ℕ → ParseFault → SpecFault
refused_at place (source.Lex lexical) = fault.Lex place lexical
refused_at place (source.Grammar line) = fault.Grammar place line
refused_at place (source.TooDeep line) = fault.TooDeep place line
refused_at place source.NoMemory = fault.NoMemory

-- the fault of a refused selection
abbrev pub unselected : ModuleFault → SpecFault
unselected (selection.NoModule name) = fault.NoModule name
unselected (selection.SameModule name) = fault.SameModule name
unselected selection.NoMemory = fault.NoMemory

-- the fault of rules without levels
abbrev pub unordered : OrderFault → SpecFault
unordered (order.Cycle head) = fault.Cycle head
unordered order.NoMemory = fault.NoMemory

-- the fault of a rule with a number, where it has one, and else that of the rules behind it
abbrev pub kind_fault_at : ℕ → Option KindFault → Option (ℕ × KindFault) → Option (ℕ × KindFault)
kind_fault_at number None later = later
kind_fault_at number (Some why) later = Some (number, why)

-- the first of some rules whose kinds aren't right, by its number, with its first fault; the first of the rules has this number
unfoldable pub kind_fault_from : ℕ → List Rule → Option (ℕ × KindFault)
kind_fault_from number [] = None
kind_fault_from number (rule ∷ rules) = kind_fault_at number (fault_of rule) (kind_fault_from (suc number) rules)

-- the first rule whose kinds aren't right; rules are counted from 1
abbrev pub kind_fault : List Rule → Option (ℕ × KindFault)
kind_fault rules = kind_fault_from 1 rules

-- the rules of the plan: the selected ones
abbrev pub rules_of_plan : List Rule → List Rule
rules_of_plan selected = selected

-- every name of a plan is an identifier, so none is wide
pub record HasIdentifiers (plan : Plan) : Type 0 where
  pub names : All (λ name. IsTrue (is_identifier name)) plan.names
  pub narrow : (n : ℕ) → is_wide plan n ≡ false

-- the levels of the names that rules mention, in the order of the names' numbers
pub record AreLevelsInOrder (rules : List Rule) (levels : Levels) : Type 0 where
  pub each_level : AreLevels rules levels
  pub named : leveled_names levels ≡ names_of rules

-- the plan of rules, by the levels of their names
pub record IsPlanOf (rules : List Rule) (plan : Plan) : Type 0 where
  pub levels : Levels
  pub leveled : AreLevelsInOrder rules levels
  pub is : plan ≡ plan_of rules levels

-- what selected rules are compiled to: the rules themselves, the levels of their names, and the plan of the rules of the plan
pub record IsCompiled (rules : List Rule) (compiled : Compiled) : Type 0 where
  pub rules_are : compiled.rules ≡ rules
  pub leveled : AreLevelsInOrder rules compiled.levels
  pub planned : IsPlanOf (rules_of_plan rules) compiled.plan

-- the answer to a specification: what it is compiled to, or why it is refused
abbrev pub Answer : Type 0
Answer = Result Compiled SpecFault

-- what selected rules define: the first rule whose kinds aren't right is refused; then the first head that depends on itself; and else the rules are compiled
pub data Ordered (rules : List Rule) : Answer → Type 0 where
  kinds : {number : ℕ} {why : KindFault} → kind_fault rules ≡ Some (number, why) → Ordered rules (Err (fault.Kinds number why))
  cycle : {head : List ℕ} → kind_fault rules ≡ None → IsFirstCycle rules head → Ordered rules (Err (fault.Cycle head))
  compiled : {made : Compiled} → kind_fault rules ≡ None → IsCompiled rules made → Ordered rules (Ok made)

-- what modules define, under a root or without one: the selection is refused, or what the selected rules define
pub data SpecifiesFrom (modules : List Module) (root : Option (List ℕ)) : Answer → Type 0 where
  unselectable : {why : ModuleFault} → Selects modules root (Err why) → SpecifiesFrom modules root (Err (unselected why))
  selected : {rules : List Rule} {answer : Answer} → Selects modules root (Ok rules) → Ordered rules answer → SpecifiesFrom modules root answer

-- what sources define: all of them together are too long; or else the first source that is refused; or else what their modules define
pub data Specifies (sources : List (List ℕ)) (root : Option (List ℕ)) : Answer → Type 0 where
  too_long : specification_limit < total sources → Specifies sources root (Err fault.TooLong)
  refused : {place : ℕ} {why : ParseFault} → total sources ≤ specification_limit → AreParsed sources (Err (place, why)) → Specifies sources root (Err (refused_at place why))
  parsed : {modules : List Module} {answer : Answer} → total sources ≤ specification_limit → AreParsed sources (Ok modules) → SpecifiesFrom modules root answer → Specifies sources root answer

-- what a call answers: want of memory, or an answer that a definition has
abbrev pub OrNoMemory : (Answer → Type 0) → Answer → Type 0
OrNoMemory Defines answer = (answer ≡ Err fault.NoMemory) ⊎ Defines answer
