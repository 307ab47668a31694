-- Every specification has an answer, and no answer is want of memory.
use Rattle.std.proofs.Common.{◌≡◌, ◌⊎◌, inl, inr, ℕ, suc, ◌≤◌, List, [], ◌∷◌, ◌++◌, flat_map, find, Option, Some, None, option_map, option_to_list, Result, Ok, Err, refl, sym, ap, ◌∙◌, subst}
use Rattle.std.specs.List.{items_where_true}
use Rattle.std.specs.Option.{option_or}
use Rattle.std.proofs.lemmas.Bool.{cases_lt}
use Rattle.nf_core.specs.Trees.{Rule}
use Rattle.nf_core.specs.Written.{Levels, names_of, plan_of, AreLevels}
use Rattle.nf_core.specs.declared.trees.Module.{Module}
use Rattle.nf_lex.specs.declared.fault.LexFault.{LexFault}
use Rattle.nf_lex.specs.declared.fault.LexFault.TheVariants as lexical
use Rattle.nf_modules.specs.Selection.{module_names, first_again, is_missing, Selects, settled as settled_selection}
use Rattle.nf_modules.specs.declared.fault.ModuleFault.{ModuleFault}
use Rattle.nf_modules.specs.declared.fault.ModuleFault.TheVariants as selection
use Rattle.nf_order.specs.Dependence.{IsFirstCycle, leveled_names}
use Rattle.nf_parse.specs.Parses.{Parses}
use Rattle.nf_parse.specs.declared.fault.ParseFault.{ParseFault}
use Rattle.nf_parse.specs.declared.fault.ParseFault.TheVariants as source
use Rattle.nf_spec.specs.Sources as of_sources
use Rattle.nf_spec.specs.Sources.{specification_limit, total, AreParsed}
use Rattle.nf_spec.specs.Specification as spec
use Rattle.nf_spec.specs.Specification.{refused_at, kind_fault, rules_of_plan, AreLevelsInOrder, Ordered, SpecifiesFrom, Specifies}
use Rattle.nf_spec.specs.declared.compiling.Compiled.{Compiled}
use Rattle.nf_spec.specs.declared.fault.SpecFault.{SpecFault}
use Rattle.nf_spec.specs.declared.fault.SpecFault.TheVariants as fault
use Rattle.nf_typing.specs.declared.fault.KindFault.{KindFault}

-- every source has an answer
abbrev pub AreAnswered : Type 0
AreAnswered = (text : List ℕ) → (answer : Result (List Module) ParseFault) × Parses text answer

-- every selection has an answer
abbrev pub AreSelected : Type 0
AreSelected = (modules : List Module) (root : Option (List ℕ)) → (answer : Result (List Rule) ModuleFault) × Selects modules root answer

-- rules have levels in the order of their names, or a first head that depends on itself
abbrev pub HasOrder : List Rule → Type 0
HasOrder rules = ((levels : Levels) × (leveled_names levels ≡ names_of rules) × AreLevels rules levels) ⊎ ((name : List ℕ) × IsFirstCycle rules name)

-- all rules have levels or a first head that depends on itself
abbrev pub AreOrdered : Type 0
AreOrdered = (rules : List Rule) → HasOrder rules

-- the answer to a source, and then that to the sources after it
one_more : (text : List ℕ) (sources : List (List ℕ)) (first : Result (List Module) ParseFault) (rest : Result (List Module) (ℕ × ParseFault)) → Parses text first → AreParsed sources rest
    → (all : Result (List Module) (ℕ × ParseFault)) × AreParsed (text ∷ sources) all
one_more text sources (Err why) rest p h = (Err (0, why), of_sources.refused p)
one_more text sources (Ok modules) (Ok rest) p h = (Ok (modules ++ rest), of_sources.more p h)
one_more text sources (Ok modules) (Err e) p h = (Err (suc e.0, e.1), of_sources.later {place = e.0} {fault = e.1} p h)

-- some sources are parsed, or one of them is refused
parsed_exist : AreAnswered → (sources : List (List ℕ)) → (all : Result (List Module) (ℕ × ParseFault)) × AreParsed sources all
parsed_exist answered [] = (Ok [], of_sources.none)
parsed_exist answered (text ∷ sources) =
    let first = answered text in
    let rest = parsed_exist answered sources in
    one_more text sources first.0 rest.0 first.1 rest.1

-- selected rules have an answer
some_order : AreOrdered → (rules : List Rule) → (answer : Result Compiled SpecFault) × Ordered rules answer
some_order ordered rules = by (kind_fault rules) refl
  where
    by_levels : kind_fault rules ≡ None → HasOrder rules → (answer : Result Compiled SpecFault) × Ordered rules answer
    by_levels right (inl found) =
        let made : Compiled = record { plan = plan_of rules found.0; rules = rules; levels = found.0 } in
        let leveled : AreLevelsInOrder rules found.0 = record { each_level = found.2; named = found.1 } in
        (Ok made, spec.compiled {made = made} right (record { rules_are = refl; leveled = leveled; planned = record { levels = found.0; leveled = leveled; is = refl } }))
    by_levels right (inr found) = (Err (fault.Cycle found.0), spec.cycle {head = found.0} right found.1)

    by : (found : Option (ℕ × KindFault)) → kind_fault rules ≡ found → (answer : Result Compiled SpecFault) × Ordered rules answer
    by None right = by_levels right (ordered rules)
    by (Some found) wrong = (Err (fault.Kinds found.0 found.1), spec.kinds {number = found.0} {why = found.1} wrong)

-- modules have an answer
some_from : AreSelected → AreOrdered → (modules : List Module) (root : Option (List ℕ)) → (answer : Result Compiled SpecFault) × SpecifiesFrom modules root answer
some_from selects ordered modules root = by (selects modules root).0 (selects modules root).1
  where
    by : (found : Result (List Rule) ModuleFault) → Selects modules root found → (answer : Result Compiled SpecFault) × SpecifiesFrom modules root answer
    by (Err why) h = (Err (spec.unselected why), spec.unselectable {why = why} h)
    by (Ok rules) h = let some = some_order ordered rules in (some.0, spec.selected h some.1)

-- sources have an answer
pub some_answer : AreAnswered → AreSelected → AreOrdered → (sources : List (List ℕ)) (root : Option (List ℕ)) → (answer : Result Compiled SpecFault) × Specifies sources root answer
some_answer answered selects ordered sources root =
    elim (cases_lt specification_limit (total sources)) [ inl long ↦ (Err fault.TooLong, spec.too_long long) | inr fits ↦ by fits (parsed_exist answered sources).0 (parsed_exist answered sources).1 ]
  where
    by : total sources ≤ specification_limit → (all : Result (List Module) (ℕ × ParseFault)) → AreParsed sources all → (answer : Result Compiled SpecFault) × Specifies sources root answer
    by fits (Err e) parsed = (Err (refused_at e.0 e.1), spec.refused {place = e.0} {why = e.1} fits parsed)
    by fits (Ok modules) parsed = let some = some_from selects ordered modules root in (some.0, spec.parsed fits parsed some.1)

-- no answer to one source is a refusal with this fault
abbrev pub HasNoSource : ParseFault → Type 0
HasNoSource bad = (text : List ℕ) → Parses text (Err bad) → ⊥

-- a fault that no source has is that of no sources
parsed_without : (bad : ParseFault) → HasNoSource bad → (sources : List (List ℕ)) (answer : Result (List Module) (ℕ × ParseFault)) → AreParsed sources answer → (place : ℕ) → answer ≡ Err (place, bad) → ⊥
parsed_without bad never sources answer of_sources.none place e = cc
parsed_without bad never sources answer (of_sources.more p h) place e = cc
parsed_without bad never sources answer (of_sources.refused {source = text} {fault = why} p) place e =
    let both : ◌≡◌ {A = ℕ × ParseFault} (0, why) (place, bad) = cc in
    never text (subst (λ (q : ℕ × ParseFault). Parses text (Err q.1)) both p)
parsed_without bad never sources answer (of_sources.later {sources = rest} {place = at} {fault = why} p h) place e =
    let both : ◌≡◌ {A = ℕ × ParseFault} (suc at, why) (place, bad) = cc in
    parsed_without bad never rest (Err (at, why)) h at (ap (λ (q : ℕ × ParseFault). Err (at, q.1)) both)

-- no fault of a selection is
no_fault_known : (same root missing : Option (List ℕ)) (rules : List Rule)
    → Err selection.NoMemory ≡ settled_selection (option_or (option_map selection.SameModule same) (option_or (option_map selection.NoModule root) (option_map selection.NoModule missing))) rules → ⊥
no_fault_known (Some name) root missing rules e = cc
no_fault_known None (Some name) missing rules e = cc
no_fault_known None None (Some name) rules e = cc
no_fault_known None None None rules e = cc

selection_known : (modules : List Module) (root : Option (List ℕ)) (why : ModuleFault) → Selects modules root (Err why) → why ≡ selection.NoMemory → ⊥
selection_known modules root why h e =
    let reached : List Module = items_where_true h.reached modules in
    no_fault_known (first_again [] (module_names modules)) (find (is_missing modules) (option_to_list root)) (find (is_missing modules) (flat_map (λ (m : Module). m.imports) reached))
    (flat_map (λ (m : Module). m.rules) reached) (sym (ap (λ (w : ModuleFault). Err w) e) ∙ h.answered)

-- no answer to selected rules is
order_known : (rules : List Rule) (answer : Result Compiled SpecFault) → Ordered rules answer → answer ≡ Err fault.NoMemory → ⊥
order_known rules answer (spec.kinds wrong) e = cc
order_known rules answer (spec.cycle right h) e = cc
order_known rules answer (spec.compiled right h) e = cc

-- no answer to modules is
from_known : (modules : List Module) (root : Option (List ℕ)) (answer : Result Compiled SpecFault) → SpecifiesFrom modules root answer → answer ≡ Err fault.NoMemory → ⊥
from_known modules root answer (spec.unselectable {why} h) e = selection_known modules root why h (is why cc)
  where
    is : (why : ModuleFault) → spec.unselected why ≡ fault.NoMemory → why ≡ selection.NoMemory
    is (selection.NoModule name) f = absurd cc
    is (selection.SameModule name) f = absurd cc
    is selection.NoMemory f = refl
from_known modules root answer (spec.selected {rules} h ordered) e = order_known rules answer ordered e

-- no specification's answer is want of memory
pub no_answer_is_memory : HasNoSource source.NoMemory → (sources : List (List ℕ)) (root : Option (List ℕ)) (answer : Result Compiled SpecFault) → Specifies sources root answer → answer ≡ Err fault.NoMemory → ⊥
no_answer_is_memory known sources root answer (spec.too_long long) e = cc
no_answer_is_memory known sources root answer (spec.refused {place} {why} fits h) e = parsed_without source.NoMemory known sources (Err (place, why)) h place (ap (λ (w : ParseFault). Err (place, w)) (is why cc))
  where
    is : (why : ParseFault) → refused_at place why ≡ fault.NoMemory → why ≡ source.NoMemory
    is (source.Lex first) f = absurd cc
    is (source.Grammar line) f = absurd cc
    is (source.TooDeep line) f = absurd cc
    is source.NoMemory f = refl
no_answer_is_memory known sources root answer (spec.parsed {modules} fits parsed h) e = from_known modules root answer h e

-- no refusal of selected rules or of modules is a lexical one
order_lexical : (rules : List Rule) (answer : Result Compiled SpecFault) → Ordered rules answer → (place : ℕ) (f : LexFault) → answer ≡ Err (fault.Lex place f) → ⊥
order_lexical rules answer (spec.kinds wrong) place f e = cc
order_lexical rules answer (spec.cycle right h) place f e = cc
order_lexical rules answer (spec.compiled right h) place f e = cc

from_lexical : (modules : List Module) (root : Option (List ℕ)) (answer : Result Compiled SpecFault) → SpecifiesFrom modules root answer → (place : ℕ) (f : LexFault) → answer ≡ Err (fault.Lex place f) → ⊥
from_lexical modules root answer (spec.unselectable {why} h) place f e = not why cc
  where
    not : (why : ModuleFault) → spec.unselected why ≡ fault.Lex place f → ⊥
    not (selection.NoModule name) g = cc
    not (selection.SameModule name) g = cc
    not selection.NoMemory g = cc
from_lexical modules root answer (spec.selected {rules} h ordered) place f e = order_lexical rules answer ordered place f e

-- no specification's lexical fault is want of memory
pub no_lexical_memory : HasNoSource (source.Lex lexical.NoMemory) → (sources : List (List ℕ)) (root : Option (List ℕ)) (answer : Result Compiled SpecFault) → Specifies sources root answer → (place : ℕ) → answer ≡ Err (fault.Lex place lexical.NoMemory) → ⊥
no_lexical_memory never sources root answer (spec.too_long long) place e = cc
no_lexical_memory never sources root answer (spec.refused {place = at} {why} fits h) place e =
    parsed_without (source.Lex lexical.NoMemory) never sources (Err (at, why)) h at (ap (λ (w : ParseFault). Err (at, w)) (is why cc))
  where
    is : (why : ParseFault) → refused_at at why ≡ fault.Lex place lexical.NoMemory → why ≡ source.Lex lexical.NoMemory
    is (source.Lex f) g = let same : f ≡ lexical.NoMemory = cc in ap (λ (k : LexFault). source.Lex k) same
    is (source.Grammar line) g = absurd cc
    is (source.TooDeep line) g = absurd cc
    is source.NoMemory g = absurd cc
no_lexical_memory never sources root answer (spec.parsed {modules} fits parsed h) place e = from_lexical modules root answer h place lexical.NoMemory e
