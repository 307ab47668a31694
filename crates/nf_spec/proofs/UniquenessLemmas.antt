-- No specification has two answers.
use Rattle.std.proofs.Common.{◌≡◌, ℕ, suc, List, ◌++◌, Option, Result, Ok, Err, refl, sym, ap, ◌∙◌, subst, arith}
use Rattle.nf_core.specs.Trees.{Rule}
use Rattle.nf_core.specs.Written.{Levels, names_of, plan_of, AreLevels}
use Rattle.nf_core.specs.declared.trees.Module.{Module}
use Rattle.nf_modules.specs.Selection.{Selects}
use Rattle.nf_modules.specs.declared.fault.ModuleFault.{ModuleFault}
use Rattle.nf_order.specs.Dependence.{IsFirstCycle, leveled_names}
use Rattle.nf_parse.specs.Parses.{Parses}
use Rattle.nf_parse.specs.declared.fault.ParseFault.{ParseFault}
use Rattle.nf_spec.specs.Sources as of_sources
use Rattle.nf_spec.specs.Sources.{specification_limit, total, AreParsed}
use Rattle.nf_spec.specs.Specification as spec
use Rattle.nf_spec.specs.Specification.{refused_at, kind_fault, rules_of_plan, AreLevelsInOrder, IsCompiled, Ordered, SpecifiesFrom, Specifies}
use Rattle.nf_spec.specs.declared.compiling.Compiled.{Compiled}
use Rattle.nf_spec.specs.declared.fault.SpecFault.{SpecFault}
use Rattle.nf_spec.specs.declared.fault.SpecFault.TheVariants as fault
use Rattle.nf_typing.specs.declared.fault.KindFault.{KindFault}

-- two answers to a source are the same
abbrev pub AreOne : Type 0
AreOne = (text : List ℕ) (a b : Result (List Module) ParseFault) → Parses text a → Parses text b → a ≡ b

-- two selections are the same
abbrev pub IsOneSelection : Type 0
IsOneSelection = (modules : List Module) (root : Option (List ℕ)) (a b : Result (List Rule) ModuleFault) → Selects modules root a → Selects modules root b → a ≡ b

-- levels in the order of the names are one list
abbrev pub AreOneList : Type 0
AreOneList = (rules : List Rule) (a b : Levels) → leveled_names a ≡ names_of rules → leveled_names b ≡ names_of rules → AreLevels rules a → AreLevels rules b → a ≡ b

-- rules with levels have no cycle
abbrev pub IsEither : Type 0
IsEither = (rules : List Rule) (levels : Levels) (name : List ℕ) → AreLevels rules levels → ¬ IsFirstCycle rules name

-- one head at most is the first on a cycle
abbrev pub IsOneCycle : Type 0
IsOneCycle = (rules : List Rule) (a b : List ℕ) → IsFirstCycle rules a → IsFirstCycle rules b → a ≡ b

-- two answers to the same sources are the same
all_agree : AreOne → (sources : List (List ℕ)) (a b : Result (List Module) (ℕ × ParseFault)) → AreParsed sources a → AreParsed sources b → a ≡ b
all_agree one sources a b of_sources.none of_sources.none = refl
all_agree one sources a b (of_sources.more {source = text} {sources = rest_of} {modules} {rest} p h) (of_sources.more {modules = others} {rest = last} q k) =
    let found = one text (Ok modules) (Ok others) p q in
    let behind = all_agree one rest_of (Ok rest) (Ok last) h k in
    let first : modules ≡ others = cc in
    let later : rest ≡ last = cc in
    λ i. Ok (first i ++ later i)
all_agree one sources a b (of_sources.more {source = text} {modules} p h) (of_sources.refused {fault = why} q) = let found = one text (Ok modules) (Err why) p q in absurd cc
all_agree one sources a b (of_sources.more {sources = rest_of} {rest} p h) (of_sources.later {place = place} {fault = why} q k) = let found = all_agree one rest_of (Ok rest) (Err (place, why)) h k in absurd cc
all_agree one sources a b (of_sources.refused {source = text} {fault = why} p) (of_sources.more {modules = modules} q k) = let found = one text (Err why) (Ok modules) p q in absurd cc
all_agree one sources a b (of_sources.refused {source = text} {fault = why} p) (of_sources.refused {fault = other} q) =
    let found = one text (Err why) (Err other) p q in
    let same : why ≡ other = cc in
    ap (λ (w : ParseFault). Err (0, w)) same
all_agree one sources a b (of_sources.refused {source = text} {fault = why} p) (of_sources.later {modules = modules} q k) = let found = one text (Err why) (Ok modules) p q in absurd cc
all_agree one sources a b (of_sources.later {sources = rest_of} {place} {fault = why} p h) (of_sources.more {rest = rest} q k) = let found = all_agree one rest_of (Err (place, why)) (Ok rest) h k in absurd cc
all_agree one sources a b (of_sources.later {source = text} {modules} p h) (of_sources.refused {fault = other} q) = let found = one text (Ok modules) (Err other) p q in absurd cc
all_agree one sources a b (of_sources.later {sources = rest_of} {place} {fault = why} p h) (of_sources.later {place = at} {fault = other} q k) =
    let found = all_agree one rest_of (Err (place, why)) (Err (at, other)) h k in
    let same : ◌≡◌ {A = ℕ × ParseFault} (place, why) (at, other) = cc in
    ap (λ (refusal : ℕ × ParseFault). Err (suc refusal.0, refusal.1)) same

-- no rules are compiled to two things
one_compiled : AreOneList → (rules : List Rule) (a b : Compiled) → IsCompiled rules a → IsCompiled rules b → a ≡ b
one_compiled same rules a b is_a is_b =
    let one_list : (rs : List Rule) (ls ks : Levels) → AreLevelsInOrder rs ls → AreLevelsInOrder rs ks → ls ≡ ks = λ rs ls ks l k. same rs ls ks l.named k.named l.each_level k.each_level in
    let levels : a.levels ≡ b.levels = one_list rules a.levels b.levels is_a.leveled is_b.leveled in
    let of_plan : is_a.planned.levels ≡ is_b.planned.levels = one_list (rules_of_plan rules) is_a.planned.levels is_b.planned.levels is_a.planned.leveled is_b.planned.leveled in
    let rules_alike : a.rules ≡ b.rules = is_a.rules_are ∙ sym is_b.rules_are in
    let plans : a.plan ≡ b.plan = is_a.planned.is ∙ ap (plan_of (rules_of_plan rules)) of_plan ∙ sym is_b.planned.is in
    λ i. record { plan = plans i; rules = rules_alike i; levels = levels i }

module _ (same : AreOneList) (either : IsEither) (one_cycle : IsOneCycle) where
  -- selected rules have no two answers
  one_order : (rules : List Rule) (a b : Result Compiled SpecFault) → Ordered rules a → Ordered rules b → a ≡ b
  one_order rules a b (spec.kinds {number} {why} e) (spec.kinds {number = line} {why = other} f) =
      let alike : ◌≡◌ {A = ℕ × KindFault} (number, why) (line, other) = cc in
      ap (λ (found : ℕ × KindFault). Err (fault.Kinds (found.0) (found.1))) alike
  one_order rules a b (spec.kinds e) (spec.cycle f k) = absurd cc
  one_order rules a b (spec.kinds e) (spec.compiled f k) = absurd cc
  one_order rules a b (spec.cycle e h) (spec.kinds f) = absurd cc
  one_order rules a b (spec.cycle {head} e h) (spec.cycle {head = other} f k) = ap (λ (name : List ℕ). Err (fault.Cycle name)) (one_cycle rules head other h k)
  one_order rules a b (spec.cycle {head} e h) (spec.compiled {made} f k) = absurd (either rules made.levels head k.leveled.each_level h)
  one_order rules a b (spec.compiled e h) (spec.kinds f) = absurd cc
  one_order rules a b (spec.compiled {made} e h) (spec.cycle {head} f k) = absurd (either rules made.levels head h.leveled.each_level k)
  one_order rules a b (spec.compiled {made} e h) (spec.compiled {made = other} f k) = ap (λ (compiled : Compiled). Ok compiled) (one_compiled same rules made other h k)

  -- modules have no two answers
  one_from : IsOneSelection → (modules : List Module) (root : Option (List ℕ)) (a b : Result Compiled SpecFault) → SpecifiesFrom modules root a → SpecifiesFrom modules root b → a ≡ b
  one_from selection modules root a b (spec.unselectable {why} h) (spec.unselectable {why = other} k) =
      let found = selection modules root (Err why) (Err other) h k in
      let alike : why ≡ other = cc in
      ap (λ (w : ModuleFault). Err (spec.unselected w)) alike
  one_from selection modules root a b (spec.unselectable {why} h) (spec.selected {rules} k o) = let found = selection modules root (Err why) (Ok rules) h k in absurd cc
  one_from selection modules root a b (spec.selected {rules} h o) (spec.unselectable {why} k) = let found = selection modules root (Ok rules) (Err why) h k in absurd cc
  one_from selection modules root a b (spec.selected {rules} h o) (spec.selected {rules = others} k p) =
      let found = selection modules root (Ok rules) (Ok others) h k in
      let alike : rules ≡ others = cc in
      one_order rules a b o (subst (λ rs. Ordered rs b) (sym alike) p)

  -- sources have no two answers
  pub one_answer : AreOne → IsOneSelection → (sources : List (List ℕ)) (root : Option (List ℕ)) (a b : Result Compiled SpecFault) → Specifies sources root a → Specifies sources root b → a ≡ b
  one_answer one selection sources root a b (spec.too_long e) (spec.too_long f) = refl
  one_answer one selection sources root a b (spec.too_long e) (spec.refused f q) = absurd (omega (arith, e, f))
  one_answer one selection sources root a b (spec.too_long e) (spec.parsed f q t) = absurd (omega (arith, e, f))
  one_answer one selection sources root a b (spec.refused e p) (spec.too_long f) = absurd (omega (arith, e, f))
  one_answer one selection sources root a b (spec.refused {place} {why} e p) (spec.refused {place = at} {why = other} f q) =
      let found = all_agree one sources (Err (place, why)) (Err (at, other)) p q in
      let same : ◌≡◌ {A = ℕ × ParseFault} (place, why) (at, other) = cc in
      ap (λ (refusal : ℕ × ParseFault). Err (refused_at refusal.0 refusal.1)) same
  one_answer one selection sources root a b (spec.refused {place} {why} e p) (spec.parsed {modules} f q t) = let found = all_agree one sources (Err (place, why)) (Ok modules) p q in absurd cc
  one_answer one selection sources root a b (spec.parsed e p s) (spec.too_long f) = absurd (omega (arith, e, f))
  one_answer one selection sources root a b (spec.parsed {modules} e p s) (spec.refused {place} {why} f q) = let found = all_agree one sources (Ok modules) (Err (place, why)) p q in absurd cc
  one_answer one selection sources root a b (spec.parsed {modules} e p s) (spec.parsed {modules = others} f q t) =
      let found = all_agree one sources (Ok modules) (Ok others) p q in
      let same : modules ≡ others = cc in
      one_from selection modules root a b s (subst (λ ms. SpecifiesFrom ms root b) (sym same) t)
