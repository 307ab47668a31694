-- The plan as contracts see it: names, keys, rules and levels by number.
use Rattle.std.specs.Prelude.{◌≡◌, ℕ, suc, ◌<◌, ◌≤◌, ◌^◌, max, Bool, false, not, ◌&&◌, ◌==◌, List, [], ◌∷◌, ◌++◌, length, map, filter, fold, flat_map, slice_index_or, option_to_list, All, AllPairs, IsTrue}
use Rattle.std.specs.List.{list_any, IsDistinct}
use Rattle.std.specs.List.Sorted.{IsStrictlySortedBy}
use Rattle.nf_core.specs.Texts.{text_cmp, text_eq, IsI64, IsPlain}
use Rattle.nf_core.specs.Identifiers.{is_wide_name, AreIdentifiers, IsWideBehind}
use Rattle.nf_core.specs.Expressions.{reads_within, operators_of, numbers_of, texts_of}
use Rattle.nf_core.specs.Kinds.{kind_of_term, is_condition, is_end_point, is_map_value}
use Rattle.nf_core.specs.declared.limits.TheConstants.{MOST_OPERATORS}
use Rattle.nf_core.specs.declared.terms.Term.{Term}
use Rattle.nf_core.specs.declared.terms.Link.{Link}
use Rattle.nf_core.specs.declared.terms.Link.TheVariants.{One, Pair, Unless}
use Rattle.nf_core.specs.declared.terms.PlanEntry.{PlanEntry}
use Rattle.nf_core.specs.declared.terms.PlanRule.{PlanRule}

-- the names by number, the keys of each name by place, the rules in order, and the level of each name
pub record Plan : Type 0 where
  pub names : List (List ℕ)
  pub keys : List (List (List ℕ))
  pub rules : List PlanRule
  pub levels : List ℕ

-- the plan of these parts
abbrev pub plan_from : List (List ℕ) → List (List (List ℕ)) → List PlanRule → List ℕ → Plan
plan_from names keys rules levels = record { names = names; keys = keys; rules = rules; levels = levels }

-- the text of a name
abbrev pub name_of : Plan → ℕ → List ℕ
name_of plan n = slice_index_or plan.names n []

-- the keys of a name, ascending
abbrev pub keys_of : Plan → ℕ → List (List ℕ)
keys_of plan n = slice_index_or plan.keys n []

-- the level of a name
abbrev pub level_of : Plan → ℕ → ℕ
level_of plan n = slice_index_or plan.levels n 0

-- the rules with a head, in their order
abbrev pub rules_of : Plan → ℕ → List PlanRule
rules_of plan n = filter (λ (rule : PlanRule). rule.head == n) plan.rules

-- whether a rule has this name as its head
abbrev pub has_rules : Plan → ℕ → Bool
has_rules plan n = list_any (λ (rule : PlanRule). rule.head == n) plan.rules

-- whether a name is wide
abbrev pub is_wide : Plan → ℕ → Bool
is_wide plan n = is_wide_name (name_of plan n)

-- whether a name is a head: a rule has it as its head, and it isn't wide
abbrev pub is_head : Plan → ℕ → Bool
is_head plan n = has_rules plan n && not (is_wide plan n)

-- the second name of a body, where there is one
abbrev pub second_name : Link → List ℕ
second_name One = []
second_name (Pair op n) = n ∷ []
second_name (Unless xop n) = n ∷ []

-- the names in a rule's body
abbrev pub body_names : PlanRule → List ℕ
body_names rule = rule.first ∷ second_name rule.link

-- the second name of an inclusive body, where there is one
abbrev pub joined_name : Link → List ℕ
joined_name One = []
joined_name (Pair op n) = n ∷ []
joined_name (Unless xop n) = []

-- the names of the members that a rule's result is made of: those of its body, and of an exclusive rule the first one alone
abbrev pub result_names : PlanRule → List ℕ
result_names rule = rule.first ∷ joined_name rule.link

-- how many keys each of some names has
abbrev pub widths_of_names : Plan → List ℕ → List ℕ
widths_of_names plan names = map (λ n. length (keys_of plan n)) names

-- the greatest of some numbers, and 0 of none
abbrev pub greatest : List ℕ → ℕ
greatest = fold max 0

-- 0 where a name has no rules, else one more than the greatest level of a name in their bodies
abbrev pub level_by_rules : Plan → ℕ → ℕ
level_by_rules plan n = greatest (map (λ m. suc (level_of plan m)) (flat_map body_names (rules_of plan n)))

-- an expression over members of some names: it reads those members and places of their names' keys alone, it has at most 256 operators (`MOST_OPERATORS`), its whole numbers are ones that a value may be, and its texts are plain
pub record IsTermOver (plan : Plan) (names : List ℕ) (term : Term) : Type 0 where
  pub reads : IsTrue (reads_within (widths_of_names plan names) term)
  pub few : operators_of term ≤ MOST_OPERATORS
  pub numbers : All IsI64 (numbers_of term)
  pub plain : All IsPlain (texts_of term)

-- an entry of a rule's map: the place of a key of the head, and a value of a map over the result's members
pub record IsEntryOf (plan : Plan) (rule : PlanRule) (entry : PlanEntry) : Type 0 where
  pub place : entry.place < rule.keys
  pub value : IsTermOver plan (result_names rule) entry.value
  pub kind : IsTrue (is_map_value (kind_of_term entry.value))

-- the numbers of a rule are names of the plan, and it knows how many keys its head has; `where` is a condition over the body's members, the map gives each key at most once, and `begin` and `end` are end points over the result's members
pub record IsRuleOf (plan : Plan) (rule : PlanRule) : Type 0 where
  pub head : rule.head < length plan.names
  pub body : All (λ n. n < length plan.names) (body_names rule)
  pub keys : rule.keys ≡ length (keys_of plan rule.head)
  pub filter : All (IsTermOver plan (body_names rule)) (option_to_list rule.filter)
  pub condition : All (λ term. IsTrue (is_condition (kind_of_term term))) (option_to_list rule.filter)
  pub places : IsDistinct (λ m n. m == n) (map (λ (entry : PlanEntry). entry.place) rule.entries)
  pub entries : All (IsEntryOf plan rule) rule.entries
  pub start : All (IsTermOver plan (result_names rule)) (option_to_list rule.start)
  pub stop : All (IsTermOver plan (result_names rule)) (option_to_list rule.stop)
  pub end_points : All (λ term. IsTrue (is_end_point (kind_of_term term))) (option_to_list rule.start ++ option_to_list rule.stop)

-- ascending, each once, and fewer than 2^32 of them
pub record AreKeys (keys : List (List ℕ)) : Type 0 where
  pub few : length keys < 2 ^ 32
  pub ascending : IsStrictlySortedBy text_cmp keys

-- a name and its keys are identifiers, unless the name is wide
abbrev pub IsWritable : Plan → ℕ → Type 0
IsWritable plan n = is_wide plan n ≡ false → AreIdentifiers (name_of plan n) (keys_of plan n)

-- what holds of every plan. Wide names come after all others; a name that isn't wide is an identifier, and so are its keys. That each name has its level by its rules makes them acyclic
pub record IsPlan (plan : Plan) : Type 0 where
  pub few_names : length plan.names < 2 ^ 32
  pub few_rules : length plan.rules < 2 ^ 32
  pub distinct : IsDistinct text_eq plan.names
  pub wide_last : AllPairs IsWideBehind plan.names
  pub identifiers : (n : ℕ) → n < length plan.names → IsWritable plan n
  pub each_keys : length plan.keys ≡ length plan.names
  pub keys : All AreKeys plan.keys
  pub each_level : length plan.levels ≡ length plan.names
  pub levels : (n : ℕ) → n < length plan.names → level_of plan n ≡ level_by_rules plan n
  pub rules : All (IsRuleOf plan) plan.rules
