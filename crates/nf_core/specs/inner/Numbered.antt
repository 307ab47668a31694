-- The members that the code lends, as the meaning sees them.
use Rattle.std.specs.Prelude.{◌≡◌, ℕ, ◌<◌, ◌^◌, List, [], ◌∷◌, length, map, option_to_list, slice_index_or}
use Rattle.nf_core.specs.Trees.{Rule}
use Rattle.nf_core.specs.Written.{Member, names_of, keys_of_name, place_of, plan_rule}
use Rattle.nf_core.specs.declared.terms.PlanRule.{PlanRule}
use Rattle.nf_core.specs.declared.numbered_terms.Member as lent
use Rattle.nf_core.specs.declared.numbered_terms.Members as all

-- the member that is lent
abbrev pub member_seen : lent.Member → Member
member_seen m = record { label = m.label.now; keys = m.keys.now }

-- the members that are lent: the first, and the second where there is one
abbrev pub members_seen : all.Members → List Member
members_seen m = member_seen m.first ∷ map member_seen (option_to_list m.second)

-- fewer than 2^32 keys
abbrev pub HasFewKeys : Member → Type 0
HasFewKeys m = length m.keys < 2 ^ 32

-- the keys that stand at the number of a name
abbrev pub keys_at : List (List ℕ) → List (List (List ℕ)) → List ℕ → List (List ℕ)
keys_at names keys name = slice_index_or keys (place_of names name) []

-- the rule of the plan of any rules that have these names, and these keys by the numbers of the names
abbrev pub IsNumbered : List (List ℕ) → List (List (List ℕ)) → Rule → PlanRule → Type 0
IsNumbered names keys rule made =
    (rules : List Rule) → names ≡ names_of rules → keys ≡ map (keys_of_name rules) names → made ≡ plan_rule rules rule
