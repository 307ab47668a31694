-- The parts that the code numbers are those of the plan.
use Rattle.std.proofs.Common.{◌≡◌, ℕ, zero, suc, ◌<◌, ◌^◌, Bool, true, false, List, [], ◌∷◌, length, get_or, map, Option, option_map, All, Contains, bytes_eq, ap, ◌∙◌, arith, if◌then◌else◌}
use Rattle.std.specs.List.{AllByRecursion}
use Rattle.std.proofs.lemmas.List.{get_or-map}
use Rattle.std.proofs.lemmas.List.Elements.{All-head, All-tail, All-map}
use Rattle.nf_core.specs.inner.Numbered.{HasFewKeys, keys_at}
use Rattle.nf_core.specs.Trees.{Rule, atoms_of}
use Rattle.nf_core.specs.Written.{Levels, Member, member_by, members_by, members_of, keys_under, names_in, names_of, names_read, keys_of_name, place_of, level_or_zero, plan_of, term_of, entry_of, first_of, link_of, plan_rule}
use Rattle.nf_core.specs.declared.trees.Body.{Body}
use Rattle.nf_core.specs.declared.trees.Body.TheVariants as body
use Rattle.nf_core.specs.declared.terms.Term.{Term}
use Rattle.nf_core.specs.declared.terms.Link.{Link}
use Rattle.nf_core.specs.declared.terms.PlanEntry.{PlanEntry}
use Rattle.nf_core.specs.declared.terms.PlanRule.{PlanRule}
use Rattle.nf_core.proofs.Public.EachOnceLemmas.{place_of-lt, get_or-place_of}

pub few_keys_under : (members : List Member) (label : List ℕ) → All HasFewKeys members → length (keys_under members label) < 2 ^ 32
few_keys_under [] label few = omega arith
few_keys_under (m ∷ members) label few = by (bytes_eq label m.label) (few_keys_under members label (All-tail HasFewKeys m members few))
  where
    by : (b : Bool) → length (keys_under members label) < 2 ^ 32 → length (if b then m.keys else keys_under members label) < 2 ^ 32
    by true rest = All-head HasFewKeys m members few
    by false rest = rest

few_at : (keys : List (List (List ℕ))) (n : ℕ) → All (λ list. length list < 2 ^ 32) keys → length (get_or keys n []) < 2 ^ 32
few_at [] n few = omega arith
few_at (x ∷ keys) zero few = All-head (λ list. length list < 2 ^ 32) x keys few
few_at (x ∷ keys) (suc n) few = few_at keys n (All-tail (λ list. length list < 2 ^ 32) x keys few)

-- the members of a body have few keys, where each name has
pub few_members : (names : List (List ℕ)) (keys : List (List (List ℕ))) (b : Body) → All (λ list. length list < 2 ^ 32) keys → All HasFewKeys (members_by (keys_at names keys) b)
few_members names keys b few = All-map HasFewKeys (member_by (keys_at names keys)) (atoms_of b) (λ k d h. few_at keys (place_of names (get_or (atoms_of b) k d).name) few)

module _ (rules : List Rule) (names : List (List ℕ)) (keys : List (List (List ℕ))) (named : names ≡ names_of rules) (keyed : keys ≡ map (keys_of_name rules) names) where
  -- the keys at the number of a name are its keys
  keys_at_name : (t : List ℕ) (e : List (List ℕ)) → Contains names t → get_or keys (place_of names t) e ≡ keys_of_name rules t
  keys_at_name t e there =
      ap (λ list. get_or list (place_of names t) e) keyed ∙ get_or-map (keys_of_name rules) names (place_of names t) [] e (place_of-lt names t there) ∙ ap (keys_of_name rules) (get_or-place_of names t there [])

  members_at : (b : Body) → AllByRecursion (Contains names) (names_read b) → members_by (keys_at names keys) b ≡ members_of rules b
  members_at (body.One first) known = λ i. record { label = first.label; keys = keys_at_name first.name [] known.0 i } ∷ []
  members_at (body.Pair first op second) known = λ i. record { label = first.label; keys = keys_at_name first.name [] known.0 i } ∷ record { label = second.label; keys = keys_at_name second.name [] known.1.0 i } ∷ []
  members_at (body.Unless first xop second) known = λ i. record { label = first.label; keys = keys_at_name first.name [] known.0 i } ∷ record { label = second.label; keys = keys_at_name second.name [] known.1.0 i } ∷ []

  -- the parts of a rule over the numbers of its names are the plan's rule
  module _ (rule : Rule) (members : List Member) (head count first : ℕ) (head_keys : List (List ℕ)) (link : Link) (filter start stop : Option Term) (entries : List PlanEntry) where
    pub parts-plan_rule : AllByRecursion (Contains names) (names_in rule)
        → head ≡ place_of names rule.head → head_keys ≡ get_or keys head head_keys → count ≡ length head_keys → first ≡ first_of rules rule.body → link ≡ link_of rules rule.body
        → members ≡ members_by (keys_at names keys) rule.body
        → filter ≡ option_map (term_of members) rule.filter → entries ≡ map (entry_of head_keys members) rule.entries
        → start ≡ option_map (term_of members) rule.start → stop ≡ option_map (term_of members) rule.stop
        → (record { head = head; keys = count; first = first; link = link; filter = filter; entries = entries; start = start; stop = stop }) ≡ plan_rule rules rule
    parts-plan_rule known is_head is_keys is_count is_first is_link seen is_filter are_entries is_start is_stop =
        let numbers : head ≡ place_of (names_of rules) rule.head = is_head ∙ ap (λ ns. place_of ns rule.head) named in
        let head_is : head_keys ≡ keys_of_name rules rule.head = is_keys ∙ ap (λ n. get_or keys n head_keys) is_head ∙ keys_at_name rule.head head_keys known.0 in
        let counted : count ≡ length (keys_of_name rules rule.head) = is_count ∙ ap length head_is in
        let all : members ≡ members_of rules rule.body = seen ∙ members_at rule.body known.1 in
        let mapped : entries ≡ map (entry_of (keys_of_name rules rule.head) (members_of rules rule.body)) rule.entries = are_entries ∙ (λ i. map (entry_of (head_is i) (all i)) rule.entries) in
        let filtered : filter ≡ option_map (term_of (members_of rules rule.body)) rule.filter = is_filter ∙ ap (λ ms. option_map (term_of ms) rule.filter) all in
        let starts : start ≡ option_map (term_of (members_of rules rule.body)) rule.start = is_start ∙ ap (λ ms. option_map (term_of ms) rule.start) all in
        let stops : stop ≡ option_map (term_of (members_of rules rule.body)) rule.stop = is_stop ∙ ap (λ ms. option_map (term_of ms) rule.stop) all in
        λ i. record { head = numbers i; keys = counted i; first = is_first i; link = is_link i; filter = filtered i; entries = mapped i; start = starts i; stop = stops i }

-- the parts that the loops make are the plan
pub parts-plan_of : (rules : List Rule) (levels : Levels) (names : List (List ℕ)) (keys : List (List (List ℕ))) (numbered : List PlanRule) (numbers : List ℕ)
    → names ≡ names_of rules → keys ≡ map (keys_of_name rules) names → numbered ≡ map (plan_rule rules) rules → numbers ≡ map (level_or_zero levels) names
    → (record { names = names; keys = keys; rules = numbered; levels = numbers }) ≡ plan_of rules levels
parts-plan_of rules levels names keys numbered numbers n k r l =
    let keyed : keys ≡ map (keys_of_name rules) (names_of rules) = k ∙ ap (map (keys_of_name rules)) n in
    let leveled : numbers ≡ map (level_or_zero levels) (names_of rules) = l ∙ ap (map (level_or_zero levels)) n in
    λ i. record { names = n i; keys = keyed i; rules = r i; levels = leveled i }
