-- A name of a plan has rules exactly where its level is above 0.
use Rattle.std.proofs.Common.{◌≡◌, ℕ, suc, ◌<◌, ◌≤◌, max, ◌==◌, ◌||◌, Bool, true, false, cond, nat_lt, List, [], ◌∷◌, ◌++◌, length, map, filter, flat_map, fold, refl, ap, ◌∙◌, arith}
use Rattle.std.specs.List.{list_any}
use Rattle.std.proofs.lemmas.Bool.{lt-ltb}
use Rattle.nf_core.specs.Plan.{Plan, IsPlan, has_rules, level_of, second_name, body_names, greatest}
use Rattle.nf_core.specs.declared.terms.PlanRule.{PlanRule}

-- the greatest of numbers that come after others is at least what came before
fold_max_least : (ns : List ℕ) (m : ℕ) → m ≤ fold max m ns
fold_max_least [] m = omega arith
fold_max_least (n ∷ ns) m = let rest = fold_max_least ns (max m n) in omega (arith, rest)

positive : (m : ℕ) (ns : List ℕ) → nat_lt 0 (greatest (suc m ∷ ns)) ≡ true
positive m ns = let least = fold_max_least ns (max 0 (suc m)) in lt-ltb 0 (greatest (suc m ∷ ns)) (omega (arith, least))

module _ (plan : Plan) (n : ℕ) where
  abbrev above : List PlanRule → ℕ
  above rules = greatest (map (λ m. suc (level_of plan m)) (flat_map body_names (filter (λ (rule : PlanRule). rule.head == n) rules)))

  head_by_level : (rules : List PlanRule) → nat_lt 0 (above rules) ≡ list_any (λ (rule : PlanRule). rule.head == n) rules
  head_by_level [] = refl
  head_by_level (rule ∷ rules) = by (rule.head == n) (head_by_level rules)
    where
      by : (b : Bool) → nat_lt 0 (above rules) ≡ list_any (λ (r : PlanRule). r.head == n) rules
          → nat_lt 0 (greatest (map (λ m. suc (level_of plan m)) (flat_map body_names (cond b (rule ∷ filter (λ (r : PlanRule). r.head == n) rules) (filter (λ (r : PlanRule). r.head == n) rules))))) ≡ (b || list_any (λ (r : PlanRule). r.head == n) rules)
      by true rest = positive (level_of plan rule.first) (map (λ m. suc (level_of plan m)) (second_name rule.link ++ flat_map body_names (filter (λ (r : PlanRule). r.head == n) rules)))
      by false rest = rest

  pub has_rules-level : IsPlan plan → n < length plan.names → nat_lt 0 (level_of plan n) ≡ has_rules plan n
  has_rules-level valid h = ap (nat_lt 0) (valid.levels n h) ∙ head_by_level plan.rules
