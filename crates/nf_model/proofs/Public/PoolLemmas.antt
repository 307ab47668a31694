-- A pool is made of those of names of lower levels.
use Rattle.std.proofs.Common.{◌≡◌, ℕ, suc, ◌<◌, ◌≤◌, max, Bool, List, [], ◌∷◌, ◌++◌, length, map, fold, flat_map, All, ◌==◌, refl, ap, sym, ◌∙◌, subst, arith}
use Rattle.std.proofs.Math.Nat.{le-max_left, le-max_right}
use Rattle.std.proofs.lemmas.List.Elements.{All-nil, All-cons, All-head, All-tail, All-filter, All-weaker}
use Rattle.nf_core.specs.Intervals.{Interval}
use Rattle.nf_core.specs.Plan.{Plan, IsPlan, IsRuleOf, level_of, level_by_rules, rules_of, body_names, second_name}
use Rattle.nf_core.specs.declared.terms.Link.{Link}
use Rattle.nf_core.specs.declared.terms.Link.TheVariants.{One, Pair, Unless}
use Rattle.nf_core.specs.declared.terms.PlanRule.{PlanRule}
use Rattle.nf_model.specs.Levels.{Pools, IsBelow, ReadsBelow}
use Rattle.nf_model.specs.Results.{results_by}
use Rattle.nf_model.specs.Pools.{Inputs, of_name, judged, holds_all, second_of, results_over, held_over, pool, candidates}
use Rattle.nf_model.proofs.ListLemmas.{All-parts, flat_map_alike}
use Rattle.nf_model.proofs.Public.LevelLemmas.{by_levels_solved}

-- a running maximum is no less than where it began
le-fold_max : (a : ℕ) (ns : List ℕ) → a ≤ fold max a ns
le-fold_max a [] = omega arith
le-fold_max a (n ∷ ns) = omega (arith, le-max_left a n, le-fold_max (max a n) ns)

-- each level is less than the greatest of their successors
All-below : (level : ℕ → ℕ) (a : ℕ) (ms : List ℕ) → All (λ m. level m < fold max a (map (λ m. suc (level m)) ms)) ms
All-below level a [] = All-nil (λ m. level m < a)
All-below level a (m ∷ ms) =
    let top : ℕ = max a (suc (level m)) in
    let all : ℕ = fold max top (map (λ m. suc (level m)) ms) in
    All-cons (λ m. level m < all) m ms (omega (arith, le-max_right a (suc (level m)), le-fold_max top (map (λ m. suc (level m)) ms))) (All-below level top ms)

-- the names in the bodies of a name's rules are names of lower levels
pub below_head : (plan : Plan) (n : ℕ) → IsPlan plan → n < length plan.names → All (λ rule. All (IsBelow plan n) (body_names rule)) (rules_of plan n)
below_head plan n valid within =
    let named : All (λ (rule : PlanRule). All (λ m. m < length plan.names) (body_names rule)) (rules_of plan n) =
    All-filter (λ (rule : PlanRule). rule.head == n) (λ rule. All (λ m. m < length plan.names) (body_names rule)) plan.rules
    (All-weaker (IsRuleOf plan) (λ rule. All (λ m. m < length plan.names) (body_names rule)) (λ rule r. r.body) plan.rules valid.rules) in
    let lower : All (λ m. level_of plan m < level_by_rules plan n) (flat_map body_names (rules_of plan n)) =
    All-below (level_of plan) 0 (flat_map body_names (rules_of plan n)) in
    let levels : All (λ m. level_of plan m < level_of plan n) (flat_map body_names (rules_of plan n)) =
    subst (λ (level : ℕ). All (λ m. level_of plan m < level) (flat_map body_names (rules_of plan n))) (sym (valid.levels n within)) lower in
    let leveled : All (λ (rule : PlanRule). All (λ m. level_of plan m < level_of plan n) (body_names rule)) (rules_of plan n) =
    All-parts (λ m. level_of plan m < level_of plan n) body_names (rules_of plan n) levels in
    λ k d more j e further. record { name = named k d more j e further; level = leveled k d more j e further }

-- pools that agree at a rule's names give the same results
second_alike : (P Q : Pools) (link : Link) → All (λ m. P m ≡ Q m) (second_name link) → second_of P link ≡ second_of Q link
second_alike P Q One h = refl
second_alike P Q (Pair op n) h = All-head (λ m. P m ≡ Q m) n [] h
second_alike P Q (Unless xop n) h = All-head (λ m. P m ≡ Q m) n [] h

results_alike : (P Q : Pools) (rule : PlanRule) → All (λ m. P m ≡ Q m) (body_names rule) → results_over P rule ≡ results_over Q rule
results_alike P Q rule h =
    let first : P rule.first ≡ Q rule.first = All-head (λ m. P m ≡ Q m) rule.first (second_name rule.link) h in
    let second : second_of P rule.link ≡ second_of Q rule.link =
    second_alike P Q rule.link (All-tail (λ m. P m ≡ Q m) rule.first (second_name rule.link) h) in
    ap (λ (is : List Interval). results_by rule rule.link is (second_of P rule.link)) first
    ∙ ap (λ (is : List Interval). results_by rule rule.link (Q rule.first) is) second

-- a pool reads those of lower levels alone
pub reads_below : (plan : Plan) (full : Bool) (inputs : Inputs) → IsPlan plan → ReadsBelow plan (held_over plan full inputs)
reads_below plan full inputs valid P Q n within alike =
    ap (λ (is : List Interval). judged (holds_all plan full n) (of_name inputs n ++ is))
    (flat_map_alike (results_over P) (results_over Q) (rules_of plan n)
    (All-weaker (λ rule. All (IsBelow plan n) (body_names rule)) (λ rule. results_over P rule ≡ results_over Q rule)
    (λ rule below. results_alike P Q rule (All-weaker (IsBelow plan n) (λ m. P m ≡ Q m) alike (body_names rule) below))
    (rules_of plan n) (below_head plan n valid within)))

-- the pool of a name is its judged candidates
pub pool_is_judged : (plan : Plan) (full : Bool) (inputs : Inputs) (n : ℕ) → IsPlan plan → n < length plan.names
    → pool plan full inputs n ≡ judged (holds_all plan full n) (candidates plan full inputs n)
pool_is_judged plan full inputs n valid within = by_levels_solved plan (held_over plan full inputs) (reads_below plan full inputs valid) n within
