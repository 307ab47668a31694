-- The plan of some rules with their levels is a plan.
use Rattle.std.proofs.Common.{◌≡◌, ℕ, suc, ◌<◌, ◌==◌, Bool, true, false, cond, List, [], ◌∷◌, ◌++◌, length, get_or, map, filter, flat_map, All, Contains, bytes_eq, unwrap_or, refl, sym, ap, subst, ◌∙◌}
use Rattle.std.specs.List.{AllByRecursion}
use Rattle.std.proofs.lemmas.List.{length-map, map-append, get_or-map}
use Rattle.std.proofs.lemmas.List.Elements.{recursion_from_All, All-map, Contains-get_or}
use Rattle.nf_core.specs.Identifiers.{AreIdentifiers}
use Rattle.nf_core.specs.Plan.{Plan, IsPlan, IsRuleOf, IsWritable, AreKeys, level_of, level_by_rules, body_names, greatest}
use Rattle.nf_core.specs.Trees.{atoms_of, IsRule}
use Rattle.nf_core.specs.Written.{Levels, names_of, keys_read_in, keys_mapped_in, keys_of_name, plan_rule, level_of_name, plan_of, AreLevels, CanBePlanned}
use Rattle.nf_core.specs.declared.trees.Body.{Body}
use Rattle.nf_core.specs.declared.trees.Rule.{Rule}
use Rattle.nf_core.specs.declared.terms.PlanRule.{PlanRule}
use Rattle.nf_core.proofs.Public.EachOnceLemmas.{place_of-eq}
use Rattle.nf_core.proofs.Public.NameLemmas.{known_names, IsDistinct-names_of, IsWideBehind-names_of}
use Rattle.nf_core.proofs.Public.AscendingLemmas.{IsStrictlySortedBy-ascending}
use Rattle.nf_core.proofs.NameNumberLemmas.{level-place_of, names_at, numbers_at, map-numbers_at}
use Rattle.nf_core.proofs.PlanRuleLemmas.{IsRuleOf-plan_rule}

-- what is read of the items that pass a test, and of their images, is the same where each item and its image pass alike and
-- give the same
module _ {A B C D : Type 0} (f : A → B) (p : B → Bool) (q : A → Bool) (g : B → List C) (h : A → List D) (u : C → ℕ) (v : D → ℕ) where
  step : (b : Bool) (y : B) (ys : List B) (x : A) (xs : List A) → map u (g y) ≡ map v (h x) → map u (flat_map g ys) ≡ map v (flat_map h xs)
      → map u (flat_map g (cond b (y ∷ ys) ys)) ≡ map v (flat_map h (cond b (x ∷ xs) xs))
  step true y ys x xs e rest = map-append u (g y) (flat_map g ys) ∙ (λ i. e i ++ rest i) ∙ sym (map-append v (h x) (flat_map h xs))
  step false y ys x xs e rest = rest

  filtered_alike : (xs : List A) → AllByRecursion (λ x. (p (f x) ≡ q x) × (map u (g (f x)) ≡ map v (h x))) xs
      → map u (flat_map g (filter p (map f xs))) ≡ map v (flat_map h (filter q xs))
  filtered_alike [] each = refl
  filtered_alike (x ∷ xs) each =
      ap (λ b. map u (flat_map g (cond b (f x ∷ filter p (map f xs)) (filter p (map f xs))))) each.0.0
      ∙ step (q x) (f x) (filter p (map f xs)) x (filter q xs) each.0.1 (filtered_alike xs each.1)

module _ (rules : List Rule) (levels : Levels) (planned : CanBePlanned rules) (leveled : AreLevels rules levels) (limited : All IsRule rules) where
  abbrev names : List (List ℕ)
  names = names_of rules

  abbrev plan : Plan
  plan = plan_of rules levels

  abbrev level : List ℕ → ℕ
  level name = unwrap_or (level_of_name levels name) 0

  levels_at : (b : Body) → AllByRecursion (Contains names) (names_at rules levels b) → map (λ m. suc (level_of plan m)) (numbers_at rules levels b) ≡ map (λ n. suc (level n)) (names_at rules levels b)
  levels_at b h = map-numbers_at rules levels (λ m. suc (level_of plan m)) (λ n. suc (level n)) (λ name there. ap suc (level-place_of rules levels name there)) b h

  is_rule : (rule : Rule) → Contains rules rule → IsRuleOf plan (plan_rule rules rule)
  is_rule rule there = IsRuleOf-plan_rule rules levels planned limited rule there (known_names rules rule there)

  level_is : (n : ℕ) → n < length names → level_of plan n ≡ level_by_rules plan n
  level_is n h =
      get_or-map level names n [] 0 h ∙ ap (λ o. unwrap_or o 0) (leveled n [] h)
      ∙ ap greatest (sym (filtered_alike (plan_rule rules) (λ (r : PlanRule). r.head == n) (λ (r : Rule). bytes_eq r.head (get_or names n [])) body_names
      (λ (r : Rule). names_at rules levels r.body) (λ m. suc (level_of plan m)) (λ name. suc (level name)) rules
      (recursion_from_All _ rules (λ k d within.
      let known = known_names rules (get_or rules k d) (Contains-get_or rules k d within) in
      (place_of-eq names (get_or rules k d).head known.0 (IsDistinct-names_of rules) n h, levels_at (get_or rules k d).body known.1)))))

  writable : (n : ℕ) → n < length names → IsWritable plan n
  writable n h narrow = subst (AreIdentifiers (get_or names n [])) (sym (get_or-map (keys_of_name rules) names n [] [] h)) (planned.identifiers n [] h narrow)

  pub IsPlan-plan_of : IsPlan (plan_of rules levels)
  IsPlan-plan_of = record {
    few_names = planned.few_names;
    few_rules = rw length-map planned.few_rules;
    distinct = IsDistinct-names_of rules;
    wide_last = IsWideBehind-names_of rules;
    identifiers = writable;
    each_keys = length-map names (keys_of_name rules);
    keys = All-map AreKeys (keys_of_name rules) names (λ k d h. record { few = planned.few_keys k d h; ascending = IsStrictlySortedBy-ascending (flat_map (λ rule. flat_map (keys_read_in (get_or names k d) rule) (atoms_of rule.body) ++ keys_mapped_in (get_or names k d) rule) rules) });
    each_level = length-map names level;
    levels = level_is;
    rules = All-map (IsRuleOf plan) (plan_rule rules) rules (λ k d h. is_rule (get_or rules k d) (Contains-get_or rules k d h));
  }
