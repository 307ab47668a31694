-- Where nothing was entered every pool is empty.
use Rattle.std.proofs.Common.{◌≡◌, ℕ, Bool, true, false, List, [], ◌∷◌, ◌++◌, replicate, flat_map, All, refl, ap, sym, ◌∙◌, subst}
use Rattle.std.proofs.lemmas.List.Elements.{All-nil}
use Rattle.nf_core.specs.Intervals.{Interval}
use Rattle.nf_core.specs.Plan.{Plan, rules_of}
use Rattle.nf_core.specs.declared.terms.Link.{Link}
use Rattle.nf_core.specs.declared.terms.Link.TheVariants.{One, Pair, Unless}
use Rattle.nf_core.specs.declared.terms.PlanRule.{PlanRule}
use Rattle.nf_model.specs.Members.{IsOfKeys, AreOfKeys}
use Rattle.nf_model.specs.Results.{results_by}
use Rattle.nf_model.specs.Levels.{Pools}
use Rattle.nf_model.specs.Pools.{of_name, judged, holds_all, results_over, second_of, held_over, pool}
use Rattle.nf_model.proofs.Public.InputLemmas.{nothing_entered}
use Rattle.nf_model.proofs.Public.LevelLemmas.{kept_by_levels}

nothing_joined : {X Y : Type 0} (f : X → List Y) → ((x : X) → f x ≡ []) → (xs : List X) → flat_map f xs ≡ []
nothing_joined f none [] = refl
nothing_joined f none (x ∷ xs) = ap (λ ys. ys ++ flat_map f xs) (none x) ∙ nothing_joined f none xs

no_results : (rule : PlanRule) (link : Link) (firsts seconds : List Interval) → firsts ≡ [] → results_by rule link firsts seconds ≡ []
no_results rule link firsts seconds none = ap (λ (is : List Interval). results_by rule link is seconds) none ∙ of_none rule link seconds
  where
    of_none : (rule : PlanRule) (link : Link) (seconds : List Interval) → results_by rule link [] seconds ≡ []
    of_none rule One seconds = refl
    of_none rule (Pair op n) seconds = refl
    of_none rule (Unless xop n) seconds = refl

judged_nothing : (full : Bool) → judged full [] ≡ []
judged_nothing true = refl
judged_nothing false = refl

nothing_made : (plan : Plan) (full : Bool) (count : ℕ) (pools : Pools) → ((m : ℕ) → pools m ≡ []) → (n : ℕ) → held_over plan full (replicate count []) pools n ≡ []
nothing_made plan full count pools none n =
    let results : flat_map (results_over pools) (rules_of plan n) ≡ [] =
    nothing_joined (results_over pools) (λ (rule : PlanRule). no_results rule rule.link (pools rule.first) (second_of pools rule.link) (none rule.first)) (rules_of plan n) in
    ap (judged (holds_all plan full n)) (ap (λ is. is ++ flat_map (results_over pools) (rules_of plan n)) (nothing_entered count n) ∙ results) ∙ judged_nothing (holds_all plan full n)

-- the pools of no inputs are empty
pub nothing_pooled : (plan : Plan) (full : Bool) (count n : ℕ) → pool plan full (replicate count []) n ≡ []
nothing_pooled plan full count = kept_by_levels (held_over plan full (replicate count [])) (λ n is. is ≡ []) (λ n. refl) (nothing_made plan full count) plan

-- the empty lists are the pools
pub nothing_held : (plan : Plan) (full : Bool) (count n : ℕ) → of_name (replicate count []) n ≡ pool plan full (replicate count []) n
nothing_held plan full count n = nothing_entered count n ∙ sym (nothing_pooled plan full count n)

-- and their intervals have rows as long as their keys, since there are none
pub nothing_of_keys : (plan : Plan) (count : ℕ) → AreOfKeys plan (replicate count [])
nothing_of_keys plan count n = subst (All (IsOfKeys plan n)) (sym (nothing_entered count n)) (All-nil (IsOfKeys plan n))
