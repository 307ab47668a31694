-- What is held of candidates depends on their members alone, and candidates by their numbers of sources are those of the definitions.
use Rattle.std.proofs.Common.{◌≡◌, ℕ, zero, suc, ◌+◌, ◌<◌, ◌==◌, Bool, true, false, cond, not, ◌&&◌, ◌||◌, List, [], ◌∷◌, length, map, filter, flat_map, Some, unwrap_or, true≢false, refl, ap, sym, ◌∙◌, arith, lt-ltb, zero-add}
use Rattle.std.specs.Map.{lookup}
use Rattle.nf_core.specs.Intervals.{Interval, same, is_strictly_inside}
use Rattle.nf_core.specs.Sets.{IsSet, has, once}
use Rattle.nf_core.specs.Plan.{Plan, level_of, rules_of}
use Rattle.nf_core.specs.declared.terms.PlanRule.{PlanRule}
use Rattle.nf_core.proofs.Public.SetLemmas.{IsSet-empty, IsSet-once, has_once, has_filter, has_append, same_set, any_alike}
use Rattle.nf_model.specs.Levels.{Pools, ReadsBelow}
use Rattle.nf_model.specs.Pools.{Inputs, of_name, is_minimal, minimal, judged, holds_all, results_over, candidates_over, held_over, pool}
use Rattle.nf_model.proofs.Public.LevelLemmas.{step-is_by_levels, kept_by_levels}
use Rattle.nf_minimal.specs.Minimals.{Minimal, candidates_of, held_of}
use Rattle.nf_tally.specs.Numbers.{Numbers, number, is_on}
use Rattle.nf_engine.specs.inner.Queues.{rank}
use Rattle.nf_engine.specs.inner.Numbered.{sum_from, one_if}
use Rattle.nf_engine.specs.inner.Rounds.{found}
use Rattle.nf_engine.proofs.RankLemmas.{lower_first}

-- ---- what is held
module _ (xs ys : List Interval) (alike : (q : Interval) → has xs q ≡ has ys q) where
  minimal_members : (q : Interval) → has (minimal xs) q ≡ has (minimal ys) q
  minimal_members q =
      has_filter (is_minimal xs) q xs
      ∙ ap (λ b. b && is_minimal xs q) (alike q)
      ∙ ap (λ b. has ys q && not b) (any_alike (λ j. is_strictly_inside j q) xs ys (λ r passes. alike r))
      ∙ sym (has_filter (is_minimal ys) q ys)

  -- candidates with the same members are judged alike
  pub judged_alike : (all : Bool) → judged all xs ≡ judged all ys
  judged_alike true = same_set (once xs) (once ys) (IsSet-once xs) (IsSet-once ys) (λ q. has_once xs q ∙ alike q ∙ sym (has_once ys q))
  judged_alike false =
      same_set (once (minimal xs)) (once (minimal ys)) (IsSet-once (minimal xs)) (IsSet-once (minimal ys))
      (λ q. has_once (minimal xs) q ∙ minimal_members q ∙ sym (has_once (minimal ys) q))

-- what is held ascends and has each interval once
pub IsSet-judged : (all : Bool) (is : List Interval) → IsSet (judged all is)
IsSet-judged true is = IsSet-once is
IsSet-judged false is = IsSet-once (minimal is)

pub IsSet-pool : (plan : Plan) (full : Bool) (inputs : Inputs) (n : ℕ) → IsSet (pool plan full inputs n)
IsSet-pool plan full inputs =
    kept_by_levels (held_over plan full inputs) (λ n is. IsSet is) (λ n. IsSet-empty)
    (λ pools each n. IsSet-judged (holds_all plan full n) (candidates_over plan inputs pools n)) plan

-- ---- which candidates there are
on_plus : (b : Bool) (n : ℕ) → is_on (one_if b + n) ≡ (b || is_on n)
on_plus true n = lt-ltb 0 (1 + n) (omega arith)
on_plus false n = ap is_on (zero-add n)

module _ (pools : Pools) (q : Interval) where
  found_from : (p : PlanRule → Bool) (j : ℕ) (rules : List PlanRule)
      → is_on (sum_from (λ k rule. cond (p rule) (one_if (has (once (results_over pools rule)) q)) 0) j rules) ≡ has (flat_map (results_over pools) (filter p rules)) q
  found_from p j [] = refl
  found_from p j (rule ∷ rules) = by (p rule) (found_from p (suc j) rules)
    where
      rest : ℕ
      rest = sum_from (λ k r. cond (p r) (one_if (has (once (results_over pools r)) q)) 0) (suc j) rules

      by : (b : Bool) → is_on rest ≡ has (flat_map (results_over pools) (filter p rules)) q
          → is_on (cond b (one_if (has (once (results_over pools rule)) q)) 0 + rest) ≡ has (flat_map (results_over pools) (cond b (rule ∷ filter p rules) (filter p rules))) q
      by true e =
          on_plus (has (once (results_over pools rule)) q) rest
          ∙ ap (λ b. b || is_on rest) (has_once (results_over pools rule) q) ∙ ap (λ b. has (results_over pools rule) q || b) e
          ∙ sym (has_append (results_over pools rule) (flat_map (results_over pools) (filter p rules)) q)
      by false e = ap is_on (zero-add rest) ∙ e

-- what has a source is a candidate
pub sources_on : (plan : Plan) (inputs : Inputs) (pools : Pools) (n : ℕ) (q : Interval)
    → is_on (one_if (has (of_name inputs n) q) + found plan (λ k. pools) n q) ≡ has (candidates_over plan inputs pools n) q
sources_on plan inputs pools n q =
    on_plus (has (of_name inputs n) q) (found plan (λ k. pools) n q)
    ∙ ap (λ b. has (of_name inputs n) q || b) (found_from pools q (λ rule. rule.head == n) 0 plan.rules)
    ∙ sym (has_append (of_name inputs n) (flat_map (results_over pools) (rules_of plan n)) q)

-- the candidates of a name are the intervals with a number
listed : (numbers : Numbers) (q : Interval) → is_on (number numbers q) ≡ true → has (map (λ (e : Interval × ℕ). e.0) numbers) q ≡ true
listed [] q on = absurd (true≢false (sym on))
listed (e ∷ numbers) q on = by (same q e.0) on (listed numbers q)
  where
    by : (b : Bool) → is_on (unwrap_or (cond b (Some e.1) (lookup (same q) numbers)) 0) ≡ true → (is_on (number numbers q) ≡ true → has (map (λ (e : Interval × ℕ). e.0) numbers) q ≡ true)
        → (b || has (map (λ (e : Interval × ℕ). e.0) numbers) q) ≡ true
    by true there rest = refl
    by false there rest = rest there

both_on : (a b : Bool) → (b ≡ true → a ≡ true) → (a && b) ≡ b
both_on true b h = refl
both_on false true h = h refl
both_on false false h = refl

pub has_candidates : (m : Minimal) (q : Interval) → has (candidates_of m) q ≡ is_on (number m.sources q)
has_candidates m q =
    has_filter (λ i. is_on (number m.sources i)) q (once (map (λ (e : Interval × ℕ). e.0) m.sources))
    ∙ ap (λ b. b && is_on (number m.sources q)) (has_once (map (λ (e : Interval × ℕ). e.0) m.sources) q)
    ∙ both_on (has (map (λ (e : Interval × ℕ). e.0) m.sources) q) (is_on (number m.sources q)) (listed m.sources q)

-- a name whose numbers are those of its sources over the pools holds what it is to hold over them
pub held_is_step : (plan : Plan) (full : Bool) (inputs : Inputs) (pools : Pools) (n : ℕ) (m : Minimal) → m.full ≡ holds_all plan full n
    → ((q : Interval) → number m.sources q ≡ one_if (has (of_name inputs n) q) + found plan (λ k. pools) n q)
    → held_of m ≡ held_over plan full inputs pools n
held_is_step plan full inputs pools n m all sources =
    ap (λ b. judged b (candidates_of m)) all
    ∙ judged_alike (candidates_of m) (candidates_over plan inputs pools n)
    (λ q. has_candidates m q ∙ ap is_on (sources q) ∙ sources_on plan inputs pools n q) (holds_all plan full n)

-- ---- names that hold what they are to hold over what all names hold, up to a place in the order, hold their pools
module _ (plan : Plan) (full : Bool) (inputs : Inputs) (reads : ReadsBelow plan (held_over plan full inputs)) (held : Pools) (place : ℕ)
    (solved : (n : ℕ) → n < length plan.names → rank plan n < place → held n ≡ held_over plan full inputs held n) where
  below_level : (level n : ℕ) → n < length plan.names → level_of plan n < level → rank plan n < place → held n ≡ pool plan full inputs n
  below_level zero n within lower early = absurd (omega arith)
  below_level (suc level) n within lower early =
      solved n within early
      ∙ step-is_by_levels plan (held_over plan full inputs) reads held n within
      (λ m below.
      let before : rank plan m < rank plan n = lower_first plan m n below.name below.level in
      let under : level_of plan m < level_of plan n = below.level in
      below_level level m below.name (omega arith) (omega arith))

  pub held_is_pool : (n : ℕ) → n < length plan.names → rank plan n < place → held n ≡ pool plan full inputs n
  held_is_pool n within early = below_level (suc (level_of plan n)) n within (omega arith) early
