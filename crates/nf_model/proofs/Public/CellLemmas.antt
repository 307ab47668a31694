-- The rows of candidates and of held intervals have a cell for each key of their name.
use Rattle.std.proofs.Common.{◌≡◌, ℕ, ◌<◌, ◌==◌, ℤ, int_le, Bool, true, false, cond, List, [], ◌∷◌, length, filter, flat_map, filter_map, fold, Option, Some, None, All, IfSome, slice_set, ap, sym, ◌∙◌, subst, inl, inr}
use Rattle.std.specs.List.{cons_option}
use Rattle.std.proofs.lemmas.List.Elements.{All-nil, All-cons, All-head, All-tail, All-append, All-filter, All-weaker}
use Rattle.std.proofs.lemmas.List.FromFn.{length-map-range_with_len}
use Rattle.std.proofs.lemmas.Map.Views.{All-insert_key}
use Rattle.std.proofs.lemmas.Bool.Decides.{eqb_tells}
use Rattle.nf_core.specs.Intervals.{Interval, interval_cmp}
use Rattle.nf_core.specs.Sets.{inserted}
use Rattle.nf_core.specs.Plan.{Plan, IsPlan, IsRuleOf, keys_of, rules_of}
use Rattle.nf_core.specs.declared.values.Value.{Value}
use Rattle.nf_core.specs.declared.terms.Link.{Link}
use Rattle.nf_core.specs.declared.terms.Link.TheVariants.{One, Pair, Unless}
use Rattle.nf_core.specs.declared.terms.PlanRule.{PlanRule}
use Rattle.nf_model.specs.Members.{IsOfKeys, AreOfKeys}
use Rattle.nf_model.specs.Results.{built, of_one, of_pair, of_unblocked, interval_from, end_point, row_of, cell_of, results_by}
use Rattle.nf_model.specs.Pools.{Inputs, of_name, is_minimal, minimal, judged, second_of, results_over, candidates_over}
use Rattle.nf_model.proofs.Public.InputLemmas.{set_each}

-- what holds of the result of each item holds of all results
All-cons_option : {X : Type 0} (P : X → Type 0) (o : Option X) (xs : List X) → IfSome o P → All P xs → All P (cons_option o xs)
All-cons_option P None xs g h = h
All-cons_option P (Some x) xs g h = All-cons P x xs g h

All-filter_map : {X Y : Type 0} (P : Y → Type 0) (f : X → Option Y) → ((x : X) → IfSome (f x) P) → (xs : List X) → All P (filter_map f xs)
All-filter_map P f h [] = All-nil P
All-filter_map P f h (x ∷ xs) = All-cons_option P (f x) (filter_map f xs) (h x) (All-filter_map P f h xs)

All-flat_map : {X Y : Type 0} (P : Y → Type 0) (f : X → List Y) → ((x : X) → All P (f x)) → (xs : List X) → All P (flat_map f xs)
All-flat_map P f h [] = All-nil P
All-flat_map P f h (x ∷ xs) = All-append P (f x) (flat_map f xs) (h x) (All-flat_map P f h xs)

-- an interval whose row has so many cells
abbrev HasCells : ℕ → Interval → Type 0
HasCells n i = length i.row ≡ n

if_there : (b : Bool) (o : Option Interval) (n : ℕ) → IfSome o (HasCells n) → IfSome (cond b o None) (HasCells n)
if_there true o n h = h
if_there false o n h = tt

if_not_there : (b : Bool) (o : Option Interval) (n : ℕ) → IfSome o (HasCells n) → IfSome (cond b None o) (HasCells n)
if_not_there true o n h = tt
if_not_there false o n h = h

from_cells : (start stop : Option ℤ) (row : List (Option Value)) (n : ℕ) → length row ≡ n → IfSome (interval_from start stop row) (HasCells n)
from_cells None stop row n h = tt
from_cells (Some start) None row n h = tt
from_cells (Some start) (Some stop) row n h = if_there (int_le start stop) (Some (record { start = start; stop = stop; row = row })) n h

built_cells : (rule : PlanRule) (start stop : ℤ) (i : Interval) (j : Option Interval) → IfSome (built rule start stop i j) (HasCells rule.keys)
unfolding built
built_cells rule start stop i j =
    from_cells (end_point rule.start start i j) (end_point rule.stop stop i j) (row_of rule i j) rule.keys
    (length-map-range_with_len (λ place. cell_of rule.entries place i j) 0 rule.keys)

-- the results of a rule have a cell for each key of its head
results_cells : (rule : PlanRule) (link : Link) (firsts seconds : List Interval) → All (HasCells rule.keys) (results_by rule link firsts seconds)
unfolding of_one of_pair of_unblocked
results_cells rule One firsts seconds =
    All-filter_map (HasCells rule.keys) (of_one rule) (λ i. if_there _ _ rule.keys (built_cells rule _ _ _ _)) firsts
results_cells rule (Pair op n) firsts seconds =
    All-flat_map (HasCells rule.keys) (λ i. filter_map (of_pair rule op i) seconds)
    (λ i. All-filter_map (HasCells rule.keys) (of_pair rule op i) (λ j. if_there _ _ rule.keys (built_cells rule _ _ _ _)) seconds) firsts
results_cells rule (Unless xop n) firsts seconds =
    All-filter_map (HasCells rule.keys) (of_unblocked rule xop (rule.first == n) seconds) (λ i. if_not_there _ _ rule.keys (built_cells rule _ _ _ _)) firsts

module _ (plan : Plan) (n : ℕ) where
  rule_cells : (pool : ℕ → List Interval) (rule : PlanRule) → IsRuleOf plan rule → rule.head ≡ n → All (IsOfKeys plan n) (results_over pool rule)
  rule_cells pool rule valid is =
      All-weaker (HasCells rule.keys) (IsOfKeys plan n) (λ i h. h ∙ valid.keys ∙ ap (λ m. length (keys_of plan m)) is)
      (results_over pool rule) (results_cells rule rule.link (pool rule.first) (second_of pool rule.link))

  rules_cells : (pool : ℕ → List Interval) (rules : List PlanRule) → All (IsRuleOf plan) rules
      → All (IsOfKeys plan n) (flat_map (results_over pool) (filter (λ (rule : PlanRule). rule.head == n) rules))
  rules_cells pool [] valid = All-nil (IsOfKeys plan n)
  rules_cells pool (rule ∷ rules) valid =
      let rest : List PlanRule = filter (λ (r : PlanRule). r.head == n) rules in
      let all : All (IsOfKeys plan n) (flat_map (results_over pool) rest) = rules_cells pool rules (All-tail (IsRuleOf plan) rule rules valid) in
      let P : Bool → Type 0 = λ b. All (IsOfKeys plan n) (flat_map (results_over pool) (cond b (rule ∷ rest) rest)) in
      elim (eqb_tells rule.head n) [
        | inl is ↦ subst P (sym is.0) (All-append (IsOfKeys plan n) (results_over pool rule) (flat_map (results_over pool) rest) (rule_cells pool rule (All-head (IsRuleOf plan) rule rules valid) is.1) all)
        | inr apart ↦ subst P (sym apart.0) all
      ]

  all_once : (members set : List Interval) → All (IsOfKeys plan n) members → All (IsOfKeys plan n) set → All (IsOfKeys plan n) (fold (λ set i. inserted i set) set members)
  all_once [] set h g = g
  all_once (i ∷ members) set h g =
      all_once members (inserted i set) (All-tail (IsOfKeys plan n) i members h)
      (All-insert_key interval_cmp i (IsOfKeys plan n) set g (All-head (IsOfKeys plan n) i members h))

  judged_cells : (full : Bool) (members : List Interval) → All (IsOfKeys plan n) members → All (IsOfKeys plan n) (judged full members)
  judged_cells true members h = all_once members [] h (All-nil (IsOfKeys plan n))
  judged_cells false members h =
      all_once (minimal members) [] (All-filter (is_minimal members) (IsOfKeys plan n) members h) (All-nil (IsOfKeys plan n))

-- and so have the judged candidates, over any pools, where the inputs have
pub candidates_cells : (plan : Plan) (all : Bool) (inputs : Inputs) (pool : ℕ → List Interval) (n : ℕ) → IsPlan plan → AreOfKeys plan inputs
    → All (IsOfKeys plan n) (judged all (candidates_over plan inputs pool n))
candidates_cells plan all inputs pool n valid rows =
    judged_cells plan n all (candidates_over plan inputs pool n)
    (All-append (IsOfKeys plan n) (of_name inputs n) (flat_map (results_over pool) (rules_of plan n)) (rows n) (rules_cells plan n pool plan.rules valid.rules))

-- and rows stay as long as their keys
pub set_cells : (plan : Plan) (lists : Inputs) (n : ℕ) (list : List Interval) → n < length lists → AreOfKeys plan lists → All (IsOfKeys plan n) list
    → AreOfKeys plan (slice_set lists n list)
set_cells plan = set_each (λ m is. All (IsOfKeys plan m) is)
