-- The intervals in pools are proper where those of the inputs are, pools are sets, and of no inputs they are empty.
use Rattle.std.proofs.Common.{◌≡◌, ℕ, ℤ, Bool, true, false, cond, ◌&&◌, ◌==◌, List, [], ◌∷◌, length, fold, All, Option, Some, None, IfSome, option_and_then, ap, ◌∙◌, if◌then◌else◌}
use Rattle.std.specs.Prelude.{int_le, slice_index_or, flat_map, filter_map, find, option_to_list}
use Rattle.std.specs.List.{list_any, range_with_len, cons_option}
use Rattle.std.specs.List.Sorted.{IsStrictlySortedBy}
use Rattle.std.proofs.lemmas.Bool.{eqb-true}
use Rattle.std.proofs.lemmas.List.FromFn.{length-map-range_with_len}
use Rattle.std.proofs.lemmas.List.Elements.{All-nil, All-cons, All-head, All-tail, All-append, All-filter, All-weaker, All-map, filter_passes}
use Rattle.std.proofs.lemmas.Map.Views.{All-insert_key}
use Rattle.nf_core.specs.Texts.{IsI64, IsPlain}
use Rattle.nf_core.specs.Intervals.{Interval, interval_cmp, interval_cmp_total}
use Rattle.nf_core.specs.Sets.{IsSet, inserted}
use Rattle.nf_core.specs.Relations.{holds, span}
use Rattle.nf_core.specs.Expressions.{value_of, texts_of, numbers_of}
use Rattle.nf_core.specs.Plan.{Plan, IsPlan, IsRuleOf, IsEntryOf, IsTermOver, result_names, rules_of, keys_of, level_of}
use Rattle.nf_core.specs.declared.values.Value.{Value}
use Rattle.nf_core.specs.declared.values.Value.TheVariants as v
use Rattle.nf_core.specs.declared.operators.Op.{Op}
use Rattle.nf_core.specs.declared.operators.Op.TheVariants.{Before, Meet, During, Coincide, Start, Finish, Overlap, Slice}
use Rattle.nf_core.specs.declared.operators.Xop.{Xop}
use Rattle.nf_core.specs.declared.terms.Term.{Term}
use Rattle.nf_core.specs.declared.terms.Link.{Link}
use Rattle.nf_core.specs.declared.terms.Link.TheVariants.{One, Pair, Unless}
use Rattle.nf_core.specs.declared.terms.PlanEntry.{PlanEntry}
use Rattle.nf_core.specs.declared.terms.PlanRule.{PlanRule}
use Rattle.nf_core.proofs.Public.AscendingLemmas.{IsStrictlySortedBy-fold}
use Rattle.nf_model.specs.Results.{int_of, end_point, cell_of, row_of, interval_from, is_met, built, of_one, of_pair, is_blocker, of_unblocked, results_by}
use Rattle.nf_model.specs.Pools.{Inputs, of_name, is_minimal, minimal, judged, holds_all, second_of, results_over, candidates_over, held_over, pool}
use Rattle.nf_model.specs.Levels.{Pools, through_levels}
use Rattle.nf_model.specs.Changes.{no_inputs, pool_of}
use Rattle.nf_model.specs.ProperRows.{IsProperCell, IsProper, AreProper}
use Rattle.nf_model.proofs.Public.EmptyInputLemmas.{nothing_pooled}
use Rattle.nf_model.proofs.Public.LevelLemmas.{kept_by_levels}
use Rattle.nf_model.proofs.ProperValueLemmas.{IsProperMember, value_proper}

-- a value of an expression whose numbers and texts are right
record IsRight (x : Term) : Type 0 where
  texts : All IsPlain (texts_of x)
  numbers : All IsI64 (numbers_of x)

module _ (keys : List (List ℕ)) (rule : PlanRule) (same : rule.keys ≡ length keys)
    (entries : All (λ (entry : PlanEntry). IsRight entry.value) rule.entries) (start : All IsRight (option_to_list rule.start)) (stop : All IsRight (option_to_list rule.stop)) where
  module _ (i : Interval) (j : Option Interval) (one : IsProperMember i) (other : IfSome j IsProperMember) where
    found : (p : PlanEntry → Bool) (items : List PlanEntry) → All (λ (entry : PlanEntry). IsRight entry.value) items → IsProperCell (option_and_then (λ (entry : PlanEntry). value_of i j entry.value) (find p items))
    found p [] h = tt
    found p (entry ∷ items) h = at (p entry) (found p items (All-tail (λ (entry : PlanEntry). IsRight entry.value) entry items h))
      where
        here : IsRight entry.value
        here = All-head (λ (entry : PlanEntry). IsRight entry.value) entry items h

        at : (b : Bool) → IsProperCell (option_and_then (λ (entry : PlanEntry). value_of i j entry.value) (find p items)) → IsProperCell (option_and_then (λ (entry : PlanEntry). value_of i j entry.value) (cond b (Some entry) (find p items)))
        at true later = value_proper i j one other entry.value here.texts here.numbers
        at false later = later

    number : (o : Option Value) → IsProperCell o → IfSome (int_of o) IsI64
    number None h = tt
    number (Some (v.Bool b)) h = tt
    number (Some (v.Int n)) h = h
    number (Some (v.Text t)) h = tt

    end_right : (o : Option Term) (n : ℤ) → All IsRight (option_to_list o) → IsI64 n → IfSome (end_point o n i j) IsI64
    end_right None n h fits = fits
    end_right (Some term) n h fits = let right = All-head IsRight term [] h in number (value_of i j term) (value_proper i j one other term right.texts right.numbers)

    from_right : (a b : Option ℤ) (row : List (Option Value)) → IfSome a IsI64 → IfSome b IsI64 → length row ≡ length keys → All IsProperCell row → IfSome (interval_from a b row) (IsProper keys)
    from_right (Some a) (Some b) row ha hb each cells = at (int_le a b)
      where
        at : (t : Bool) → IfSome (if t then Some (record { start = a; stop = b; row = row }) else None) (IsProper keys)
        at true = record { start = ha; stop = hb; each = each; cells = cells }
        at false = tt
    from_right (Some a) None row ha hb each cells = tt
    from_right None b row ha hb each cells = tt

    built_proper : (a b : ℤ) → IsI64 a → IsI64 b → IfSome (built rule a b i j) (IsProper keys)
    unfolding built
    built_proper a b ha hb =
        from_right (end_point rule.start a i j) (end_point rule.stop b i j) (row_of rule i j) (end_right rule.start a start ha) (end_right rule.stop b stop hb)
        (length-map-range_with_len (λ place. cell_of rule.entries place i j) 0 rule.keys ∙ same)
        (All-map IsProperCell (λ place. cell_of rule.entries place i j) (range_with_len 0 rule.keys) (λ k d within. found (λ (entry : PlanEntry). entry.place == slice_index_or (range_with_len 0 rule.keys) k d) rule.entries entries))

  chosen : (b : Bool) (o : Option Interval) → IfSome o (IsProper keys) → IfSome (if b then o else None) (IsProper keys)
  chosen true o h = h
  chosen false o h = tt

  other_chosen : (b : Bool) (o : Option Interval) → IfSome o (IsProper keys) → IfSome (if b then None else o) (IsProper keys)
  other_chosen true o h = tt
  other_chosen false o h = h

  one_proper : (i : Interval) → IsProperMember i → IfSome (of_one rule i) (IsProper keys)
  unfolding of_one
  one_proper i p = chosen (is_met rule i None) (built rule i.start i.stop i None) (built_proper i None p tt i.start i.stop p.start p.stop)

  unblocked_proper : (xop : Xop) (one_name : Bool) (others : List Interval) (i : Interval) → IsProperMember i → IfSome (of_unblocked rule xop one_name others i) (IsProper keys)
  unfolding of_unblocked
  unblocked_proper xop one_name others i p = other_chosen (list_any (is_blocker rule xop one_name i) others) (built rule i.start i.stop i None) (built_proper i None p tt i.start i.stop p.start p.stop)

  either : (b : Bool) (x y : ℤ) → IsI64 x → IsI64 y → IsI64 (cond b x y)
  either true x y h k = h
  either false x y h k = k

  span_right : (op : Op) (i j : Interval) → IsProperMember i → IsProperMember j → IsI64 (span i.start i.stop j.start j.stop op).0 × IsI64 (span i.start i.stop j.start j.stop op).1
  unfolding span
  span_right Before i j p q = (p.start, q.stop)
  span_right Meet i j p q = (p.start, q.stop)
  span_right During i j p q = (q.start, q.stop)
  span_right Coincide i j p q = (p.start, p.stop)
  span_right Start i j p q = (p.start, either _ _ _ q.stop p.stop)
  span_right Finish i j p q = (either _ _ _ p.start q.start, p.stop)
  span_right Overlap i j p q = (either _ _ _ p.start q.start, either _ _ _ q.stop p.stop)
  span_right Slice i j p q = (either _ _ _ q.start p.start, either _ _ _ p.stop q.stop)

  pair_proper : (op : Op) (i j : Interval) → IsProperMember i → IsProperMember j → IfSome (of_pair rule op i j) (IsProper keys)
  unfolding of_pair
  pair_proper op i j p q =
      let ends = span_right op i j p q in
      chosen (holds i.start i.stop j.start j.stop op && is_met rule i (Some j)) (built rule (span i.start i.stop j.start j.stop op).0 (span i.start i.stop j.start j.stop op).1 i (Some j))
      (built_proper i (Some j) p q (span i.start i.stop j.start j.stop op).0 (span i.start i.stop j.start j.stop op).1 ends.0 ends.1)

  All-filter_map : (f : Interval → Option Interval) → ((i : Interval) → IsProperMember i → IfSome (f i) (IsProper keys)) → (is : List Interval) → All IsProperMember is → All (IsProper keys) (filter_map f is)
  All-filter_map f h [] all = All-nil (IsProper keys)
  All-filter_map f h (i ∷ is) all = at (f i) (h i (All-head IsProperMember i is all)) (All-filter_map f h is (All-tail IsProperMember i is all))
    where
      at : (o : Option Interval) → IfSome o (IsProper keys) → All (IsProper keys) (filter_map f is) → All (IsProper keys) (cons_option o (filter_map f is))
      at None here later = later
      at (Some x) here later = All-cons (IsProper keys) x (filter_map f is) here later

  All-pairs : (op : Op) (firsts seconds : List Interval) → All IsProperMember firsts → All IsProperMember seconds → All (IsProper keys) (flat_map (λ i. filter_map (of_pair rule op i) seconds) firsts)
  All-pairs op [] seconds h k = All-nil (IsProper keys)
  All-pairs op (i ∷ firsts) seconds h k =
      All-append (IsProper keys) (filter_map (of_pair rule op i) seconds) (flat_map (λ i. filter_map (of_pair rule op i) seconds) firsts)
      (All-filter_map (of_pair rule op i) (λ j q. pair_proper op i j (All-head IsProperMember i firsts h) q) seconds k)
      (All-pairs op firsts seconds (All-tail IsProperMember i firsts h) k)

  results_proper : (link : Link) (firsts seconds : List Interval) → All IsProperMember firsts → All IsProperMember seconds → All (IsProper keys) (results_by rule link firsts seconds)
  results_proper One firsts seconds h k = All-filter_map (of_one rule) one_proper firsts h
  results_proper (Pair op n) firsts seconds h k = All-pairs op firsts seconds h k
  results_proper (Unless xop n) firsts seconds h k = All-filter_map (of_unblocked rule xop (rule.first == n) seconds) (unblocked_proper xop (rule.first == n) seconds) firsts h

-- what rules of a plan have
members : (keys : List (List ℕ)) (is : List Interval) → All (IsProper keys) is → All IsProperMember is
members keys is h = All-weaker (IsProper keys) IsProperMember (λ i p. record { start = p.start; stop = p.stop; cells = p.cells }) is h

right : (plan : Plan) (names : List ℕ) (term : Term) → IsTermOver plan names term → IsRight term
right plan names term over = record { texts = over.plain; numbers = over.numbers }

module _ (plan : Plan) (valid : IsPlan plan) where
  seconds_proper : (pools : Pools) → AreProper plan pools → (link : Link) → All IsProperMember (second_of pools link)
  seconds_proper pools h One = All-nil IsProperMember
  seconds_proper pools h (Pair op n) = members (keys_of plan n) (pools n) (h n)
  seconds_proper pools h (Unless xop n) = members (keys_of plan n) (pools n) (h n)

  rule_proper : (pools : Pools) → AreProper plan pools → (n : ℕ) (rule : PlanRule) → IsRuleOf plan rule → (rule.head == n) ≡ true → All (IsProper (keys_of plan n)) (results_over pools rule)
  rule_proper pools h n rule r at =
      let terms : (over : List Term) → All (IsTermOver plan (result_names rule)) over → All IsRight over =
      All-weaker (IsTermOver plan (result_names rule)) IsRight (right plan (result_names rule)) in
      results_proper (keys_of plan n) rule (r.keys ∙ ap (λ m. length (keys_of plan m)) (eqb-true rule.head n at))
      (All-weaker (IsEntryOf plan rule) (λ (entry : PlanEntry). IsRight entry.value) (λ entry e. right plan (result_names rule) entry.value e.value) rule.entries r.entries)
      (terms (option_to_list rule.start) r.start) (terms (option_to_list rule.stop) r.stop)
      rule.link (pools rule.first) (second_of pools rule.link) (members (keys_of plan rule.first) (pools rule.first) (h rule.first)) (seconds_proper pools h rule.link)

  rules_proper : (pools : Pools) → AreProper plan pools → (n : ℕ) (rules : List PlanRule) → All (IsRuleOf plan) rules → All (λ (rule : PlanRule). (rule.head == n) ≡ true) rules
      → All (IsProper (keys_of plan n)) (flat_map (results_over pools) rules)
  rules_proper pools h n [] r at = All-nil (IsProper (keys_of plan n))
  rules_proper pools h n (rule ∷ rules) r at =
      All-append (IsProper (keys_of plan n)) (results_over pools rule) (flat_map (results_over pools) rules)
      (rule_proper pools h n rule (All-head (IsRuleOf plan) rule rules r) (All-head (λ (rule : PlanRule). (rule.head == n) ≡ true) rule rules at))
      (rules_proper pools h n rules (All-tail (IsRuleOf plan) rule rules r) (All-tail (λ (rule : PlanRule). (rule.head == n) ≡ true) rule rules at))

  All-once : (P : Interval → Type 0) (is set : List Interval) → All P is → All P set → All P (fold (λ set i. inserted i set) set is)
  All-once P [] set h s = s
  All-once P (i ∷ is) set h s = All-once P is (inserted i set) (All-tail P i is h) (All-insert_key interval_cmp i P set s (All-head P i is h))

  judged_proper : (full : Bool) (P : Interval → Type 0) (is : List Interval) → All P is → All P (judged full is)
  judged_proper true P is h = All-once P is [] h (All-nil P)
  judged_proper false P is h = All-once P (minimal is) [] (All-filter (is_minimal is) P is h) (All-nil P)

  step_proper : (full : Bool) (inputs : Inputs) → AreProper plan (of_name inputs) → (pools : Pools) → AreProper plan pools → AreProper plan (held_over plan full inputs pools)
  step_proper full inputs h pools held n =
      judged_proper (holds_all plan full n) (IsProper (keys_of plan n)) (candidates_over plan inputs pools n)
      (All-append (IsProper (keys_of plan n)) (of_name inputs n) (flat_map (results_over pools) (rules_of plan n)) (h n)
      (rules_proper pools held n (rules_of plan n)
      (All-filter (λ (rule : PlanRule). rule.head == n) (IsRuleOf plan) plan.rules valid.rules)
      (filter_passes (λ (rule : PlanRule). rule.head == n) plan.rules)))

  pub pools_proper : (full : Bool) (inputs : Inputs) → AreProper plan (of_name inputs) → AreProper plan (pool plan full inputs)
  pools_proper full inputs h =
      kept_by_levels (held_over plan full inputs) (λ n is. All (IsProper (keys_of plan n)) is) (λ n. All-nil (IsProper (keys_of plan n))) (step_proper full inputs h) plan

-- pools are sets
judged_set : (full : Bool) (is : List Interval) → IsSet (judged full is)
unfolding IsStrictlySortedBy
judged_set true is = IsStrictlySortedBy-fold interval_cmp interval_cmp_total is [] tt
judged_set false is = IsStrictlySortedBy-fold interval_cmp interval_cmp_total (minimal is) [] tt

pub pools_are_sets : (plan : Plan) (full : Bool) (inputs : Inputs) (n : ℕ) → IsSet (pool plan full inputs n)
unfolding through_levels
pools_are_sets plan full inputs n = judged_set (holds_all plan full n) (candidates_over plan inputs (through_levels (held_over plan full inputs) (level_of plan n)) n)

-- and of no inputs they are empty
pub no_pools : (plan : Plan) (full : Bool) (n : ℕ) → pool_of (no_inputs plan full) n ≡ []
no_pools plan full n = nothing_pooled plan full (length plan.names) n
