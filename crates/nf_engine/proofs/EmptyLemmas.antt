-- What an evaluator keeps where nothing was entered.
use Rattle.std.proofs.Common.{◌≡◌, ℕ, zero, suc, ◌+◌, ◌<◌, ◌==◌, Bool, true, false, cond, nat_lt, List, [], ◌∷◌, length, map, filter, replicate, slice_get, Option, Some, refl, ap, sym, subst, ◌∙◌, arith}
use Rattle.std.specs.List.{range_with_len}
use Rattle.std.proofs.lemmas.List.{length-replicate}
use Rattle.nf_core.specs.Intervals.{Interval}
use Rattle.nf_core.specs.Sets.{has, once}
use Rattle.nf_core.specs.Plan.{Plan, IsPlan, level_of}
use Rattle.nf_core.specs.declared.terms.Link.{Link}
use Rattle.nf_core.specs.declared.terms.Link.TheVariants.{One, Pair, Unless}
use Rattle.nf_core.specs.declared.terms.PlanRule.{PlanRule}
use Rattle.nf_model.specs.Changes.{Content, IsContent, no_inputs}
use Rattle.nf_model.specs.Pools.{Inputs, of_name, judged, holds_all, results_over, second_of}
use Rattle.nf_model.specs.Results.{results_by}
use Rattle.nf_model.proofs.Public.ContentLemmas.{content_begins}
use Rattle.nf_model.proofs.Public.InputLemmas.{nothing_entered}
use Rattle.nf_minimal.specs.Minimals.{Minimal, candidates_of}
use Rattle.nf_tally.specs.Numbers.{Numbers, number, is_on}
use Rattle.nf_engine.specs.declared.parts.RulePart.{RulePart}
use Rattle.nf_engine.specs.inner.Engines.{input_of, inputs_of, content_of, IsEngine}
use Rattle.nf_engine.specs.inner.Numbered.{sum_from, one_if}
use Rattle.nf_engine.specs.inner.Parts.{IsPartOf}
use Rattle.nf_engine.specs.inner.Readers.{AreReaders}
use Rattle.nf_engine.specs.inner.Rounds.{minimal_at, held_in, part_at, found}
use Rattle.nf_engine.proofs.PartLemmas.{part_alike}

-- ---- nothing comes of nothing
judged_nothing : (full : Bool) → judged full [] ≡ []
judged_nothing true = refl
judged_nothing false = refl

nothing_either : (b : Bool) → ◌≡◌ {A = List Interval} (cond b [] []) []
nothing_either true = refl
nothing_either false = refl

no_results : (rule : PlanRule) (link : Link) (seconds : List Interval) → results_by rule link [] seconds ≡ []
no_results rule One seconds = refl
no_results rule (Pair op n) seconds = refl
no_results rule (Unless xop n) seconds = refl

none_each : (f : ℕ → List Interval) → ((n : ℕ) → f n ≡ []) → (low count : ℕ) → map f (range_with_len low count) ≡ replicate count []
none_each f none low zero = refl
none_each f none low (suc count) =
    ap (λ (is : List Interval). is ∷ map f (range_with_len (low + 1) count)) (none low)
    ∙ ap (λ (ls : Inputs). let empty : List Interval = [] in empty ∷ ls) (none_each f none (low + 1) count)

no_sum : (f : ℕ → PlanRule → ℕ) → ((k : ℕ) (rule : PlanRule) → f k rule ≡ 0) → (j : ℕ) (rules : List PlanRule) → sum_from f j rules ≡ 0
no_sum f none j [] = refl
no_sum f none j (rule ∷ rules) =
    let here : f j rule ≡ 0 = none j rule in
    let rest : sum_from f (suc j) rules ≡ 0 = no_sum f none (suc j) rules in
    omega (arith, here, rest)

module _ (plan : Plan) (full : Bool) (valid : IsPlan plan) (entered : Inputs) (names : List Minimal)
    (none_entered : entered ≡ replicate (length plan.names) []) (none : (n : ℕ) → (minimal_at names n).sources ≡ []) where
  no_candidates_of : (n : ℕ) → candidates_of (minimal_at names n) ≡ []
  no_candidates_of n =
      ap (λ (numbers : Numbers). filter (λ i. is_on (number numbers i)) (once (map (λ (e : Interval × ℕ). e.0) numbers))) (none n)

  none_held : (n : ℕ) → held_in names n ≡ []
  none_held n = ap (judged (minimal_at names n).full) (no_candidates_of n) ∙ judged_nothing (minimal_at names n).full

  no_input : (n : ℕ) → input_of plan entered names n ≡ []
  no_input n =
      ap (λ (is : List Interval). cond (nat_lt 0 (level_of plan n)) is (candidates_of (minimal_at names n)))
      (ap (λ (ls : Inputs). of_name ls n) none_entered ∙ nothing_entered (length plan.names) n)
      ∙ ap (λ (is : List Interval). cond (nat_lt 0 (level_of plan n)) [] is) (no_candidates_of n) ∙ nothing_either (nat_lt 0 (level_of plan n))

  no_inputs_of : inputs_of plan entered names ≡ replicate (length plan.names) []
  no_inputs_of = none_each (input_of plan entered names) no_input 0 (length plan.names)

  pub empty_content : content_of plan full entered names ≡ no_inputs plan full
  empty_content = ap (λ (ls : Inputs). let content : Content = record { plan = plan; full = full; inputs = ls } in content) no_inputs_of

  none_found : (n : ℕ) (q : Interval) → found plan (λ k. held_in names) n q ≡ 0
  none_found n q =
      no_sum (λ k rule. cond (rule.head == n) (one_if (has (once (results_over (held_in names) rule)) q)) 0)
      (λ k rule.
      ap (λ (is : List Interval). cond (rule.head == n) (one_if (has (once (results_by rule rule.link is (second_of (held_in names) rule.link))) q)) 0) (none_held rule.first)
      ∙ ap (λ (is : List Interval). cond (rule.head == n) (one_if (has (once is) q)) 0) (no_results rule rule.link (second_of (held_in names) rule.link))
      ∙ zero_either (rule.head == n)) 0 plan.rules
    where
      zero_either : (b : Bool) → ◌≡◌ {A = ℕ} (cond b 0 0) 0
      zero_either true = refl
      zero_either false = refl

  pub empty_engine : (parts : List (Option RulePart)) (readers : List (List ℕ)) → length names ≡ length plan.names
      → ((n : ℕ) → n < length plan.names → (minimal_at names n).full ≡ holds_all plan full n) → length parts ≡ length plan.rules
      → ((k : ℕ) (rule : PlanRule) → slice_get plan.rules k ≡ Some rule → IsPartOf rule (λ n. []) (part_at parts k)) → AreReaders plan readers
      → IsEngine plan full entered names parts readers
  empty_engine parts readers each_name all each_rule idle index = record {
    content = subst (λ (content : Content). IsContent content) (sym empty_content) (content_begins plan full valid);
    each_entered = ap (λ (ls : Inputs). length ls) none_entered ∙ length-replicate (length plan.names) [];
    kept = record {
      each_name = each_name;
      each_rule = each_rule;
      all = all;
      sources = λ n within q.
          let own : number (minimal_at names n).sources q ≡ 0 = ap (λ (numbers : Numbers). number numbers q) (none n) in
          let input : one_if (has (of_name (inputs_of plan entered names) n) q) ≡ 0 =
          ap (λ (is : List Interval). one_if (has is q)) (ap (λ (ls : Inputs). of_name ls n) no_inputs_of ∙ nothing_entered (length plan.names) n) in
          omega (arith, own, input, none_found n q);
      parts = λ k rule at. part_alike rule (λ n. []) (held_in names) (λ m reading. sym (none_held m)) (part_at parts k) (idle k rule at);
    };
    index = index;
  }
