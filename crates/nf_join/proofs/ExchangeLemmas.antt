-- What the results of a rule with two atoms lost and found, as sums over pairs.
use Rattle.std.proofs.Common.{◌≡◌, ℕ, ◌+◌, ◌&&◌, cond, List, [], Option, None, Some, option_to_list, filter_map, sum_by, refl, ap, sym, ◌∙◌}
use Rattle.nf_core.specs.Intervals.{Interval}
use Rattle.nf_core.specs.Sets.{IsSet}
use Rattle.nf_core.specs.declared.operators.Op.{Op}
use Rattle.nf_core.specs.declared.intervals.Delta.{Delta}
use Rattle.nf_core.specs.declared.terms.Link.{Link}
use Rattle.nf_core.specs.declared.terms.Link.TheVariants.{One, Pair, Unless}
use Rattle.nf_core.specs.declared.terms.PlanRule.{PlanRule}
use Rattle.nf_index.specs.declared.relations.Which.TheVariants.{First, Second}
use Rattle.nf_model.specs.Results.{is_met, built_by, of_pair, results, results_by}
use Rattle.nf_model.specs.Work.{Sides, clauses, rule_work}
use Rattle.nf_model.proofs.Public.WorkLemmas.{pairs_sum, touched_sum, work_of_pair}
use Rattle.nf_pairs.specs.Deltas.{IsDelta, before}
use Rattle.nf_pairs.specs.Partners.{HasTwoAtoms, is_related}
use Rattle.nf_pairs.specs.inner.Walks.{lost_sum, found_sum}
use Rattle.nf_pairs.proofs.Public.SumLemmas.{sum_alike}
use Rattle.nf_pairs.proofs.Public.BalanceLemmas.{kept_sum, sum_was, sum_is, touched_is}
use Rattle.nf_tally.specs.Numbers.{often}
use Rattle.nf_tally.proofs.Public.OftenLemmas.{often-flat_map, often-filter_map}
use Rattle.nf_join.specs.Joins.{IsInclusive}
use Rattle.nf_join.specs.inner.Made.{made, makes, costs, stored_sum}
use Rattle.nf_join.specs.inner.Exchanges.{AreExchanged, sides_before, sides_now}

-- ---- the sums that walks say, over slices
module _ (w : Interval → Interval → ℕ) (firsts seconds : List Interval) (d1 d2 : Delta) where
  pub lost_total : (gone1 gone2 come1 come2 : List Interval) → gone1 ≡ d1.gone → gone2 ≡ d2.gone → come1 ≡ d1.come → come2 ≡ d2.come
      → sum_by (stored_sum Second w come2 seconds) gone1 + sum_by (λ i. sum_by (w i) gone2) gone1 + sum_by (stored_sum First w come1 firsts) gone2 ≡ lost_sum w firsts seconds d1 d2
  lost_total gone1 gone2 come1 come2 g1 g2 c1 c2 =
      λ k. sum_by (stored_sum Second w (c2 k) seconds) (g1 k) + sum_by (λ i. sum_by (w i) (g2 k)) (g1 k) + sum_by (stored_sum First w (c1 k) firsts) (g2 k)

  pub found_total : (none come1 come2 : List Interval) → none ≡ [] → come1 ≡ d1.come → come2 ≡ d2.come
      → sum_by (stored_sum Second w none seconds) come1 + sum_by (stored_sum First w come1 firsts) come2 ≡ found_sum w firsts seconds d1 d2
  found_total none come1 come2 n c1 c2 =
      λ k. sum_by (stored_sum Second w (n k) seconds) (c1 k) + sum_by (stored_sum First w (c1 k) firsts) (c2 k)

-- ---- what a pair makes is what the rule gives of it
of_pair_is : (rule : PlanRule) (op : Op) (n : ℕ) → rule.link ≡ Pair op n → (i j : Interval) → of_pair rule op i j ≡ made rule i j
unfolding of_pair built_by made
of_pair_is rule op n is i j = ap (λ (l : Link). cond (is_related l i j && is_met rule i (Some j)) (built_by rule l i (Some j)) None) (sym is)

-- how often the results have an interval: once for each pair that makes it
results_sum : (rule : PlanRule) → HasTwoAtoms rule.link → IsInclusive rule.link → (firsts seconds : List Interval) (q : Interval)
    → often (results rule firsts seconds) q ≡ pairs_sum (makes rule q) (sides_now firsts seconds)
results_sum rule two inclusive firsts seconds q = by rule.link refl two inclusive
  where
    by : (link : Link) → rule.link ≡ link → HasTwoAtoms link → IsInclusive link → often (results_by rule link firsts seconds) q ≡ pairs_sum (makes rule q) (sides_now firsts seconds)
    by One is two inclusive = absurd two
    by (Unless xop n) is two inclusive = absurd inclusive
    by (Pair op n) is two inclusive =
        often-flat_map (λ i. filter_map (of_pair rule op i) seconds) firsts q
        ∙ sum_alike (λ i. often (filter_map (of_pair rule op i) seconds) q) (λ i. sum_by (makes rule q i) seconds)
        (λ i. often-filter_map (of_pair rule op i) seconds q
        ∙ sum_alike (λ j. often (option_to_list (of_pair rule op i j)) q) (makes rule q i) (λ j. ap (λ (o : Option Interval). often (option_to_list o) q) (of_pair_is rule op n is i j)) seconds) firsts

-- the work: what each touched pair costs
work_sum : (rule : PlanRule) → HasTwoAtoms rule.link → IsInclusive rule.link → (was now : Sides) → rule_work rule was now ≡ touched_sum (costs rule) was now
work_sum rule two inclusive was now = by rule.link refl two inclusive
  where
    by : (link : Link) → rule.link ≡ link → HasTwoAtoms link → IsInclusive link → rule_work rule was now ≡ touched_sum (costs rule) was now
    by One is two inclusive = absurd two
    by (Unless xop n) is two inclusive = absurd inclusive
    by (Pair op n) is two inclusive =
        work_of_pair rule was now op n is ∙ ap (λ (l : Link). touched_sum (λ i j. cond (is_related l i j) (clauses rule) 0) was now) (sym is)

module _ (rule : PlanRule) (two : HasTwoAtoms rule.link) (inclusive : IsInclusive rule.link) (firsts seconds : List Interval) (d1 d2 : Delta)
    (set1 : IsSet firsts) (set2 : IsSet seconds) (is1 : IsDelta firsts d1) (is2 : IsDelta seconds d2) where
  pub exchanged_pairs : (lost found : List Interval) → ((q : Interval) → often lost q ≡ lost_sum (makes rule q) firsts seconds d1 d2)
      → ((q : Interval) → often found q ≡ found_sum (makes rule q) firsts seconds d1 d2) → AreExchanged rule firsts seconds d1 d2 lost found
  exchanged_pairs lost found left arrived = record {
    stayed = λ q. kept_sum (makes rule q) firsts seconds d1 d2;
    was = λ q. results_sum rule two inclusive (before d1 firsts) (before d2 seconds) q ∙ sum_was firsts seconds d1 d2 set1 set2 is1 is2 (makes rule q)
        ∙ ap (λ n. kept_sum (makes rule q) firsts seconds d1 d2 + n) (sym (left q));
    is = λ q. results_sum rule two inclusive firsts seconds q ∙ sum_is firsts seconds d1 d2 set1 set2 is1 is2 (makes rule q)
        ∙ ap (λ n. kept_sum (makes rule q) firsts seconds d1 d2 + n) (sym (arrived q));
  }

  pub work_of_pairs : rule_work rule (sides_before firsts seconds d1 d2) (sides_now firsts seconds)
      ≡ lost_sum (costs rule) firsts seconds d1 d2 + found_sum (costs rule) firsts seconds d1 d2
  work_of_pairs =
      work_sum rule two inclusive (sides_before firsts seconds d1 d2) (sides_now firsts seconds) ∙ touched_is firsts seconds d1 d2 set1 set2 is1 is2 (costs rule)
