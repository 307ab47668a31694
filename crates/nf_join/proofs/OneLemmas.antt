-- What a rule with one atom makes, and what that costs.
use Rattle.std.proofs.Common.{◌≡◌, ℕ, ◌+◌, ◌*◌, true, false, cond, List, [], ◌∷◌, length, Option, None, sum_by, refl, ap, sym, subst, ◌∙◌, add-mul, arith}
use Rattle.std.proofs.lemmas.List.Sums.{sum_by-cons}
use Rattle.nf_core.specs.Intervals.{Interval}
use Rattle.nf_core.specs.Sets.{IsSet}
use Rattle.nf_core.specs.declared.intervals.Delta.{Delta}
use Rattle.nf_core.specs.declared.terms.Link.{Link}
use Rattle.nf_core.specs.declared.terms.Link.TheVariants.{One, Pair, Unless}
use Rattle.nf_core.specs.declared.terms.PlanRule.{PlanRule}
use Rattle.nf_model.specs.Members.{HavePlaces, joined, clause_terms, result_terms}
use Rattle.nf_model.specs.Results.{is_met, built, built_by, built_from, of_one, results, results_by}
use Rattle.nf_model.specs.Work.{clauses, rule_work}
use Rattle.nf_model.proofs.Public.WorkLemmas.{work_of_one}
use Rattle.nf_pairs.specs.Deltas.{IsDelta, before}
use Rattle.nf_pairs.specs.inner.Walks.{kept}
use Rattle.nf_pairs.proofs.Public.DeltaLemmas.{sum_now, sum_before, differing_is}
use Rattle.nf_tally.specs.Numbers.{often}
use Rattle.nf_tally.proofs.Public.OftenLemmas.{often-filter_map}
use Rattle.nf_join.specs.inner.Exchanges.{AreExchanged, gives, sides_before, sides_now}
use Rattle.nf_join.proofs.MadeLemmas.{result_read}

joined_none : (link : Link) → joined link None ≡ None
joined_none One = refl
joined_none (Pair op n) = refl
joined_none (Unless xop n) = refl

pub one_read : (rule : PlanRule) (i : Interval) → HavePlaces (clause_terms rule) i None → HavePlaces (result_terms rule) i (joined rule.link None)
one_read rule i places = subst (λ (second : Option Interval). HavePlaces (result_terms rule) i second) (sym (joined_none rule.link)) (result_read rule i None places)

pub one_met : (rule : PlanRule) (i : Interval) → rule.link ≡ One → is_met rule i None ≡ true → of_one rule i ≡ built_from rule i None
unfolding of_one built_by
one_met rule i one met = ap (λ b. cond b (built rule i.start i.stop i None) None) met ∙ ap (λ (l : Link). built_by rule l i None) (sym one)

pub one_unmet : (rule : PlanRule) (i : Interval) → is_met rule i None ≡ false → of_one rule i ≡ None
unfolding of_one
one_unmet rule i unmet = ap (λ b. cond b (built rule i.start i.stop i None) None) unmet

-- a sum of one number
sum_alone : (k : ℕ) (is : List Interval) → sum_by (λ (i : Interval). k) is ≡ length is * k
sum_alone k [] = omega arith
sum_alone k (x ∷ xs) = let step = sum_by-cons (λ (i : Interval). k) x xs in let rest = sum_alone k xs in omega arith

module _ (rule : PlanRule) (one : rule.link ≡ One) (firsts : List Interval) (d1 : Delta) (set : IsSet firsts) (is : IsDelta firsts d1) where
  -- how often the results have an interval
  results_of_one : (is seconds : List Interval) (q : Interval) → often (results rule is seconds) q ≡ sum_by (gives rule q) is
  results_of_one is seconds q = ap (λ (l : Link). often (results_by rule l is seconds) q) one ∙ often-filter_map (of_one rule) is q

  pub exchanged_ones : (lost found gone come : List Interval) → gone ≡ d1.gone → come ≡ d1.come
      → ((q : Interval) → often lost q ≡ sum_by (gives rule q) gone) → ((q : Interval) → often found q ≡ sum_by (gives rule q) come)
      → (seconds : List Interval) (d2 : Delta) → AreExchanged rule firsts seconds d1 d2 lost found
  exchanged_ones lost found gone come e f left arrived seconds d2 = record {
    stayed = λ q. sum_by (gives rule q) (kept d1 firsts);
    was = λ q. results_of_one (before d1 firsts) (before d2 seconds) q ∙ sum_before firsts d1 set is (gives rule q)
        ∙ ap (λ n. sum_by (gives rule q) (kept d1 firsts) + n) (sym (left q ∙ ap (sum_by (gives rule q)) e));
    is = λ q. results_of_one firsts seconds q ∙ sum_now firsts d1 set is (gives rule q)
        ∙ ap (λ n. sum_by (gives rule q) (kept d1 firsts) + n) (sym (arrived q ∙ ap (sum_by (gives rule q)) f));
  }

  -- the work is that of what went and came
  pub work_of_ones : (gone come : List Interval) → gone ≡ d1.gone → come ≡ d1.come → (seconds : List Interval) (d2 : Delta)
      → rule_work rule (sides_before firsts seconds d1 d2) (sides_now firsts seconds) ≡ sum_by (λ (i : Interval). clauses rule) gone + sum_by (λ (i : Interval). clauses rule) come
  work_of_ones gone come e f seconds d2 =
      work_of_one rule (sides_before firsts seconds d1 d2) (sides_now firsts seconds) one
      ∙ ap (λ n. n * clauses rule) (differing_is firsts d1 set is) ∙ add-mul (length d1.gone) (length d1.come) (clauses rule)
      ∙ (λ k. sym (sum_alone (clauses rule) d1.gone) k + sym (sum_alone (clauses rule) d1.come) k)
      ∙ (λ k. sum_by (λ (i : Interval). clauses rule) (sym e k) + sum_by (λ (i : Interval). clauses rule) (sym f k))
