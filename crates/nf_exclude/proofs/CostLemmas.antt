-- That what is asked and built is within a rule's work.
use Rattle.std.proofs.Common.{◌≡◌, ℕ, ◌+◌, ◌*◌, ◌≤◌, List, [], ◌∷◌, All, length, sum_by, ap, ◌∙◌, arith, add-mul}
use Rattle.std.proofs.lemmas.List.Sums.{sum_by-le}
use Rattle.std.proofs.lemmas.List.Elements.{All-nil, All-cons}
use Rattle.nf_core.specs.Intervals.{Interval}
use Rattle.nf_core.specs.Sets.{IsSet}
use Rattle.nf_core.specs.declared.intervals.Delta.{Delta}
use Rattle.nf_core.specs.declared.terms.PlanRule.{PlanRule}
use Rattle.nf_model.specs.Work.{Sides, differing, values, clauses, rule_work}
use Rattle.nf_model.proofs.Public.WorkLemmas.{weighed, touched_sum}
use Rattle.nf_pairs.specs.Deltas.{IsDelta, before}
use Rattle.nf_pairs.specs.inner.Walks.{lost_sum, found_sum, second_sum}
use Rattle.nf_pairs.proofs.Public.DeltaLemmas.{differing_is}
use Rattle.nf_pairs.proofs.Public.BalanceLemmas.{touched_is}
use Rattle.nf_exclude.specs.Exclusions.{IsExclusive}
use Rattle.nf_exclude.specs.inner.Turns.{faces_in, asked}
use Rattle.nf_exclude.proofs.RuleLemmas.{work_of_exclusive}

-- a number for each item
repeated : (k : ℕ) (is : List Interval) → sum_by (λ i. k) is ≤ length is * k
repeated k is = sum_by-le (λ i. k) k is (all is)
  where
    all : (xs : List Interval) → All (λ i. k ≤ k) xs
    all [] = All-nil (λ i. k ≤ k)
    all (x ∷ xs) = All-cons (λ i. k ≤ k) x xs (omega arith) (all xs)

-- what is built of those that went and of those that came, and what is asked of pairs
pub within_work : (rule : PlanRule) (firsts seconds : List Interval) (d1 d2 : Delta) → IsExclusive rule.link
    → IsSet firsts → IsSet seconds → IsDelta firsts d1 → IsDelta seconds d2
    → sum_by (λ i. values rule) d1.gone + second_sum (asked rule) d1.come firsts d2.gone + second_sum (asked rule) d1.come firsts d2.come
    + sum_by (λ i. sum_by (asked rule i) seconds) d1.come + sum_by (λ i. values rule) d1.come
    ≤ rule_work rule (record { firsts = before d1 firsts; seconds = before d2 seconds }) (record { firsts = firsts; seconds = seconds })
within_work rule firsts seconds d1 d2 e set1 set2 is1 is2 =
    let was : Sides = record { firsts = before d1 firsts; seconds = before d2 seconds } in
    let now : Sides = record { firsts = firsts; seconds = seconds } in
    let work : rule_work rule was now ≡ touched_sum (weighed (faces_in rule) (clauses rule)) was now + differing was.firsts now.firsts * values rule = work_of_exclusive rule was now e in
    let touched : touched_sum (weighed (faces_in rule) (clauses rule)) was now ≡ lost_sum (asked rule) firsts seconds d1 d2 + found_sum (asked rule) firsts seconds d1 d2 =
    touched_is firsts seconds d1 d2 set1 set2 is1 is2 (asked rule) in
    let ends : differing was.firsts now.firsts * values rule ≡ length d1.gone * values rule + length d1.come * values rule =
    ap (λ n. n * values rule) (differing_is firsts d1 set1 is1) ∙ add-mul (length d1.gone) (length d1.come) (values rule) in
    let went : sum_by (λ i. values rule) d1.gone ≤ length d1.gone * values rule = repeated (values rule) d1.gone in
    let came : sum_by (λ i. values rule) d1.come ≤ length d1.come * values rule = repeated (values rule) d1.come in
    omega (arith, work, touched, ends, went, came)
