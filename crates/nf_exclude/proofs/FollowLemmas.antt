-- The lists of two deltas as slices, and what holds of them.
use Rattle.std.proofs.Common.{◌≡◌, ℕ, ◌+◌, ◌≤◌, true, List, ◌++◌, All, Some, None, option_to_list, sum_by, sym, ap, ◌∙◌, subst}
use Rattle.nf_core.specs.Intervals.{Interval}
use Rattle.nf_core.specs.Sets.{IsSet, has}
use Rattle.nf_core.specs.declared.intervals.Delta.{Delta}
use Rattle.nf_core.specs.declared.terms.PlanRule.{PlanRule}
use Rattle.nf_model.specs.Changes.{lacking}
use Rattle.nf_model.specs.Members.{HavePlaces, HaveAllPlaces, result_terms}
use Rattle.nf_model.specs.Work.{values, rule_work}
use Rattle.nf_pairs.specs.Deltas.{IsDelta, before}
use Rattle.nf_pairs.specs.inner.Walks.{second_sum}
use Rattle.nf_exclude.specs.Exclusions.{IsExclusive, sides}
use Rattle.nf_exclude.specs.inner.Turns.{asked}
use Rattle.nf_exclude.proofs.PlaceLemmas.{places_now, places_gone, places_come, pairs_gone, pairs_come, pairs_of_come}
use Rattle.nf_exclude.proofs.BalanceLemmas.{Move, move_of}
use Rattle.nf_exclude.proofs.CostLemmas.{within_work}

-- two lists, their deltas, and the deltas' lists
pub record Slices (firsts seconds : List Interval) (d1 d2 : Delta) (gone1 come1 gone2 come2 : List Interval) : Type 0 where
  pub set1 : IsSet firsts
  pub set2 : IsSet seconds
  pub is1 : IsDelta firsts d1
  pub is2 : IsDelta seconds d2
  pub g1 : gone1 ≡ d1.gone
  pub c1 : come1 ≡ d1.come
  pub g2 : gone2 ≡ d2.gone
  pub c2 : come2 ≡ d2.come

-- what is built and asked, over some lists of two deltas
abbrev pub spent : PlanRule → (firsts seconds gone1 come1 gone2 come2 : List Interval) → ℕ
spent rule firsts seconds gone1 come1 gone2 come2 =
    sum_by (λ (i : Interval). values rule) gone1 + second_sum (asked rule) come1 firsts gone2 + second_sum (asked rule) come1 firsts come2
    + sum_by (λ i. sum_by (asked rule i) seconds) come1 + sum_by (λ (i : Interval). values rule) come1

module _ {firsts seconds : List Interval} {d1 d2 : Delta} {gone1 come1 gone2 come2 : List Interval} (s : Slices firsts seconds d1 d2 gone1 come1 gone2 come2) where
  pub move1 : Move (before d1 firsts) firsts gone1 come1 (lacking firsts come1)
  move1 =
      subst (λ (is : List Interval). Move (before d1 firsts) firsts gone1 is (lacking firsts is)) (sym s.c1)
      (subst (λ (is : List Interval). Move (before d1 firsts) firsts is d1.come (lacking firsts d1.come)) (sym s.g1) (move_of firsts d1 s.set1 s.is1))

  pub move2 : Move (before d2 seconds) seconds gone2 come2 (lacking seconds come2)
  move2 =
      subst (λ (is : List Interval). Move (before d2 seconds) seconds gone2 is (lacking seconds is)) (sym s.c2)
      (subst (λ (is : List Interval). Move (before d2 seconds) seconds is d2.come (lacking seconds d2.come)) (sym s.g2) (move_of seconds d2 s.set2 s.is2))

  pub come_set : IsSet come1
  come_set = subst IsSet (sym s.c1) s.is1.come_set

  come_there1 : (q : Interval) → has come1 q ≡ true → has firsts q ≡ true
  come_there1 q h = s.is1.come_there q (ap (λ (is : List Interval). has is q) (sym s.c1) ∙ h)

  come_there2 : (q : Interval) → has come2 q ≡ true → has seconds q ≡ true
  come_there2 q h = s.is2.come_there q (ap (λ (is : List Interval). has is q) (sym s.c2) ∙ h)

  module _ (rule : PlanRule) (e : IsExclusive rule.link) where
    -- all that is built and asked is within the rule's work
    pub within : spent rule firsts seconds gone1 come1 gone2 come2 ≤ rule_work rule (sides (before d1 firsts) (before d2 seconds)) (sides firsts seconds)
    within =
        let most : ℕ = rule_work rule (sides (before d1 firsts) (before d2 seconds)) (sides firsts seconds) in
        subst (λ (is : List Interval). spent rule firsts seconds is come1 gone2 come2 ≤ most) (sym s.g1)
        (subst (λ (is : List Interval). spent rule firsts seconds d1.gone is gone2 come2 ≤ most) (sym s.c1)
        (subst (λ (is : List Interval). spent rule firsts seconds d1.gone d1.come is come2 ≤ most) (sym s.g2)
        (subst (λ (is : List Interval). spent rule firsts seconds d1.gone d1.come d2.gone is ≤ most) (sym s.c2)
        (within_work rule firsts seconds d1 d2 e s.set1 s.set2 s.is1 s.is2))))

    module _ (places : HaveAllPlaces rule rule.link (firsts ++ d1.gone) (seconds ++ d2.gone)) where
      pub now_places : All (λ i. HavePlaces (result_terms rule) i None) firsts
      now_places = places_now rule firsts seconds d1.gone d2.gone e places

      pub gone_places : All (λ i. HavePlaces (result_terms rule) i None) gone1
      gone_places = subst (λ (is : List Interval). All (λ i. HavePlaces (result_terms rule) i None) is) (sym s.g1) (places_gone rule firsts seconds d1.gone d2.gone e places)

      pub come_places : All (λ i. HavePlaces (result_terms rule) i None) come1
      come_places = places_come rule firsts seconds d1.gone d2.gone e places come1 come_there1

      pub gone_pairs : All (λ j. All (λ i. HavePlaces (option_to_list rule.filter) i (Some j)) firsts) gone2
      gone_pairs =
          subst (λ (is : List Interval). All (λ j. All (λ i. HavePlaces (option_to_list rule.filter) i (Some j)) firsts) is) (sym s.g2)
          (pairs_gone rule firsts seconds d1.gone d2.gone e places)

      pub come_pairs : All (λ j. All (λ i. HavePlaces (option_to_list rule.filter) i (Some j)) firsts) come2
      come_pairs = pairs_come rule firsts seconds d1.gone d2.gone e places come2 come_there2

      pub new_pairs : All (λ i. All (λ j. HavePlaces (option_to_list rule.filter) i (Some j)) seconds) come1
      new_pairs = pairs_of_come rule firsts seconds d1.gone d2.gone e places come1 come_there1
