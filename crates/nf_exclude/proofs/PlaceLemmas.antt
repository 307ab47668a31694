-- That the rows of what is walked have every place that an exclusive rule reads.
use Rattle.std.proofs.Common.{◌≡◌, Bool, true, false, ◌||◌, List, ◌++◌, All, Some, None, option_to_list, ap, ◌∙◌, refl}
use Rattle.std.proofs.lemmas.List.Elements.{All-weaker}
use Rattle.nf_core.specs.Intervals.{Interval}
use Rattle.nf_core.specs.Sets.{has}
use Rattle.nf_core.specs.declared.terms.Link.{Link}
use Rattle.nf_core.specs.declared.terms.Link.TheVariants.{One, Pair, Unless}
use Rattle.nf_core.specs.declared.terms.PlanRule.{PlanRule}
use Rattle.nf_core.proofs.Public.SetLemmas.{has_append}
use Rattle.nf_model.specs.Members.{HavePlaces, HaveAllPlaces, result_terms}
use Rattle.nf_exclude.specs.Exclusions.{IsExclusive}
use Rattle.nf_exclude.proofs.SumLemmas.{All-has}
use Rattle.nf_exclude.proofs.PairLemmas.{members}

-- what holds of each member holds of all items
pub All-from_has : (P : Interval → Type 0) (is : List Interval) → ((q : Interval) → has is q ≡ true → P q) → All P is
All-from_has P is h = All-weaker (λ i. has is i ≡ true) P h is (members is)

or_first : (a b : Bool) → a ≡ true → (a || b) ≡ true
or_first a b e = ap (λ c. c || b) e

or_second : (a b : Bool) → b ≡ true → (a || b) ≡ true
or_second true b e = refl
or_second false b e = e

-- the places of the pairs, and those of the first ones, by the link
by_link : (rule : PlanRule) (link : Link) (firsts seconds : List Interval) → IsExclusive link → HaveAllPlaces rule link firsts seconds
    → All (λ i. All (λ j. HavePlaces (option_to_list rule.filter) i (Some j)) seconds) firsts × All (λ i. HavePlaces (result_terms rule) i None) firsts
by_link rule One firsts seconds e places = absurd e
by_link rule (Pair op n) firsts seconds e places = absurd e
by_link rule (Unless xop n) firsts seconds e places = places

module _ (rule : PlanRule) (firsts seconds gone1 gone2 : List Interval) (e : IsExclusive rule.link) (places : HaveAllPlaces rule rule.link (firsts ++ gone1) (seconds ++ gone2)) where
  -- of a pair
  pair_at : (i j : Interval) → has (firsts ++ gone1) i ≡ true → has (seconds ++ gone2) j ≡ true → HavePlaces (option_to_list rule.filter) i (Some j)
  pair_at i j first second =
      All-has (λ j. HavePlaces (option_to_list rule.filter) i (Some j)) (seconds ++ gone2) j
      (All-has (λ i. All (λ j. HavePlaces (option_to_list rule.filter) i (Some j)) (seconds ++ gone2)) (firsts ++ gone1) i (by_link rule rule.link (firsts ++ gone1) (seconds ++ gone2) e places).0 first) second

  in_firsts : (q : Interval) → has firsts q ≡ true → has (firsts ++ gone1) q ≡ true
  in_firsts q h = has_append firsts gone1 q ∙ or_first (has firsts q) (has gone1 q) h

  in_gone1 : (q : Interval) → has gone1 q ≡ true → has (firsts ++ gone1) q ≡ true
  in_gone1 q h = has_append firsts gone1 q ∙ or_second (has firsts q) (has gone1 q) h

  in_seconds : (q : Interval) → has seconds q ≡ true → has (seconds ++ gone2) q ≡ true
  in_seconds q h = has_append seconds gone2 q ∙ or_first (has seconds q) (has gone2 q) h

  in_gone2 : (q : Interval) → has gone2 q ≡ true → has (seconds ++ gone2) q ≡ true
  in_gone2 q h = has_append seconds gone2 q ∙ or_second (has seconds q) (has gone2 q) h

  -- of the first ones that are there, and of those that went
  pub places_now : All (λ i. HavePlaces (result_terms rule) i None) firsts
  places_now =
      All-from_has (λ i. HavePlaces (result_terms rule) i None) firsts
      (λ q h. All-has (λ i. HavePlaces (result_terms rule) i None) (firsts ++ gone1) q (by_link rule rule.link (firsts ++ gone1) (seconds ++ gone2) e places).1 (in_firsts q h))

  pub places_gone : All (λ i. HavePlaces (result_terms rule) i None) gone1
  places_gone =
      All-from_has (λ i. HavePlaces (result_terms rule) i None) gone1
      (λ q h. All-has (λ i. HavePlaces (result_terms rule) i None) (firsts ++ gone1) q (by_link rule rule.link (firsts ++ gone1) (seconds ++ gone2) e places).1 (in_gone1 q h))

  -- and of some of those that are there
  pub places_come : (come : List Interval) → ((q : Interval) → has come q ≡ true → has firsts q ≡ true) → All (λ i. HavePlaces (result_terms rule) i None) come
  places_come come there = All-from_has (λ i. HavePlaces (result_terms rule) i None) come (λ q h. All-has (λ i. HavePlaces (result_terms rule) i None) firsts q places_now (there q h))

  -- of the first ones with the second ones that went, and with some of those that are there
  pub pairs_gone : All (λ j. All (λ i. HavePlaces (option_to_list rule.filter) i (Some j)) firsts) gone2
  pairs_gone =
      All-from_has (λ j. All (λ i. HavePlaces (option_to_list rule.filter) i (Some j)) firsts) gone2
      (λ j k. All-from_has (λ i. HavePlaces (option_to_list rule.filter) i (Some j)) firsts (λ i h. pair_at i j (in_firsts i h) (in_gone2 j k)))

  pub pairs_come : (come : List Interval) → ((q : Interval) → has come q ≡ true → has seconds q ≡ true) → All (λ j. All (λ i. HavePlaces (option_to_list rule.filter) i (Some j)) firsts) come
  pairs_come come there =
      All-from_has (λ j. All (λ i. HavePlaces (option_to_list rule.filter) i (Some j)) firsts) come
      (λ j k. All-from_has (λ i. HavePlaces (option_to_list rule.filter) i (Some j)) firsts (λ i h. pair_at i j (in_firsts i h) (in_seconds j (there j k))))

  -- of some of the first ones that are there with the second ones
  pub pairs_of_come : (come : List Interval) → ((q : Interval) → has come q ≡ true → has firsts q ≡ true) → All (λ i. All (λ j. HavePlaces (option_to_list rule.filter) i (Some j)) seconds) come
  pairs_of_come come there =
      All-from_has (λ i. All (λ j. HavePlaces (option_to_list rule.filter) i (Some j)) seconds) come
      (λ i h. All-from_has (λ j. HavePlaces (option_to_list rule.filter) i (Some j)) seconds (λ j k. pair_at i j (in_firsts i (there i h)) (in_seconds j k)))
