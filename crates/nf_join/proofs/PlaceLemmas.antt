-- The rows of the pairs that deltas touch have what is read.
use Rattle.std.proofs.Common.{◌≡◌, Bool, true, false, ◌||◌, List, [], ◌∷◌, ◌++◌, All, Some, None, refl, ap, sym, subst, ◌∙◌, true≢false}
use Rattle.std.proofs.lemmas.List.Elements.{All-nil, All-cons, All-head, All-tail}
use Rattle.nf_core.specs.Intervals.{Interval, same}
use Rattle.nf_core.specs.Sets.{has}
use Rattle.nf_core.specs.declared.intervals.Delta.{Delta}
use Rattle.nf_core.specs.declared.terms.PlanRule.{PlanRule}
use Rattle.nf_core.proofs.Public.SameIntervalLemmas.{same_is, same_self}
use Rattle.nf_core.proofs.Public.SetLemmas.{has_append}
use Rattle.nf_model.specs.Members.{HavePlaces, clause_terms}
use Rattle.nf_pairs.specs.Deltas.{IsDelta}
use Rattle.nf_join.specs.inner.Made.{ArePairsWithPlaces}
use Rattle.nf_join.specs.inner.Exchanges.{AreOnesWithPlaces}

or_true : (a b : Bool) → b ≡ true → (a || b) ≡ true
or_true true b h = refl
or_true false b h = h

-- what holds of each interval that a list has holds of its members
pub All-from_has : (P : Interval → Type 0) (is : List Interval) → ((q : Interval) → has is q ≡ true → P q) → All P is
All-from_has P [] h = All-nil P
All-from_has P (x ∷ xs) h =
    All-cons P x xs (h x (ap (λ b. b || has xs x) (same_self x))) (All-from_has P xs (λ q there. h q (or_true (same q x) (has xs q) there)))

pub All-has : (P : Interval → Type 0) (is : List Interval) → All P is → (q : Interval) → has is q ≡ true → P q
All-has P [] all q there = absurd (true≢false (sym there))
All-has P (x ∷ xs) all q there = by (same q x) refl (All-has P xs (All-tail P x xs all) q)
  where
    by : (b : Bool) → same q x ≡ b → (has xs q ≡ true → P q) → P q
    by true e rest = subst P (sym (same_is q x e)) (All-head P x xs all)
    by false e rest = rest (sym (ap (λ b. b || has xs q) e) ∙ there)

left_there : (is js : List Interval) (q : Interval) → has is q ≡ true → has (is ++ js) q ≡ true
left_there is js q h = has_append is js q ∙ ap (λ b. b || has js q) h

right_there : (is js : List Interval) (q : Interval) → has js q ≡ true → has (is ++ js) q ≡ true
right_there is js q h = has_append is js q ∙ or_true (has is q) (has js q) h

along : (is js : List Interval) → is ≡ js → (q : Interval) → has is q ≡ true → has js q ≡ true
along is js e q h = sym (ap (λ (ks : List Interval). has ks q) e) ∙ h

-- ---- pairs
module _ (rule : PlanRule) where
  pairs_read : (is js : List Interval) → ((i j : Interval) → has is i ≡ true → has js j ≡ true → HavePlaces (clause_terms rule) i (Some j))
      → All (λ i. All (λ j. HavePlaces (clause_terms rule) i (Some j)) js) is
  pairs_read is js h =
      All-from_has (λ i. All (λ j. HavePlaces (clause_terms rule) i (Some j)) js) is
      (λ i there. All-from_has (λ j. HavePlaces (clause_terms rule) i (Some j)) js (λ j here. h i j there here))

  pairs_read_back : (is js : List Interval) → ((i j : Interval) → has is i ≡ true → has js j ≡ true → HavePlaces (clause_terms rule) i (Some j))
      → All (λ j. All (λ i. HavePlaces (clause_terms rule) i (Some j)) is) js
  pairs_read_back is js h =
      All-from_has (λ j. All (λ i. HavePlaces (clause_terms rule) i (Some j)) is) js
      (λ j here. All-from_has (λ i. HavePlaces (clause_terms rule) i (Some j)) is (λ i there. h i j there here))

module _ (rule : PlanRule) (firsts seconds : List Interval) (d1 d2 : Delta) (places : ArePairsWithPlaces rule firsts seconds d1 d2) where
  pub gone_stored : (ones : List Interval) → ones ≡ d1.gone → All (λ i. All (λ j. HavePlaces (clause_terms rule) i (Some j)) seconds) ones
  gone_stored ones e =
      pairs_read rule ones seconds (λ i j there here. places i j (right_there firsts d1.gone i (along ones d1.gone e i there)) (left_there seconds d2.gone j here))

  pub gone_gone : (ones others : List Interval) → ones ≡ d1.gone → others ≡ d2.gone → All (λ i. All (λ j. HavePlaces (clause_terms rule) i (Some j)) others) ones
  gone_gone ones others e f =
      pairs_read rule ones others
      (λ i j there here. places i j (right_there firsts d1.gone i (along ones d1.gone e i there)) (right_there seconds d2.gone j (along others d2.gone f j here)))

  pub stored_gone : (others : List Interval) → others ≡ d2.gone → All (λ j. All (λ i. HavePlaces (clause_terms rule) i (Some j)) firsts) others
  stored_gone others f =
      pairs_read_back rule firsts others (λ i j there here. places i j (left_there firsts d1.gone i there) (right_there seconds d2.gone j (along others d2.gone f j here)))

  pub come_stored : IsDelta firsts d1 → (ones : List Interval) → ones ≡ d1.come → All (λ i. All (λ j. HavePlaces (clause_terms rule) i (Some j)) seconds) ones
  come_stored is ones e =
      pairs_read rule ones seconds (λ i j there here. places i j (left_there firsts d1.gone i (is.come_there i (along ones d1.come e i there))) (left_there seconds d2.gone j here))

  pub stored_come : IsDelta seconds d2 → (others : List Interval) → others ≡ d2.come → All (λ j. All (λ i. HavePlaces (clause_terms rule) i (Some j)) firsts) others
  stored_come is others f =
      pairs_read_back rule firsts others
      (λ i j there here. places i j (left_there firsts d1.gone i there) (left_there seconds d2.gone j (is.come_there j (along others d2.come f j here))))

-- the places of all pairs of two lists, by their members
pub pairs_with_places : (rule : PlanRule) (firsts seconds : List Interval) (d1 d2 : Delta)
    → All (λ i. All (λ j. HavePlaces (clause_terms rule) i (Some j)) (seconds ++ d2.gone)) (firsts ++ d1.gone) → ArePairsWithPlaces rule firsts seconds d1 d2
pairs_with_places rule firsts seconds d1 d2 all i j there here =
    All-has (λ j. HavePlaces (clause_terms rule) i (Some j)) (seconds ++ d2.gone)
    (All-has (λ i. All (λ j. HavePlaces (clause_terms rule) i (Some j)) (seconds ++ d2.gone)) (firsts ++ d1.gone) all i there) j here

-- ---- one atom
module _ (rule : PlanRule) (firsts : List Interval) (delta : Delta) (places : AreOnesWithPlaces rule firsts delta) where
  pub ones_gone : (ones : List Interval) → ones ≡ delta.gone → All (λ i. HavePlaces (clause_terms rule) i None) ones
  ones_gone ones e =
      All-from_has (λ i. HavePlaces (clause_terms rule) i None) ones
      (λ q h. All-has (λ i. HavePlaces (clause_terms rule) i None) (firsts ++ delta.gone) places q (right_there firsts delta.gone q (along ones delta.gone e q h)))

  pub ones_come : IsDelta firsts delta → (ones : List Interval) → ones ≡ delta.come → All (λ i. HavePlaces (clause_terms rule) i None) ones
  ones_come is ones e =
      All-from_has (λ i. HavePlaces (clause_terms rule) i None) ones
      (λ q h. All-has (λ i. HavePlaces (clause_terms rule) i None) (firsts ++ delta.gone) places q (left_there firsts delta.gone q (is.come_there q (along ones delta.come e q h))))
