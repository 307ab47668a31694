-- What the link of an exclusive rule says of its pairs, its results and its work.
use Rattle.std.proofs.Common.{◌≡◌, ℕ, ◌+◌, ◌*◌, Bool, true, false, cond, not, ◌&&◌, ◌==◌, List, Option, Some, None, option_to_list, count_by, refl, sym, ap, ◌∙◌}
use Rattle.std.specs.List.{list_any}
use Rattle.nf_lemmas.proofs.BoolLemmas.{both}
use Rattle.nf_core.specs.Intervals.{Interval, same}
use Rattle.nf_core.specs.declared.operators.Xop.{Xop}
use Rattle.nf_core.specs.declared.terms.Link.{Link}
use Rattle.nf_core.specs.declared.terms.Link.TheVariants.{One, Pair, Unless}
use Rattle.nf_core.specs.declared.terms.PlanRule.{PlanRule}
use Rattle.nf_model.specs.Results.{is_met, is_blocker, faces, built_by, of_unblocked, results_by, results}
use Rattle.nf_model.specs.Work.{Sides, differing, values, clauses, rule_work}
use Rattle.nf_model.proofs.Public.WorkLemmas.{touched_sum, weighed, work_of_unless}
use Rattle.nf_pairs.specs.Partners.{is_related}
use Rattle.nf_pairs.proofs.Public.SumLemmas.{sum_by_agree}
use Rattle.nf_tally.specs.Numbers.{often, is_on}
use Rattle.nf_tally.proofs.Public.OftenLemmas.{often-filter_map}
use Rattle.nf_exclude.specs.Exclusions.{IsExclusive, blocks_by, blocks_in, blockers_among}
use Rattle.nf_exclude.specs.inner.Turns.{itself_by, itself_in, faces_by, faces_in, worth, given}
use Rattle.nf_exclude.proofs.SumLemmas.{any_counted}

module _ (rule : PlanRule) where
  -- a blocker faces an interval, and the pair meets `where`
  pub blocks_is : (i j : Interval) → blocks_in rule i j ≡ (faces_in rule i j && is_met rule i (Some j))
  unfolding blocks_in faces_in is_blocker
  blocks_is i j = by rule.link
    where
      by : (link : Link) → blocks_by rule link i j ≡ (faces_by rule link i j && is_met rule i (Some j))
      by One = refl
      by (Pair op n) = refl
      by (Unless xop n) = refl

  -- what is related faces an interval unless it is that interval
  pub faces_is : (i j : Interval) → IsExclusive rule.link → faces_in rule i j ≡ (is_related rule.link i j && not (itself_in rule i j))
  unfolding faces_in itself_in faces
  faces_is i j = by rule.link
    where
      by : (link : Link) → IsExclusive link → faces_by rule link i j ≡ (is_related link i j && not (itself_by rule link i j))
      by One e = refl
      by (Pair op n) e = absurd e
      by (Unless xop n) e = refl

  -- whether two intervals are one, by the link
  pub itself_is : (xop : Xop) (n : ℕ) (i j : Interval) → rule.link ≡ Unless xop n → itself_in rule i j ≡ ((rule.first == n) && same i j)
  unfolding itself_in
  itself_is xop n i j is = ap (λ (link : Link). itself_by rule link i j) is

  pub never_itself : (i j : Interval) → ((xop : Xop) (n : ℕ) → rule.link ≡ Unless xop n → ⊥) → itself_in rule i j ≡ false
  unfolding itself_in
  never_itself i j other = by rule.link other
    where
      by : (link : Link) → ((xop : Xop) (n : ℕ) → link ≡ Unless xop n → ⊥) → itself_by rule link i j ≡ false
      by One e = refl
      by (Pair op n) e = refl
      by (Unless xop n) e = absurd (e xop n refl)

  -- an interval doesn't block itself
  pub itself_no_blocker : (i j : Interval) → IsExclusive rule.link → itself_in rule i j ≡ true → blocks_in rule i j ≡ false
  itself_no_blocker i j e own =
      blocks_is i j ∙ ap (λ b. b && is_met rule i (Some j)) (faces_is i j e ∙ ap (λ b. is_related rule.link i j && not b) own ∙ and_false (is_related rule.link i j))
    where
      and_false : (b : Bool) → (b && false) ≡ false
      and_false true = refl
      and_false false = refl

  -- another one that is related faces it, and blocks it where `where` is met
  pub related_faces : (i j : Interval) → IsExclusive rule.link → is_related rule.link i j ≡ true → itself_in rule i j ≡ false → faces_in rule i j ≡ true
  related_faces i j e related other = faces_is i j e ∙ ap (λ b. b && not (itself_in rule i j)) related ∙ ap not other

  pub related_blocks : (i j : Interval) → IsExclusive rule.link → is_related rule.link i j ≡ true → itself_in rule i j ≡ false → blocks_in rule i j ≡ is_met rule i (Some j)
  related_blocks i j e related other = blocks_is i j ∙ ap (λ b. b && is_met rule i (Some j)) (related_faces i j e related other)

  -- a blocker faces
  pub blocker_faces : (i j : Interval) → blocks_in rule i j ≡ true → faces_in rule i j ≡ true
  blocker_faces i j blocks = (both (faces_in rule i j) (is_met rule i (Some j)) (sym (blocks_is i j) ∙ blocks)).0

  -- a blocker counts among the partners
  pub blocker_counts : (i j : Interval) → IsExclusive rule.link → blocks_in rule i j ≡ true → (is_related rule.link i j && is_met rule i (Some j)) ≡ true
  blocker_counts i j e blocks =
      let parts = both (faces_in rule i j) (is_met rule i (Some j)) (sym (blocks_is i j) ∙ blocks) in
      let related = (both (is_related rule.link i j) (not (itself_in rule i j)) (sym (faces_is i j e) ∙ parts.0)).0 in
      ap (λ b. b && is_met rule i (Some j)) related ∙ parts.1

  -- what an exclusive rule gives from an interval, by the number of blockers
  gives_one : (xop : Xop) (n : ℕ) (B : List Interval) → rule.link ≡ Unless xop n → (q i : Interval)
      → often (option_to_list (of_unblocked rule xop (rule.first == n) B i)) q ≡ worth rule (λ i. count_by (is_blocker rule xop (rule.first == n) i) B) q i
  unfolding worth of_unblocked built_by
  gives_one xop n B is q i =
      choice (list_any (is_blocker rule xop (rule.first == n) i) B) (built_by rule (Unless xop n) i None)
      ∙ ap (λ b. cond b 0 (often (option_to_list (built_by rule (Unless xop n) i None)) q)) (any_counted (is_blocker rule xop (rule.first == n) i) B)
      ∙ ap (λ (link : Link). cond (is_on (count_by (is_blocker rule xop (rule.first == n) i) B)) 0 (often (option_to_list (built_by rule link i None)) q)) (sym is)
    where
      choice : (b : Bool) (r : Option Interval) → often (option_to_list (cond b None r)) q ≡ cond b 0 (often (option_to_list r) q)
      choice true r = refl
      choice false r = refl

  -- how often an interval is a result
  gives : (link : Link) (B : List Interval) → rule.link ≡ link → IsExclusive link → (q : Interval) (A : List Interval)
      → often (results_by rule link A B) q ≡ given rule (λ i. count_by (blocks_by rule link i) B) A q
  gives One B is e q A = absurd e
  gives (Pair op n) B is e q A = absurd e
  gives (Unless xop n) B is e q A =
      often-filter_map (of_unblocked rule xop (rule.first == n) B) A q
      ∙ sum_by_agree (λ i. often (option_to_list (of_unblocked rule xop (rule.first == n) B i)) q)
      (worth rule (λ i. count_by (is_blocker rule xop (rule.first == n) i) B) q) A (λ i there. gives_one xop n B is q i)

  pub results_given : (A B : List Interval) (q : Interval) → IsExclusive rule.link → often (results rule A B) q ≡ given rule (blockers_among rule B) A q
  unfolding blocks_in
  results_given A B q e = gives rule.link B refl e q A

  -- the pairs that face, each times all clauses, and each first interval that is in exactly one of the two lists, times those that make a result
  work_by : (link : Link) (before now : Sides) → rule.link ≡ link → IsExclusive link
      → rule_work rule before now ≡ touched_sum (weighed (faces_by rule link) (clauses rule)) before now + differing before.firsts now.firsts * values rule
  work_by One before now is e = absurd e
  work_by (Pair op n) before now is e = absurd e
  work_by (Unless xop n) before now is e = work_of_unless rule before now xop n is

  pub work_of_exclusive : (before now : Sides) → IsExclusive rule.link
      → rule_work rule before now ≡ touched_sum (weighed (faces_in rule) (clauses rule)) before now + differing before.firsts now.firsts * values rule
  unfolding faces_in
  work_of_exclusive before now e = work_by rule.link before now refl e
