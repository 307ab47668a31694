-- Sums over the partners of an interval, and what holds of each of them.
use Rattle.std.proofs.Common.{◌≡◌, ℕ, ◌≤◌, Bool, true, false, cond, ◌&&◌, List, filter, Some, All, sum_by, refl, sym, ◌∙◌, arith}
use Rattle.std.proofs.lemmas.List.Elements.{All-filter, filter_passes, All-weaker}
use Rattle.std.proofs.lemmas.List.Sorted.{All-permutation, sum_by-IsPermutation}
use Rattle.nf_core.specs.Intervals.{Interval}
use Rattle.nf_core.specs.declared.terms.PlanRule.{PlanRule}
use Rattle.nf_index.specs.declared.relations.Which.{Which}
use Rattle.nf_index.specs.declared.relations.Which.TheVariants.{First, Second}
use Rattle.nf_model.specs.Results.{is_met}
use Rattle.nf_pairs.specs.Partners.{ArePartners, is_related, paired}
use Rattle.nf_pairs.proofs.Public.SumLemmas.{sum_alike, sum_by-filter, sum_by-filter-le}

-- whether a pair is related and meets `where`
abbrev pub counts : PlanRule → Interval → Interval → Bool
counts rule i j = is_related rule.link i j && is_met rule i (Some j)

module _ (rule : PlanRule) (one : Interval) (all partners : List Interval) where
  both_counted : (a b c : Bool) → c ≡ false → (a ≡ true → b ≡ true → c ≡ true) → (a && b) ≡ false
  both_counted true true c e h = absurd (let k = h refl refl in cc)
  both_counted true false c e h = refl
  both_counted false b c e h = refl

  -- what isn't among the partners doesn't count
  uncounted : (which : Which) (are : ArePartners rule which one all partners) (j : Interval) → are.among j ≡ false → paired which (counts rule) one j ≡ false
  uncounted First are j e = both_counted (is_related rule.link j one) (is_met rule j (Some one)) (are.among j) e (are.complete j)
  uncounted Second are j e = both_counted (is_related rule.link one j) (is_met rule one (Some j)) (are.among j) e (are.complete j)

  module _ (which : Which) (are : ArePartners rule which one all partners) where
    -- a weight of the pairs that count alone sums over the partners to that over all
    pub partners_sum : (w : Interval → ℕ) → ((j : Interval) → paired which (counts rule) one j ≡ false → w j ≡ 0) → sum_by w partners ≡ sum_by w all
    partners_sum w none =
        sum_by-IsPermutation w (filter are.among all) partners are.each ∙ sum_by-filter are.among w all
        ∙ sum_alike (λ j. cond (are.among j) (w j) 0) w (λ j. by j (are.among j) refl) all
      where
        by : (j : Interval) (b : Bool) → are.among j ≡ b → cond b (w j) 0 ≡ w j
        by j true e = refl
        by j false e = sym (none j (uncounted which are j e))

    -- every weight sums to that over all at most
    pub partners_at_most : (w : Interval → ℕ) → sum_by w partners ≤ sum_by w all
    partners_at_most w =
        let is = sum_by-IsPermutation w (filter are.among all) partners are.each in
        let less = sum_by-filter-le are.among w all in
        omega arith

    -- each partner is related
    pub partners_related : All (λ j. paired which (is_related rule.link) one j ≡ true) partners
    partners_related =
        All-permutation (λ j. paired which (is_related rule.link) one j ≡ true) (filter are.among all) partners are.each
        (All-weaker (λ j. are.among j ≡ true) (λ j. paired which (is_related rule.link) one j ≡ true) (λ j h. are.related j h) (filter are.among all) (filter_passes are.among all))

    -- what holds of all holds of the partners
    pub partners_all : (P : Interval → Type 0) → All P all → All P partners
    partners_all P h = All-permutation P (filter are.among all) partners are.each (All-filter are.among P all h)
