-- Numbers that are set or taken away one by one, over a list of which a part is left.
use Rattle.std.proofs.Common.{◌≡◌, ℕ, suc, ◌+◌, ◌<◌, ◌≤◌, Bool, true, false, cond, ◌&&◌, ◌||◌, List, ◌∷◌, Some, length, get_or, drop, refl, sym, ap, subst, ◌∙◌, true≢false, arith}
use Rattle.std.proofs.lemmas.List.{at_drop_all}
use Rattle.std.proofs.Math.Seq.{drop-cons}
use Rattle.nf_core.specs.Intervals.{Interval, same}
use Rattle.nf_core.specs.Sets.{IsSet, has}
use Rattle.nf_core.specs.declared.terms.PlanRule.{PlanRule}
use Rattle.nf_core.proofs.Public.SameIntervalLemmas.{same_is, same_swapped}
use Rattle.nf_core.proofs.Public.SetLemmas.{none_again}
use Rattle.nf_index.specs.declared.relations.Which.TheVariants.{Second}
use Rattle.nf_model.specs.Results.{is_met}
use Rattle.nf_pairs.specs.Partners.{ArePartners, is_related}
use Rattle.nf_pairs.proofs.Public.PartnerLemmas.{partners_sum}
use Rattle.nf_exclude.specs.Exclusions.{IsExclusive, blocks_in, blockers_among}
use Rattle.nf_exclude.specs.inner.Turns.{set_left}
use Rattle.nf_exclude.proofs.RuleLemmas.{blocker_counts}

-- an item, and what is left behind it
pub item_left : (xs : List Interval) (i : ℕ) (x : Interval) → i < length xs → x ≡ get_or xs i x → drop i xs ≡ x ∷ drop (i + 1) xs
item_left xs i x within is =
    let one : suc i ≡ i + 1 = omega arith in
    drop-cons xs i x within ∙ ap (λ n. get_or xs i x ∷ drop n xs) one ∙ ap (λ y. y ∷ drop (i + 1) xs) (sym is)

-- how many block, over the partners
pub blockers_over : (rule : PlanRule) (i : Interval) (all partners : List Interval) → IsExclusive rule.link → ArePartners rule Second i all partners
    → blockers_among rule partners i ≡ blockers_among rule all i
blockers_over rule i all partners e are =
    partners_sum rule i all partners Second are (λ j. cond (blocks_in rule i j) 1 0) (λ j out. uncounted j (blocks_in rule i j) refl out)
  where
    uncounted : (j : Interval) (b : Bool) → blocks_in rule i j ≡ b → (is_related rule.link i j && is_met rule i (Some j)) ≡ false → ◌≡◌ {A = ℕ} (cond (blocks_in rule i j) 1 0) 0
    uncounted j true blocks out = absurd (true≢false (sym (blocker_counts rule i j e blocks) ∙ out))
    uncounted j false blocks out = ap (λ b. cond b 1 0) blocks

module _ (f n m : Interval → ℕ) (left rest : List Interval) (x : Interval) (next : left ≡ x ∷ rest) where
  -- one number is set
  pub set_next : IsSet left → ((q : Interval) → m q ≡ cond (same x q) (f x) (n q)) → (q : Interval) → set_left f m rest q ≡ set_left f n left q
  set_next sorted written q =
      ap (λ k. cond (has rest q) (f q) k) (written q) ∙ by (same x q) refl ∙ sym (ap (λ (is : List Interval). cond (has is q) (f q) (n q)) next)
    where
      by : (b : Bool) → same x q ≡ b → cond (has rest q) (f q) (cond b (f x) (n q)) ≡ cond (same q x || has rest q) (f q) (n q)
      by true e =
          let one : x ≡ q = same_is x q e in
          let gone : has rest q ≡ false = ap (has rest) (sym one) ∙ none_again x rest (subst IsSet next sorted) in
          let here : same q x ≡ true = same_swapped q x ∙ e in
          ap (λ b. cond b (f q) (f x)) gone ∙ ap f one ∙ sym (ap (λ b. cond (b || has rest q) (f q) (n q)) here)
      by false e = sym (ap (λ b. cond (b || has rest q) (f q) (n q)) (same_swapped q x ∙ e))

  -- those that are left have none yet
  pub fresh_next : IsSet left → ((q : Interval) → m q ≡ cond (same x q) (f x) (n q)) → ((q : Interval) → has left q ≡ true → n q ≡ 0) → (q : Interval) → has rest q ≡ true → m q ≡ 0
  fresh_next sorted written fresh q there = written q ∙ by (same x q) refl
    where
      by : (b : Bool) → same x q ≡ b → cond b (f x) (n q) ≡ 0
      by true e = absurd (true≢false (sym there ∙ ap (has rest) (sym (same_is x q e)) ∙ none_again x rest (subst IsSet next sorted)))
      by false e = fresh q (ap (λ (is : List Interval). has is q) next ∙ ap (λ b. b || has rest q) (same_swapped q x ∙ e) ∙ there)

  -- one number is taken away
  pub clear_next : ((q : Interval) → m q ≡ cond (same x q) 0 (n q)) → (q : Interval) → set_left (λ p. 0) m rest q ≡ set_left (λ p. 0) n left q
  clear_next written q =
      ap (λ k. cond (has rest q) 0 k) (written q) ∙ by (same x q) refl ∙ sym (ap (λ (is : List Interval). cond (has is q) 0 (n q)) next)
    where
      nothing : (b : Bool) → ◌≡◌ {A = ℕ} (cond b 0 0) 0
      nothing true = refl
      nothing false = refl

      by : (b : Bool) → same x q ≡ b → cond (has rest q) 0 (cond b 0 (n q)) ≡ cond (same q x || has rest q) 0 (n q)
      by true e = nothing (has rest q) ∙ sym (ap (λ b. cond (b || has rest q) 0 (n q)) (same_swapped q x ∙ e))
      by false e = sym (ap (λ b. cond (b || has rest q) 0 (n q)) (same_swapped q x ∙ e))

-- nothing is left
pub set_done : (f n : Interval → ℕ) (xs : List Interval) (i : ℕ) → length xs ≤ i → (q : Interval) → set_left f n (drop i xs) q ≡ n q
set_done f n xs i past q = at_drop_all (λ (is : List Interval). cond (has is q) (f q) (n q)) xs i past
