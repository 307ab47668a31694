-- Sums over rules by number: where they are equal, where they are no greater, and where one rule tells them apart.
use Rattle.std.proofs.Common.{◌≡◌, ◌≢◌, ℕ, zero, suc, ◌+◌, ◌<◌, ◌≤◌, List, [], ◌∷◌, slice_get, Some, sum_by, refl, ap, sym, subst, ◌∙◌, arith}
use Rattle.std.proofs.lemmas.List.Sums.{sum_by-cons}
use Rattle.nf_core.specs.declared.terms.PlanRule.{PlanRule}
use Rattle.nf_engine.specs.inner.Numbered.{sum_from, numbered_sum}

-- ---- from any number on
module _ (f g : ℕ → PlanRule → ℕ) where
  alike_from : (j : ℕ) (rules : List PlanRule) → ((k i : ℕ) (rule : PlanRule) → i ≡ j + k → slice_get rules k ≡ Some rule → f i rule ≡ g i rule)
      → sum_from f j rules ≡ sum_from g j rules
  alike_from j [] same = refl
  alike_from j (rule ∷ rules) same =
      let here : f j rule ≡ g j rule = same 0 j rule (omega arith) refl in
      let rest : sum_from f (suc j) rules ≡ sum_from g (suc j) rules = alike_from (suc j) rules (λ k i r e is. same (suc k) i r (omega (arith, e)) is) in
      cc

  at_most_from : (j : ℕ) (rules : List PlanRule) → ((k i : ℕ) (rule : PlanRule) → i ≡ j + k → slice_get rules k ≡ Some rule → f i rule ≤ g i rule)
      → sum_from f j rules ≤ sum_from g j rules
  at_most_from j [] less = omega arith
  at_most_from j (rule ∷ rules) less =
      let here : f j rule ≤ g j rule = less 0 j rule (omega arith) refl in
      let rest : sum_from f (suc j) rules ≤ sum_from g (suc j) rules = at_most_from (suc j) rules (λ k i r e is. less (suc k) i r (omega (arith, e)) is) in
      omega arith

  apart_from : (j : ℕ) (rules : List PlanRule) (n at : ℕ) (own : PlanRule) → at ≡ j + n → slice_get rules n ≡ Some own
      → ((k i : ℕ) (rule : PlanRule) → i ≡ j + k → slice_get rules k ≡ Some rule → k ≢ n → f i rule ≡ g i rule)
      → sum_from f j rules + g at own ≡ sum_from g j rules + f at own
  apart_from j [] n at own place is same = absurd cc
  apart_from j (rule ∷ rules) zero at own place is same =
      let first : rule ≡ own = cc in
      let here : at ≡ j = omega arith in
      let rest : sum_from f (suc j) rules ≡ sum_from g (suc j) rules =
      alike_from (suc j) rules (λ k i r e has. same (suc k) i r (omega (arith, e)) has (λ z. absurd (omega arith))) in
      let left : f j rule ≡ f at own = ap (f j) first ∙ ap (λ i. f i own) (sym here) in
      let right : g j rule ≡ g at own = ap (g j) first ∙ ap (λ i. g i own) (sym here) in
      omega arith
  apart_from j (rule ∷ rules) (suc n) at own place is same =
      let here : f j rule ≡ g j rule = same 0 j rule (omega arith) refl (λ z. absurd (omega arith)) in
      let rest : sum_from f (suc j) rules + g at own ≡ sum_from g (suc j) rules + f at own =
      apart_from (suc j) rules n at own (omega arith) is (λ k i r e has other. same (suc k) i r (omega (arith, e)) has (λ z. other (omega arith))) in
      omega arith

  -- ---- from 0 on
  pub numbered_alike : (rules : List PlanRule) → ((k : ℕ) (rule : PlanRule) → slice_get rules k ≡ Some rule → f k rule ≡ g k rule)
      → numbered_sum f rules ≡ numbered_sum g rules
  numbered_alike rules same = alike_from 0 rules (λ k i r e is. let at : k ≡ i = omega (arith, e) in subst (λ m. f m r ≡ g m r) at (same k r is))

  pub numbered_at_most : (rules : List PlanRule) → ((k : ℕ) (rule : PlanRule) → slice_get rules k ≡ Some rule → f k rule ≤ g k rule)
      → numbered_sum f rules ≤ numbered_sum g rules
  numbered_at_most rules less = at_most_from 0 rules (λ k i r e is. let at : k ≡ i = omega (arith, e) in subst (λ m. f m r ≤ g m r) at (less k r is))

  -- where one rule alone tells two sums apart, they differ by what it gives
  pub numbered_apart : (rules : List PlanRule) (n : ℕ) (own : PlanRule) → slice_get rules n ≡ Some own
      → ((k : ℕ) (rule : PlanRule) → slice_get rules k ≡ Some rule → k ≢ n → f k rule ≡ g k rule)
      → numbered_sum f rules + g n own ≡ numbered_sum g rules + f n own
  numbered_apart rules n own is same =
      apart_from 0 rules n n own (omega arith) is (λ k i r e has other. let at : k ≡ i = omega (arith, e) in subst (λ m. f m r ≡ g m r) at (same k r has other))

-- where one rule gives less, and none gives more
module _ (f g : ℕ → PlanRule → ℕ) where
  fewer_from : (j : ℕ) (rules : List PlanRule) (n at : ℕ) (own : PlanRule) → at ≡ j + n → slice_get rules n ≡ Some own → f at own < g at own
      → ((k i : ℕ) (rule : PlanRule) → i ≡ j + k → slice_get rules k ≡ Some rule → f i rule ≤ g i rule)
      → sum_from f j rules < sum_from g j rules
  fewer_from j [] n at own place is strict less = absurd cc
  fewer_from j (rule ∷ rules) zero at own place is strict less =
      let first : rule ≡ own = cc in
      let here : at ≡ j = omega arith in
      let rest : sum_from f (suc j) rules ≤ sum_from g (suc j) rules = at_most_from f g (suc j) rules (λ k i r e has. less (suc k) i r (omega (arith, e)) has) in
      let left : f j rule ≡ f at own = ap (f j) first ∙ ap (λ i. f i own) (sym here) in
      let right : g j rule ≡ g at own = ap (g j) first ∙ ap (λ i. g i own) (sym here) in
      omega arith
  fewer_from j (rule ∷ rules) (suc n) at own place is strict less =
      let here : f j rule ≤ g j rule = less 0 j rule (omega arith) refl in
      let rest : sum_from f (suc j) rules < sum_from g (suc j) rules =
      fewer_from (suc j) rules n at own (omega arith) is strict (λ k i r e has. less (suc k) i r (omega (arith, e)) has) in
      omega arith

  pub numbered_fewer : (rules : List PlanRule) (n : ℕ) (own : PlanRule) → slice_get rules n ≡ Some own → f n own < g n own
      → ((k : ℕ) (rule : PlanRule) → slice_get rules k ≡ Some rule → f k rule ≤ g k rule)
      → numbered_sum f rules < numbered_sum g rules
  numbered_fewer rules n own is strict less =
      fewer_from 0 rules n n own (omega arith) is strict (λ k i r e has. let at : k ≡ i = omega (arith, e) in subst (λ m. f m r ≤ g m r) at (less k r has))

-- one rule's part of a sum
one_from : (f : ℕ → PlanRule → ℕ) (j : ℕ) (rules : List PlanRule) (n at : ℕ) (own : PlanRule) → at ≡ j + n → slice_get rules n ≡ Some own → f at own ≤ sum_from f j rules
one_from f j [] n at own place is = absurd cc
one_from f j (rule ∷ rules) zero at own place is =
    let first : rule ≡ own = cc in
    let here : at ≡ j = omega arith in
    let part : f j rule ≡ f at own = ap (f j) first ∙ ap (λ i. f i own) (sym here) in
    omega arith
one_from f j (rule ∷ rules) (suc n) at own place is =
    let rest : f at own ≤ sum_from f (suc j) rules = one_from f (suc j) rules n at own (omega arith) is in
    omega arith

pub one_of_sum : (f : ℕ → PlanRule → ℕ) (rules : List PlanRule) (n : ℕ) (own : PlanRule) → slice_get rules n ≡ Some own → f n own ≤ numbered_sum f rules
one_of_sum f rules n own is = one_from f 0 rules n n own (omega arith) is

-- what doesn't ask the number is a plain sum
plain_from : (w : PlanRule → ℕ) (j : ℕ) (rules : List PlanRule) → sum_from (λ k rule. w rule) j rules ≡ sum_by w rules
plain_from w j [] = refl
plain_from w j (rule ∷ rules) = ap (λ n. w rule + n) (plain_from w (suc j) rules) ∙ sym (sum_by-cons w rule rules)

pub numbered_plain : (w : PlanRule → ℕ) (rules : List PlanRule) → numbered_sum (λ k rule. w rule) rules ≡ sum_by w rules
numbered_plain w rules = plain_from w 0 rules
