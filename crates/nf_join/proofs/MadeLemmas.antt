-- What pairs make.
use Rattle.std.proofs.Common.{◌≡◌, ℕ, Bool, true, false, cond, ◌&&◌, List, [], ◌∷◌, ◌++◌, Option, None, Some, option_to_list, All, IsTrue, refl, ap, sym, ◌∙◌, subst}
use Rattle.std.proofs.lemmas.List.Elements.{All-nil, All-cons, All-head, All-tail}
use Rattle.nf_core.specs.Intervals.{Interval}
use Rattle.nf_core.specs.declared.terms.Term.{Term}
use Rattle.nf_core.specs.declared.terms.Link.{Link}
use Rattle.nf_core.specs.declared.terms.Link.TheVariants.{One, Pair, Unless}
use Rattle.nf_core.specs.declared.terms.PlanRule.{PlanRule}
use Rattle.nf_core.specs.Expressions.{reads_within, widths_of}
use Rattle.nf_model.specs.Members.{HavePlaces, joined, clause_terms, result_terms}
use Rattle.nf_model.specs.Results.{is_met, built_from}
use Rattle.nf_core.specs.Sets.{has}
use Rattle.nf_index.specs.declared.relations.Which.{Which}
use Rattle.nf_index.specs.declared.relations.Which.TheVariants.{First, Second}
use Rattle.nf_pairs.specs.Partners.{is_related, paired}
use Rattle.nf_pairs.specs.inner.Walks.{unskipped}
use Rattle.nf_pairs.proofs.Public.PartnerLemmas.{counts}
use Rattle.nf_tally.specs.Numbers.{often}
use Rattle.nf_join.specs.Joins.{IsInclusive}
use Rattle.nf_join.specs.inner.Made.{made, makes}

All-left : {X : Type 0} (P : X → Type 0) (xs ys : List X) → All P (xs ++ ys) → All P xs
All-left P [] ys h = All-nil P
All-left P (x ∷ xs) ys h = All-cons P x xs (All-head P x (xs ++ ys) h) (All-left P xs ys (All-tail P x (xs ++ ys) h))

All-right : {X : Type 0} (P : X → Type 0) (xs ys : List X) → All P (xs ++ ys) → All P ys
All-right P [] ys h = h
All-right P (x ∷ xs) ys h = All-right P xs ys (All-tail P x (xs ++ ys) h)

-- ---- the places that are read
pub filter_read : (rule : PlanRule) (i : Interval) (second : Option Interval) → HavePlaces (clause_terms rule) i second → HavePlaces (option_to_list rule.filter) i second
filter_read rule i second places = All-left (λ (term : Term). IsTrue (reads_within (widths_of i second) term)) (option_to_list rule.filter) (result_terms rule) places

pub result_read : (rule : PlanRule) (i : Interval) (second : Option Interval) → HavePlaces (clause_terms rule) i second → HavePlaces (result_terms rule) i second
result_read rule i second places = All-right (λ (term : Term). IsTrue (reads_within (widths_of i second) term)) (option_to_list rule.filter) (result_terms rule) places

-- the result of an inclusive rule reads both of a related pair
joined_is : (link : Link) (i j : Interval) → IsInclusive link → is_related link i j ≡ true → joined link (Some j) ≡ Some j
joined_is One i j inclusive related = absurd cc
joined_is (Pair op n) i j inclusive related = refl
joined_is (Unless xop n) i j inclusive related = absurd inclusive

pub joined_read : (rule : PlanRule) (i j : Interval) → IsInclusive rule.link → is_related rule.link i j ≡ true → HavePlaces (clause_terms rule) i (Some j) → HavePlaces (result_terms rule) i (joined rule.link (Some j))
joined_read rule i j inclusive related places =
    subst (λ (second : Option Interval). HavePlaces (result_terms rule) i second) (sym (joined_is rule.link i j inclusive related)) (result_read rule i (Some j) places)

-- ---- what is made
pub made_met : (rule : PlanRule) (i j : Interval) → is_related rule.link i j ≡ true → is_met rule i (Some j) ≡ true → made rule i j ≡ built_from rule i (Some j)
unfolding made
made_met rule i j related met = ap (λ b. cond (b && is_met rule i (Some j)) (built_from rule i (Some j)) None) related ∙ ap (λ b. cond b (built_from rule i (Some j)) None) met

pub made_uncounted : (rule : PlanRule) (i j : Interval) → (is_related rule.link i j && is_met rule i (Some j)) ≡ false → made rule i j ≡ None
unfolding made
made_uncounted rule i j none = ap (λ b. cond b (built_from rule i (Some j)) None) none

pub made_unmet : (rule : PlanRule) (i j : Interval) → is_met rule i (Some j) ≡ false → made rule i j ≡ None
made_unmet rule i j unmet = made_uncounted rule i j (ap (λ b. is_related rule.link i j && b) unmet ∙ none (is_related rule.link i j))
  where
    none : (b : Bool) → (b && false) ≡ false
    none true = refl
    none false = refl

pub made_unrelated : (rule : PlanRule) (i j : Interval) → is_related rule.link i j ≡ false → made rule i j ≡ None
made_unrelated rule i j apart = made_uncounted rule i j (ap (λ b. b && is_met rule i (Some j)) apart)

-- ---- how often a pair makes an interval
pub makes_uncounted : (rule : PlanRule) (q i j : Interval) → (is_related rule.link i j && is_met rule i (Some j)) ≡ false → makes rule q i j ≡ 0
makes_uncounted rule q i j none = ap (λ (o : Option Interval). often (option_to_list o) q) (made_uncounted rule i j none)

pub makes_unrelated : (rule : PlanRule) (q i j : Interval) → is_related rule.link i j ≡ false → makes rule q i j ≡ 0
makes_unrelated rule q i j apart = ap (λ (o : Option Interval). often (option_to_list o) q) (made_unrelated rule i j apart)

-- the weight of one pair with a stored interval that isn't skipped
pub first_pair : (w : Interval → Interval → ℕ) (skip : List Interval) (which : Which) (one stored : Interval) → which ≡ First → has skip stored ≡ false
    → unskipped skip (paired which w one) stored ≡ w stored one
first_pair w skip which one stored is absent = ap (λ b. cond b 0 (paired which w one stored)) absent ∙ ap (λ (v : Which). paired v w one stored) is

pub second_pair : (w : Interval → Interval → ℕ) (skip : List Interval) (which : Which) (one stored : Interval) → which ≡ Second → has skip stored ≡ false
    → unskipped skip (paired which w one) stored ≡ w one stored
second_pair w skip which one stored is absent = ap (λ b. cond b 0 (paired which w one stored)) absent ∙ ap (λ (v : Which). paired v w one stored) is

-- a pair that doesn't count makes nothing, whether skipped or not
pub unskipped_uncounted : (rule : PlanRule) (skip : List Interval) (which : Which) (one q j : Interval) → paired which (counts rule) one j ≡ false
    → unskipped skip (paired which (makes rule q) one) j ≡ 0
unskipped_uncounted rule skip which one q j none = ap (λ n. cond (has skip j) 0 n) (by which none) ∙ zero (has skip j)
  where
    by : (v : Which) → paired v (counts rule) one j ≡ false → ◌≡◌ {A = ℕ} (paired v (makes rule q) one j) 0
    by First e = makes_uncounted rule q j one e
    by Second e = makes_uncounted rule q one j e

    zero : (b : Bool) → ◌≡◌ {A = ℕ} (cond b 0 0) 0
    zero true = refl
    zero false = refl
