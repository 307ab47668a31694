-- Which rules are due in a queue, and in which order.
use Rattle.std.proofs.Common.{◌≡◌, ◌≢◌, ℕ, ◌<◌, ◌≤◌, Bool, true, false, cond, ◌||◌, ◌==◌, nat_lt, List, [], ◌∷◌, length, slice_get, Option, None, Some, IfSome, IsSome, All, ◌⊎◌, refl, ap, sym, subst, ◌∙◌, inl, inr, arith, true≢false}
use Rattle.std.specs.declared.cmp.Ordering.TheVariants.{Less, Equal, Greater}
use Rattle.std.specs.Ordering.{ordering_then, nat_cmp}
use Rattle.std.specs.BTreeMap.Range.{IsLeBy, IsLtBy}
use Rattle.std.proofs.lemmas.Bool.{eq-eqb}
use Rattle.std.proofs.lemmas.Bool.Decides.{nat_tests, eqb_tells}
use Rattle.std.proofs.lemmas.List.Elements.{All-head, All-tail}
use Rattle.std.proofs.lemmas.Option.{slice_get_within}
use Rattle.nf_core.specs.Plan.{Plan, level_of}
use Rattle.nf_core.specs.declared.terms.PlanRule.{PlanRule}
use Rattle.nf_engine.specs.declared.queues.Due.{Due}
use Rattle.nf_engine.specs.inner.Queues.{rank, due_cmp, is_due, IsPopped}
use Rattle.nf_engine.specs.inner.Rounds.{IsDueIn}
use Rattle.nf_engine.proofs.RankLemmas.{lower_first, number_first}

-- two rules at one place are one
pub one_rule : {X : Type 0} (xs : List X) (k : ℕ) (x y : X) → slice_get xs k ≡ Some x → slice_get xs k ≡ Some y → x ≡ y
one_rule xs k x y e f = cc

module _ (plan : Plan) where
  -- a rule whose head comes before all that are due isn't due
  pub not_due : (low : ℕ) (queue : List Due) → All (IsDueIn plan low) queue → (k : ℕ) (rule : PlanRule) → slice_get plan.rules k ≡ Some rule
      → rank plan rule.head < low → is_due queue k ≡ false
  not_due low [] all k rule at early = refl
  not_due low (d ∷ queue) all k rule at early = by (eqb_tells d.rule k) (not_due low queue (All-tail (IsDueIn plan low) d queue all) k rule at early)
    where
      here : IsDueIn plan low d
      here = All-head (IsDueIn plan low) d queue all

      by : ((d.rule == k) ≡ true) × (d.rule ≡ k) ⊎ ((d.rule == k) ≡ false) × (d.rule ≢ k) → is_due queue k ≡ false → is_due (d ∷ queue) k ≡ false
      by (inl is) rest =
          let at_k : slice_get plan.rules k ≡ Some here.rule = subst (λ (n : ℕ). slice_get plan.rules n ≡ Some here.rule) is.1 here.at in
          let one : here.rule ≡ rule = one_rule plan.rules k here.rule rule at_k at in
          let late : low ≤ rank plan rule.head = subst (λ (r : PlanRule). low ≤ rank plan r.head) one here.late in
          absurd (omega arith)
      by (inr other) rest = ap (λ b. b || is_due queue k) other.0 ∙ rest

  -- the numbers of two entries that are one
  same_number : (x : ℕ) → nat_cmp x x ≡ Equal
  same_number x =
      let not_less : nat_lt x x ≡ false = grind (arith, nat_tests) in
      ap (λ b. cond b Less (cond (x == x) Equal Greater)) not_less ∙ ap (λ b. cond b Equal Greater) (eq-eqb x x refl)

  same_entry : (d e : Due) → d.level ≡ e.level → d.head ≡ e.head → d.rule ≡ e.rule → due_cmp d e ≡ Equal
  same_entry d e level head rule =
      ap (λ o. ordering_then o (ordering_then (nat_cmp d.head e.head) (nat_cmp d.rule e.rule))) (ap (nat_cmp d.level) (sym level) ∙ same_number d.level)
      ∙ ap (λ o. ordering_then o (nat_cmp d.rule e.rule)) (ap (nat_cmp d.head) (sym head) ∙ same_number d.head)
      ∙ ap (nat_cmp d.rule) (sym rule) ∙ same_number d.rule

  -- a rule whose entry comes before all others isn't due once more
  pub due_no_more : (low : ℕ) (d : Due) (queue : List Due) → IsDueIn plan low d → All (IsDueIn plan low) queue → All (IsLtBy due_cmp d) queue → is_due queue d.rule ≡ false
  due_no_more low d [] here all later = refl
  due_no_more low d (e ∷ queue) here all later =
      by (eqb_tells e.rule d.rule) (due_no_more low d queue here (All-tail (IsDueIn plan low) e queue all) (All-tail (IsLtBy due_cmp d) e queue later))
    where
      next : IsDueIn plan low e
      next = All-head (IsDueIn plan low) e queue all

      before : due_cmp d e ≡ Less
      before = All-head (IsLtBy due_cmp d) e queue later

      by : ((e.rule == d.rule) ≡ true) × (e.rule ≡ d.rule) ⊎ ((e.rule == d.rule) ≡ false) × (e.rule ≢ d.rule) → is_due queue d.rule ≡ false → is_due (e ∷ queue) d.rule ≡ false
      by (inl is) rest =
          let at : slice_get plan.rules d.rule ≡ Some next.rule = subst (λ (n : ℕ). slice_get plan.rules n ≡ Some next.rule) is.1 next.at in
          let one : next.rule ≡ here.rule = one_rule plan.rules d.rule next.rule here.rule at here.at in
          let level : d.level ≡ e.level = here.level ∙ sym (ap (λ (r : PlanRule). level_of plan r.head) one) ∙ sym next.level in
          let head : d.head ≡ e.head = here.head ∙ sym (ap (λ (r : PlanRule). r.head) one) ∙ sym next.head in
          let equal : due_cmp d e ≡ Equal = same_entry d e level head (sym is.1) in
          let less : due_cmp d e ≡ Less = before in
          cc
      by (inr other) rest = ap (λ b. b || is_due queue d.rule) other.0 ∙ rest

  -- an entry that comes no later has a head that comes no later
  level_no_greater : (d e : Due) → IsLeBy due_cmp d e → (d.level < e.level) ⊎ (d.level ≡ e.level) × (d.head ≤ e.head)
  level_no_greater d e le = by (nat_lt d.level e.level) refl (nat_lt e.level d.level) refl
    where
      by : (a : Bool) → nat_lt d.level e.level ≡ a → (b : Bool) → nat_lt e.level d.level ≡ b → (d.level < e.level) ⊎ (d.level ≡ e.level) × (d.head ≤ e.head)
      by true less b more = inl (grind (arith, nat_tests))
      by false less true more = absurd (grind (arith, nat_tests, le))
      by false less false more =
          let level : d.level ≡ e.level = grind (arith, nat_tests) in
          inr (level, grind (arith, nat_tests, le))

  pub head_no_later : (low high : ℕ) (d e : Due) → IsDueIn plan low d → IsDueIn plan high e → d.head < length plan.names → IsLeBy due_cmp d e → rank plan d.head ≤ rank plan e.head
  head_no_later low high d e here there within le = by (level_no_greater d e le)
    where
      own : d.level ≡ level_of plan d.head
      own = here.level ∙ ap (level_of plan) (sym here.head)

      other : e.level ≡ level_of plan e.head
      other = there.level ∙ ap (level_of plan) (sym there.head)

      by : (d.level < e.level) ⊎ (d.level ≡ e.level) × (d.head ≤ e.head) → rank plan d.head ≤ rank plan e.head
      by (inl lower) =
          let levels : level_of plan d.head < level_of plan e.head = omega (arith, own, other, lower) in
          let ranks : rank plan d.head < rank plan e.head = lower_first plan d.head e.head within levels in
          omega arith
      by (inr row) = number_first plan d.head e.head (sym own ∙ row.0 ∙ other) row.1

-- the first entry is one of the queue
pub first_is : (P : Due → Type 0) (queue : List Due) (d : Due) → slice_get queue 0 ≡ Some d → All P queue → P d
first_is P [] d first all = absurd cc
first_is P (e ∷ queue) d first all = let is : e ≡ d = cc in subst P is (All-head P e queue all)

pub first_is_due : (queue : List Due) (d : Due) → slice_get queue 0 ≡ Some d → is_due queue d.rule ≡ true
first_is_due [] d first = absurd cc
first_is_due (e ∷ queue) d first =
    let is : e ≡ d = cc in
    ap (λ b. b || is_due queue d.rule) (ap (λ (x : Due). x.rule == d.rule) is ∙ eq-eqb d.rule d.rule refl)

-- what was taken away from the front
pub popped_is : (taken : Option Due) (old new : List Due) → IfSome taken (λ k. old ≡ k ∷ new) → IfSome taken (λ k. All (IsLtBy due_cmp k) new)
    → (0 < length old → IsSome taken) → (d : Due) → slice_get old 0 ≡ Some d → IsPopped old new d
popped_is None old new removed above some d first =
    let there : 0 < length old = slice_get_within old 0 d first in
    absurd (true≢false (sym (some there)))
popped_is (Some k) old new removed above some d first =
    let at : slice_get (k ∷ new) 0 ≡ Some d = subst (λ (queue : List Due). slice_get queue 0 ≡ Some d) removed first in
    let is : k ≡ d = cc in
    record {
      rest = removed ∙ ap (λ (e : Due). e ∷ new) is;
      later = subst (λ (e : Due). All (IsLtBy due_cmp e) new) is above;
    }
