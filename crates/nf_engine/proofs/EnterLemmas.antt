-- How a turn begins, and what stands when all had their turns.
use Rattle.std.proofs.Common.{◌≡◌, ℕ, ◌+◌, ◌<◌, ◌≤◌, Bool, true, false, cond, ◌||◌, ◌==◌, nat_le, List, [], ◌∷◌, length, get_or, slice_get, Some, All, refl, ap, sym, subst, ◌∙◌, inl, inr, arith, true≢false}
use Rattle.std.proofs.lemmas.Bool.Decides.{nat_tests}
use Rattle.nf_core.specs.Sets.{has}
use Rattle.std.proofs.lemmas.Bool.{cases_lt}
use Rattle.std.proofs.lemmas.List.Elements.{All-nil, All-head}
use Rattle.nf_core.specs.Plan.{Plan, IsPlan, IsRuleOf}
use Rattle.nf_core.specs.declared.intervals.Delta.{Delta}
use Rattle.nf_core.specs.declared.terms.PlanRule.{PlanRule}
use Rattle.nf_model.specs.Pools.{of_name}
use Rattle.nf_tally.specs.Numbers.{number, often}
use Rattle.nf_engine.specs.declared.queues.Due.{Due}
use Rattle.nf_engine.specs.declared.rounds.Round.{Round}
use Rattle.nf_engine.specs.inner.Deltas.{no_change}
use Rattle.nf_engine.specs.inner.Numbered.{numbered_sum, one_if}
use Rattle.nf_engine.specs.inner.Queues.{rank, is_due, IsLeast, IsNoNext}
use Rattle.nf_engine.specs.inner.Rounds.{Passage, IsPassage, new_pools, held_in, minimal_at, nothing, known_to, found, IsDueIn, IsBetween, IsWithin, work_of, work_left}
use Rattle.nf_engine.specs.inner.Running.{rules_left}
use Rattle.nf_engine.proofs.HeldLemmas.{held_is_pool}
use Rattle.nf_engine.proofs.NumberedLemmas.{numbered_at_most, numbered_fewer, one_of_sum}
use Rattle.nf_engine.proofs.QueueLemmas.{first_is, head_no_later}
use Rattle.nf_engine.proofs.RankLemmas.{one_place}
use Rattle.nf_engine.proofs.SettledLemmas.{All-at, name_settled}

nothing_either : (b : Bool) → cond b no_change no_change ≡ no_change
nothing_either true = refl
nothing_either false = refl

module _ (plan : Plan) (passage : Passage) (is : IsPassage plan passage) (frontier : ℕ) (round : Round) (d : Due)
    (between : IsBetween plan passage frontier round) (least : IsLeast round.queue d) where
  entry : IsDueIn plan frontier d
  entry = first_is (IsDueIn plan frontier) round.queue d least.first between.due

  -- the head of the first entry is a name
  pub head_named : d.head < length plan.names
  head_named =
      let of_plan = All-at (IsRuleOf plan) plan.rules d.rule entry.rule is.valid.rules entry.at in
      subst (λ (n : ℕ). n < length plan.names) (sym entry.head) of_plan.head

  late : frontier ≤ rank plan d.head
  late = subst (λ (n : ℕ). frontier ≤ rank plan n) (sym entry.head) entry.late

  later : All (IsDueIn plan (rank plan d.head)) round.queue
  later = λ k default within.
      let e : Due = get_or round.queue k default in
      let there : IsDueIn plan frontier e = between.due k default within in
      let no_later : rank plan d.head ≤ rank plan e.head = head_no_later plan frontier frontier d e entry there head_named (least.least k default within) in
      record {
        rule = there.rule;
        at = there.at;
        head = there.head;
        level = there.level;
        late = subst (λ (n : ℕ). rank plan d.head ≤ rank plan n) there.head no_later;
      }

  -- its turn begins
  pub turn_begins : IsWithin plan passage d.head no_change round
  turn_begins = record {
    each_name = between.each_name;
    each_rule = between.each_rule;
    full = between.full;
    sources = λ n within q.
        subst (λ (g : Delta). number (minimal_at round.names.items n).sources q + often g.come q
        ≡ often g.gone q + (one_if (has (of_name passage.now n) q) + found plan (known_to plan passage round.names.items round.queue) n q))
        (sym (nothing_either (n == d.head))) (between.sources n within q);
    parts = between.parts;
    deltas = between.deltas;
    turned = λ n changed. let was = between.turned n changed in let before : rank plan n < frontier = was.1 in (was.0, omega (arith, late));
    due = later;
    queued = λ k rule m at read changed beyond. between.queued k rule m at read changed (omega (arith, late, beyond));
  }

  -- no more work is left than was
  pub no_more_left : work_left plan passage (rank plan d.head + 1) round.queue ≤ work_left plan passage frontier round.queue
  no_more_left =
      numbered_at_most (λ k rule. cond (is_due round.queue k || nat_le (rank plan d.head + 1) (rank plan rule.head)) (work_of plan passage rule) 0)
      (λ k rule. cond (is_due round.queue k || nat_le frontier (rank plan rule.head)) (work_of plan passage rule) 0) plan.rules
      (λ k rule at. by (is_due round.queue k) (nat_le (rank plan d.head + 1) (rank plan rule.head)) (nat_le frontier (rank plan rule.head)) (work_of plan passage rule) (weaker (rank plan rule.head)))
    where
      weaker : (n : ℕ) → nat_le (rank plan d.head + 1) n ≡ true → nat_le frontier n ≡ true
      weaker n e = let bound : frontier ≤ rank plan d.head = late in grind (arith, nat_tests)

      by : (a b c : Bool) (w : ℕ) → (b ≡ true → c ≡ true) → cond (a || b) w 0 ≤ cond (a || c) w 0
      by true b c w h = omega arith
      by false false c w h = omega arith
      by false true true w h = omega arith
      by false true false w h = absurd (let e : false ≡ true = h refl in cc)

-- where no rule is due each name holds its new pool
pub all_are_pools : (plan : Plan) (passage : Passage) (frontier : ℕ) (round : Round) → IsPassage plan passage → IsBetween plan passage frontier round → round.queue ≡ []
    → (n : ℕ) → n < length plan.names → held_in round.names.items n ≡ new_pools plan passage n
all_are_pools plan passage frontier round is between empty n within =
    held_is_pool plan passage.full passage.now is.below (held_in round.names.items) (rank plan n + 1)
    (λ m inside early. name_settled plan passage round.names.items round.queue nothing m (between.full m inside) inside between.sources refl
    (λ k rule at head. ap (λ (queue : List Due). is_due queue k) empty))
    n within (omega arith)

-- where the first rule that is due is none of a name's, none is
pub none_of_head : (plan : Plan) → IsPlan plan → (head : ℕ) → head < length plan.names → (queue : List Due) → All (IsDueIn plan (rank plan head)) queue → IsNoNext queue head
    → All (IsDueIn plan (rank plan head + 1)) queue
none_of_head plan valid head named queue due (inl empty) = subst (All (IsDueIn plan (rank plan head + 1))) (sym empty) (All-nil (IsDueIn plan (rank plan head + 1)))
none_of_head plan valid head named queue due (inr other) = λ k default within.
    let d : Due = other.entry in
    let first : IsDueIn plan (rank plan head) d = first_is (IsDueIn plan (rank plan head)) queue d other.least.first due in
    let of_plan = All-at (IsRuleOf plan) plan.rules d.rule first.rule valid.rules first.at in
    let within_names : d.head < length plan.names = subst (λ (n : ℕ). n < length plan.names) (sym first.head) of_plan.head in
    let here : rank plan head ≤ rank plan d.head = subst (λ (n : ℕ). rank plan head ≤ rank plan n) (sym first.head) first.late in
    let beyond : rank plan head + 1 ≤ rank plan d.head =
    elim (cases_lt (rank plan head) (rank plan d.head)) [
      | inl less ↦ omega arith
      | inr more ↦ absurd (other.apart (one_place plan d.head head within_names named (omega arith)))
    ] in
    let e : Due = get_or queue k default in
    let there : IsDueIn plan (rank plan head) e = due k default within in
    let no_later : rank plan d.head ≤ rank plan e.head = head_no_later plan (rank plan head) (rank plan head) d e first there within_names (other.least.least k default within) in
    record {
      rule = there.rule;
      at = there.at;
      head = there.head;
      level = there.level;
      late = subst (λ (n : ℕ). rank plan head + 1 ≤ rank plan n) there.head (omega (arith, beyond, no_later));
    }

-- ---- how many rules may be evaluated yet
le_test : (m n : ℕ) → m ≤ n → nat_le m n ≡ true
le_test m n h = grind (arith, nat_tests)

lt_test : (m n : ℕ) → n < m → nat_le m n ≡ false
lt_test m n h = grind (arith, nat_tests)

no_less : (x y : Bool) → (x ≡ true → y ≡ true) → cond {A = ℕ} x 1 0 ≤ cond y 1 0
no_less false y h = omega arith
no_less true true h = omega arith
no_less true false h = absurd (true≢false (sym (h refl)))

tests_weaker : (a b c : ℕ) → b ≤ a → cond {A = ℕ} (nat_le a c) 1 0 ≤ cond (nat_le b c) 1 0
tests_weaker a b c h = no_less (nat_le a c) (nat_le b c) (λ e. grind (arith, nat_tests))

-- fewer than before, where a name had its turn
pub fewer_left : (plan : Plan) (old new : List Due) (d : Due) (low : ℕ) → slice_get old 0 ≡ Some d → IsDueIn plan low d → All (IsDueIn plan (rank plan d.head + 1)) new
    → rules_left plan new < rules_left plan old
fewer_left plan [] new d low first entry due = absurd cc
fewer_left plan (x ∷ rest) [] d low first entry due =
    let is : x ≡ d = cc in
    let f : ℕ → PlanRule → ℕ = λ k rule. cond (nat_le (rank plan x.head) (rank plan rule.head)) 1 0 in
    let same : rank plan x.head ≡ rank plan entry.rule.head = ap (λ (e : Due). rank plan e.head) is ∙ ap (rank plan) entry.head in
    let own : f d.rule entry.rule ≡ 1 = ap (λ t. cond t 1 0) (le_test (rank plan x.head) (rank plan entry.rule.head) (omega (arith, same))) in
    let part : f d.rule entry.rule ≤ numbered_sum f plan.rules = one_of_sum f plan.rules d.rule entry.rule entry.at in
    omega (arith, own, part)
fewer_left plan (x ∷ rest) (e ∷ more) d low first entry due =
    let is : x ≡ d = cc in
    let next : IsDueIn plan (rank plan d.head + 1) e = All-head (IsDueIn plan (rank plan d.head + 1)) e more due in
    let next_rank : rank plan e.head ≡ rank plan next.rule.head = ap (rank plan) next.head in
    let later : rank plan d.head + 1 ≤ rank plan next.rule.head = next.late in
    let own_rank : rank plan d.head ≡ rank plan entry.rule.head = ap (rank plan) entry.head in
    let x_rank : rank plan x.head ≡ rank plan d.head = ap (λ (y : Due). rank plan y.head) is in
    let f : ℕ → PlanRule → ℕ = λ k rule. cond (nat_le (rank plan e.head) (rank plan rule.head)) 1 0 in
    let g : ℕ → PlanRule → ℕ = λ k rule. cond (nat_le (rank plan x.head) (rank plan rule.head)) 1 0 in
    let none : f d.rule entry.rule ≡ 0 = ap (λ t. cond t 1 0) (lt_test (rank plan e.head) (rank plan entry.rule.head) (omega (arith, next_rank, later, own_rank))) in
    let one : g d.rule entry.rule ≡ 1 = ap (λ t. cond t 1 0) (le_test (rank plan x.head) (rank plan entry.rule.head) (omega (arith, own_rank, x_rank))) in
    numbered_fewer f g plan.rules d.rule entry.rule entry.at (omega (arith, none, one))
    (λ k rule at. tests_weaker (rank plan e.head) (rank plan x.head) (rank plan rule.head) (omega (arith, next_rank, later, x_rank)))
