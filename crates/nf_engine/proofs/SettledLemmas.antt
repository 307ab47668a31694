-- Names before all rules that are due hold their new pools, so the first of these rules can be evaluated.
use Rattle.std.proofs.Common.{◌≡◌, ◌≢◌, ℕ, ◌+◌, ◌<◌, true, false, cond, ◌||◌, ◌==◌, List, [], ◌∷◌, length, slice_get, Some, All, ◌⊎◌, ap, sym, subst, ◌∙◌, inl, inr, arith, if◌then◌else◌}
use Rattle.std.specs.List.{list_any}
use Rattle.std.proofs.lemmas.Bool.{ne_eqb}
use Rattle.std.proofs.lemmas.Bool.Decides.{eqb_tells}
use Rattle.std.proofs.lemmas.List.Elements.{All-head, All-tail}
use Rattle.std.proofs.lemmas.Option.{slice_get_within, get_or_from_slice_get}
use Rattle.nf_core.specs.Intervals.{Interval}
use Rattle.nf_core.specs.Sets.{has, once}
use Rattle.nf_core.specs.Plan.{Plan}
use Rattle.nf_core.specs.declared.intervals.Delta.{Delta}
use Rattle.nf_core.specs.declared.terms.PlanRule.{PlanRule}
use Rattle.nf_model.specs.Levels.{Pools}
use Rattle.nf_model.specs.Pools.{of_name, results_over, held_over, holds_all}
use Rattle.nf_minimal.specs.Minimals.{Minimal}
use Rattle.nf_tally.specs.Numbers.{number, often}
use Rattle.nf_engine.specs.declared.queues.Due.{Due}
use Rattle.nf_engine.specs.declared.rounds.Round.{Round}
use Rattle.nf_engine.specs.inner.Deltas.{no_change}
use Rattle.nf_engine.specs.inner.Evaluations.{IsReady}
use Rattle.nf_engine.specs.inner.Numbered.{one_if}
use Rattle.nf_engine.specs.inner.Parts.{IsPartOf}
use Rattle.nf_engine.specs.inner.Queues.{rank, is_due}
use Rattle.nf_engine.specs.inner.Rounds.{Passage, IsPassage, old_pools, new_pools, minimal_at, held_in, part_at, known_to, found, only_at, IsDueIn, AreSources, IsUnderway, IsWithin}
use Rattle.nf_engine.proofs.HeldLemmas.{held_is_step, held_is_pool}
use Rattle.nf_engine.proofs.NumberedLemmas.{numbered_alike}
use Rattle.nf_engine.proofs.QueueLemmas.{not_due, first_is, first_is_due}
use Rattle.nf_engine.proofs.RankLemmas.{lower_first}

-- what holds of each item holds of the one at a place
pub All-at : {X : Type 0} (P : X → Type 0) (xs : List X) (i : ℕ) (x : X) → All P xs → slice_get xs i ≡ Some x → P x
All-at P xs i x h is = subst P (get_or_from_slice_get xs i x x is) (h i x (slice_get_within xs i x is))

-- what holds of each number of a list holds of one that is there
pub All-there : (P : ℕ → Type 0) (ns : List ℕ) (n : ℕ) → All P ns → list_any (λ m. m == n) ns ≡ true → P n
All-there P [] n h there = absurd cc
All-there P (m ∷ ns) n h there = by (eqb_tells m n) (All-there P ns n (All-tail P m ns h))
  where
    by : ((m == n) ≡ true) × (m ≡ n) ⊎ ((m == n) ≡ false) × (m ≢ n) → (list_any (λ x. x == n) ns ≡ true → P n) → P n
    by (inl is) rest = subst P is.1 (All-head P m ns h)
    by (inr other) rest = rest (sym (ap (λ b. b || list_any (λ x. x == n) ns) other.0) ∙ there)

-- sources over what rules know are those over other pools, where the rules of the name have the same results over both
pub found_alike : (plan : Plan) (K L : ℕ → Pools) (n : ℕ) (q : Interval)
    → ((k : ℕ) (rule : PlanRule) → slice_get plan.rules k ≡ Some rule → rule.head ≡ n → results_over (K k) rule ≡ results_over (L k) rule)
    → found plan K n q ≡ found plan L n q
found_alike plan K L n q alike =
    numbered_alike (λ k rule. cond (rule.head == n) (one_if (has (once (results_over (K k) rule)) q)) 0)
    (λ k rule. cond (rule.head == n) (one_if (has (once (results_over (L k) rule)) q)) 0) plan.rules (λ k rule at. by k rule at (eqb_tells rule.head n))
  where
    by : (k : ℕ) (rule : PlanRule) → slice_get plan.rules k ≡ Some rule → ((rule.head == n) ≡ true) × (rule.head ≡ n) ⊎ ((rule.head == n) ≡ false) × (rule.head ≢ n)
        → cond (rule.head == n) (one_if (has (once (results_over (K k) rule)) q)) 0 ≡ cond (rule.head == n) (one_if (has (once (results_over (L k) rule)) q)) 0
    by k rule at (inl is) = ap (λ (js : List Interval). cond (rule.head == n) (one_if (has (once js) q)) 0) (alike k rule at is.1)
    by k rule at (inr other) =
        ap (λ b. cond b (one_if (has (once (results_over (K k) rule)) q)) 0) other.0
        ∙ sym (ap (λ b. cond b (one_if (has (once (results_over (L k) rule)) q)) 0) other.0)

-- nothing is gathered for another name
pub only_elsewhere : (head : ℕ) (delta : Delta) (n : ℕ) → n ≢ head → only_at head delta n ≡ no_change
only_elsewhere head delta n other = ap (λ b. cond b delta no_change) (ne_eqb n head other)

module _ (plan : Plan) (passage : Passage) (names : List Minimal) (queue : List Due) where
  -- what is known to a rule that isn't due, and to one that is
  pub known_held : (k : ℕ) → is_due queue k ≡ false → known_to plan passage names queue k ≡ held_in names
  known_held k e = ap (λ b. if b then old_pools plan passage else held_in names) e

  pub known_old : (k : ℕ) → is_due queue k ≡ true → known_to plan passage names queue k ≡ old_pools plan passage
  known_old k e = ap (λ b. if b then old_pools plan passage else held_in names) e

  -- a name of which no rule is due holds what it is to hold over what all names hold
  pub name_settled : (gathered : ℕ → Delta) (n : ℕ) → (minimal_at names n).full ≡ holds_all plan passage.full n → n < length plan.names
      → AreSources plan passage gathered names queue → gathered n ≡ no_change
      → ((k : ℕ) (rule : PlanRule) → slice_get plan.rules k ≡ Some rule → rule.head ≡ n → is_due queue k ≡ false)
      → held_in names n ≡ held_over plan passage.full passage.now (held_in names) n
  name_settled gathered n full within sources nothing none =
      held_is_step plan passage.full passage.now (held_in names) n (minimal_at names n) full
      (λ q.
      let all : ℕ = one_if (has (of_name passage.now n) q) + found plan (known_to plan passage names queue) n q in
      let counted : number (minimal_at names n).sources q + often no_change.come q ≡ often no_change.gone q + all =
      subst (λ (d : Delta). number (minimal_at names n).sources q + often d.come q ≡ often d.gone q + all) nothing (sources n within q) in
      let here : number (minimal_at names n).sources q ≡ all = omega (arith, counted) in
      here ∙ ap (λ m. one_if (has (of_name passage.now n) q) + m)
      (found_alike plan (known_to plan passage names queue) (λ k. held_in names) n q (λ k rule at is. ap (λ (P : Pools). results_over P rule) (known_held k (none k rule at is)))))

-- the names before all rules that are due, of which nothing is gathered, hold their new pools
pub before_are_pools : (plan : Plan) (passage : Passage) (low high : ℕ) (gathered : ℕ → Delta) (round : Round) → IsPassage plan passage
    → IsUnderway plan passage low high gathered round → ((n : ℕ) → rank plan n < low → gathered n ≡ no_change)
    → (n : ℕ) → n < length plan.names → rank plan n < low → held_in round.names.items n ≡ new_pools plan passage n
before_are_pools plan passage low high gathered round is underway nothing =
    held_is_pool plan passage.full passage.now is.below (held_in round.names.items) low
    (λ n within early. name_settled plan passage round.names.items round.queue gathered n (underway.full n within) within underway.sources (nothing n early)
    (λ k rule at head. not_due plan low round.queue underway.due k rule at (subst (λ (m : ℕ). rank plan m < low) (sym head) early)))

-- the first rule that is due can be evaluated
pub first_ready : (plan : Plan) (passage : Passage) (head : ℕ) (gathered : Delta) (round : Round) (d : Due) → IsPassage plan passage
    → IsWithin plan passage head gathered round → slice_get round.queue 0 ≡ Some d → d.head ≡ head → IsReady plan passage d.rule round
first_ready plan passage head gathered round d is within first here =
    let entry : IsDueIn plan (rank plan head) d = first_is (IsDueIn plan (rank plan head)) round.queue d first within.due in
    let own : entry.rule.head ≡ head = sym entry.head ∙ here in
    let due : is_due round.queue d.rule ≡ true = first_is_due round.queue d first in
    record {
      rule = entry.rule;
      at = entry.at;
      each_rule = within.each_rule;
      part =
          subst (λ (P : Pools). IsPartOf entry.rule P (part_at round.rules.items d.rule)) (known_old plan passage round.names.items round.queue d.rule due)
          (within.parts d.rule entry.rule entry.at);
      read = record {
        each_name = within.each_name;
        deltas = λ m read. within.deltas m (is.lower d.rule entry.rule m entry.at read).name;
        held = λ m read.
            let below = is.lower d.rule entry.rule m entry.at read in
            let before : rank plan m < rank plan entry.rule.head = lower_first plan m entry.rule.head below.name below.level in
            let early : rank plan m < rank plan head = subst (λ (n : ℕ). rank plan m < rank plan n) own before in
            before_are_pools plan passage (rank plan head) (rank plan head + 1) (only_at head gathered) round is within
            (λ n sooner. only_elsewhere head gathered n (λ same. let e : rank plan n ≡ rank plan head = ap (rank plan) same in absurd (omega arith)))
            m below.name early;
      };
    }
