-- One rule was evaluated, and what its results lost and gained was put behind what was gathered.
use Rattle.std.proofs.Common.{◌≡◌, ◌≢◌, ℕ, ◌+◌, ◌<◌, ◌≤◌, true, false, cond, ◌||◌, ◌==◌, nat_le, List, ◌∷◌, length, slice_get, slice_set, Option, Some, None, All, ◌⊎◌, refl, ap, sym, subst, ◌∙◌, inl, inr, arith}
use Rattle.std.proofs.lemmas.Bool.{ne_eqb, eq-eqb}
use Rattle.std.proofs.lemmas.Bool.Decides.{nat_tests, eqb_tells}
use Rattle.std.proofs.lemmas.List.{get_or-set_same, get_or-set_other, length-set}
use Rattle.std.proofs.lemmas.List.Elements.{All-head, All-tail}
use Rattle.std.proofs.lemmas.Option.{slice_get_within}
use Rattle.nf_core.specs.Intervals.{Interval}
use Rattle.nf_core.specs.Sets.{has, once}
use Rattle.nf_core.specs.Plan.{Plan}
use Rattle.nf_core.specs.declared.intervals.Delta.{Delta}
use Rattle.nf_core.specs.declared.terms.PlanRule.{PlanRule}
use Rattle.nf_core.proofs.Public.SetLemmas.{IsSet-once}
use Rattle.nf_model.specs.Levels.{Pools}
use Rattle.nf_model.specs.Pools.{of_name, results_over, holds_all}
use Rattle.nf_minimal.specs.Minimals.{Minimal}
use Rattle.nf_model.specs.Changes.{delta_of}
use Rattle.nf_tally.specs.Numbers.{number, often}
use Rattle.nf_tally.proofs.Public.OftenLemmas.{often-append}
use Rattle.nf_engine.specs.declared.parts.RulePart.{RulePart}
use Rattle.nf_engine.specs.declared.queues.Due.{Due}
use Rattle.nf_engine.specs.declared.rounds.Round.{Round}
use Rattle.nf_engine.specs.inner.Deltas.{NamedDeltas, no_change, delta_at, is_changed}
use Rattle.nf_engine.specs.inner.Evaluations.{IsReady, IsEvaluated}
use Rattle.nf_engine.specs.inner.Numbered.{numbered_sum, one_if}
use Rattle.nf_engine.specs.inner.Parts.{IsPartOf}
use Rattle.nf_engine.specs.inner.Queues.{rank, is_due, IsNextOf, IsPopped}
use Rattle.nf_engine.specs.inner.Rounds.{Passage, IsPassage, old_pools, minimal_at, held_in, part_at, known_to, found, only_at, IsDueIn, AreSources, IsWithin, work_of, work_left}
use Rattle.nf_engine.specs.inner.Turns.{IsAppended}
use Rattle.nf_engine.proofs.DeltaLemmas.{moved}
use Rattle.nf_engine.proofs.NumberedLemmas.{numbered_apart, one_of_sum}
use Rattle.nf_engine.proofs.QueueLemmas.{one_rule, due_no_more, first_is, first_is_due}
use Rattle.nf_engine.proofs.SettledLemmas.{found_alike, known_held, known_old, first_ready}

-- the first entry taken away, where its rule is `own`
module _ (plan : Plan) (passage : Passage) (head : ℕ) (d : Due) (own : PlanRule) (at : slice_get plan.rules d.rule ≡ Some own) (own_head : own.head ≡ head)
    (old new : List Due) (popped : IsPopped old new d) (due : All (IsDueIn plan (rank plan head)) old) where
  all : All (IsDueIn plan (rank plan head)) (d ∷ new)
  all = subst (All (IsDueIn plan (rank plan head))) popped.rest due

  pub rest_due : All (IsDueIn plan (rank plan head)) new
  rest_due = All-tail (IsDueIn plan (rank plan head)) d new all

  pub was_due : is_due old d.rule ≡ true
  was_due = ap (λ (queue : List Due). is_due queue d.rule) popped.rest ∙ ap (λ b. b || is_due new d.rule) (eq-eqb d.rule d.rule refl)

  pub no_more : is_due new d.rule ≡ false
  no_more = due_no_more plan (rank plan head) d new (All-head (IsDueIn plan (rank plan head)) d new all) rest_due popped.later

  pub others_due : (k : ℕ) → k ≢ d.rule → is_due old k ≡ is_due new k
  others_due k other =
      ap (λ (queue : List Due). is_due queue k) popped.rest ∙ ap (λ b. b || is_due new k) (ne_eqb d.rule k (λ e. other (sym e)))

  -- the work that is left falls by that of the rule
  pub less_left : work_left plan passage (rank plan head + 1) new + work_of plan passage own ≡ work_left plan passage (rank plan head + 1) old
  less_left =
      let f : ℕ → PlanRule → ℕ = λ k rule. cond (is_due old k || nat_le (rank plan head + 1) (rank plan rule.head)) (work_of plan passage rule) 0 in
      let g : ℕ → PlanRule → ℕ = λ k rule. cond (is_due new k || nat_le (rank plan head + 1) (rank plan rule.head)) (work_of plan passage rule) 0 in
      let apart : numbered_sum f plan.rules + g d.rule own ≡ numbered_sum g plan.rules + f d.rule own =
      numbered_apart f g plan.rules d.rule own at
      (λ k rule is other. ap (λ b. cond (b || nat_le (rank plan head + 1) (rank plan rule.head)) (work_of plan passage rule) 0) (others_due k other)) in
      let early : nat_le (rank plan head + 1) (rank plan own.head) ≡ false =
      ap (λ n. nat_le (rank plan head + 1) (rank plan n)) own_head ∙ grind (arith, nat_tests) in
      let before : f d.rule own ≡ work_of plan passage own =
      ap (λ b. cond (b || nat_le (rank plan head + 1) (rank plan own.head)) (work_of plan passage own) 0) was_due in
      let after : g d.rule own ≡ 0 =
      ap (λ b. cond (b || nat_le (rank plan head + 1) (rank plan own.head)) (work_of plan passage own) 0) no_more ∙ ap (λ b. cond b (work_of plan passage own) 0) early in
      omega arith

-- the numbers of sources, where one rule of a name is known anew and its delta is gathered
module _ (plan : Plan) (passage : Passage) (head : ℕ) (names : List Minimal) (d : Due) (own : PlanRule) (at : slice_get plan.rules d.rule ≡ Some own) (own_head : own.head ≡ head)
    (old new : List Due) (was_due : is_due old d.rule ≡ true) (no_more : is_due new d.rule ≡ false) (others : (k : ℕ) → k ≢ d.rule → is_due old k ≡ is_due new k) where
  abbrev K : ℕ → Pools
  K = known_to plan passage names old

  abbrev L : ℕ → Pools
  L = known_to plan passage names new

  same_known : (k : ℕ) → k ≢ d.rule → K k ≡ L k
  same_known k other = ap (λ b. cond b (old_pools plan passage) (held_in names)) (others k other)

  -- a name whose rule this isn't
  elsewhere : (n : ℕ) (q : Interval) → n ≢ head → found plan K n q ≡ found plan L n q
  elsewhere n q apart =
      found_alike plan K L n q
      (λ k rule is of_n. ap (λ (P : Pools). results_over P rule)
      (same_known k (λ e.
      let one : rule ≡ own = one_rule plan.rules d.rule rule own (subst (λ (m : ℕ). slice_get plan.rules m ≡ Some rule) e is) at in
      apart (sym of_n ∙ ap (λ (r : PlanRule). r.head) one ∙ own_head))))

  -- its own name: the rule's results before are exchanged for those now
  here : (q : Interval) → found plan K head q + one_if (has (once (results_over (held_in names) own)) q)
      ≡ found plan L head q + one_if (has (once (results_over (old_pools plan passage) own)) q)
  here q =
      let f : ℕ → PlanRule → ℕ = λ k rule. cond (rule.head == head) (one_if (has (once (results_over (K k) rule)) q)) 0 in
      let g : ℕ → PlanRule → ℕ = λ k rule. cond (rule.head == head) (one_if (has (once (results_over (L k) rule)) q)) 0 in
      let apart : numbered_sum f plan.rules + g d.rule own ≡ numbered_sum g plan.rules + f d.rule own =
      numbered_apart f g plan.rules d.rule own at
      (λ k rule is other. ap (λ (P : Pools). cond (rule.head == head) (one_if (has (once (results_over P rule)) q)) 0) (same_known k other)) in
      let of_head : (own.head == head) ≡ true = eq-eqb own.head head own_head in
      let before : f d.rule own ≡ one_if (has (once (results_over (old_pools plan passage) own)) q) =
      ap (λ b. cond b (one_if (has (once (results_over (K d.rule) own)) q)) 0) of_head
      ∙ ap (λ (P : Pools). one_if (has (once (results_over P own)) q)) (known_old plan passage names old d.rule was_due) in
      let after : g d.rule own ≡ one_if (has (once (results_over (held_in names) own)) q) =
      ap (λ b. cond b (one_if (has (once (results_over (L d.rule) own)) q)) 0) of_head
      ∙ ap (λ (P : Pools). one_if (has (once (results_over P own)) q)) (known_held plan passage names new d.rule no_more) in
      omega arith

  pub sources_gathered : (gathered more delta : Delta) → IsAppended delta gathered more
      → delta ≡ delta_of (once (results_over (old_pools plan passage) own)) (once (results_over (held_in names) own))
      → AreSources plan passage (only_at head gathered) names old → AreSources plan passage (only_at head more) names new
  sources_gathered gathered more delta appended leads sources n within q = by (eqb_tells n head)
    where
      inputs : ℕ
      inputs = one_if (has (of_name passage.now n) q)

      count : ℕ
      count = number (minimal_at names n).sources q

      Counts : Delta → ℕ → Type 0
      Counts e found_now = count + often e.come q ≡ often e.gone q + (inputs + found_now)

      by : ((n == head) ≡ true) × (n ≡ head) ⊎ ((n == head) ≡ false) × (n ≢ head) → Counts (only_at head more n) (found plan L n q)
      by (inl is) =
          let was : Counts gathered (found plan K n q) = subst (λ b. Counts (cond b gathered no_change) (found plan K n q)) is.0 (sources n within q) in
          let exchange : found plan K n q + one_if (has (once (results_over (held_in names) own)) q)
          ≡ found plan L n q + one_if (has (once (results_over (old_pools plan passage) own)) q) =
          subst (λ (m : ℕ). found plan K m q + one_if (has (once (results_over (held_in names) own)) q)
          ≡ found plan L m q + one_if (has (once (results_over (old_pools plan passage) own)) q)) (sym is.1) (here q) in
          let net : one_if (has (once (results_over (old_pools plan passage) own)) q) + often delta.come q
          ≡ one_if (has (once (results_over (held_in names) own)) q) + often delta.gone q =
          subst (λ (e : Delta). one_if (has (once (results_over (old_pools plan passage) own)) q) + often e.come q
          ≡ one_if (has (once (results_over (held_in names) own)) q) + often e.gone q) (sym leads)
          (moved (once (results_over (old_pools plan passage) own)) (once (results_over (held_in names) own)) q
          (IsSet-once (results_over (old_pools plan passage) own)) (IsSet-once (results_over (held_in names) own))) in
          let come : often more.come q ≡ often gathered.come q + often delta.come q =
          ap (λ (js : List Interval). often js q) appended.come ∙ often-append gathered.come delta.come q in
          let gone : often more.gone q ≡ often gathered.gone q + often delta.gone q =
          ap (λ (js : List Interval). often js q) appended.gone ∙ often-append gathered.gone delta.gone q in
          let now : Counts more (found plan L n q) = omega (arith, was, exchange, net, come, gone) in
          subst (λ b. Counts (cond b more no_change) (found plan L n q)) (sym is.0) now
      by (inr other) =
          let was : Counts no_change (found plan K n q) = subst (λ b. Counts (cond b gathered no_change) (found plan K n q)) other.0 (sources n within q) in
          let now : Counts no_change (found plan L n q) = subst (λ (m : ℕ). Counts no_change m) (elsewhere n q other.1) was in
          subst (λ b. Counts (cond b more no_change) (found plan L n q)) (sym other.0) now

-- a step within the turn of a name
module _ (plan : Plan) (passage : Passage) (head : ℕ) (gathered more delta : Delta) (begun after new : Round) (d : Due)
    (within : IsWithin plan passage head gathered begun) (entry : IsDueIn plan (rank plan head) d) (here : d.head ≡ head)
    (evaluated : IsEvaluated plan passage d.rule delta begun after) (appended : IsAppended delta gathered more)
    (names_is : new.names.items ≡ after.names.items) (rules_is : new.rules.items ≡ after.rules.items) (changed_is : new.changed ≡ after.changed)
    (popped : IsPopped after.queue new.queue d) where
  own_head : entry.rule.head ≡ head
  own_head = sym entry.head ∙ here

  queue_popped : IsPopped begun.queue new.queue d
  queue_popped = subst (λ (queue : List Due). IsPopped queue new.queue d) evaluated.queue popped

  names_same : new.names.items ≡ begun.names.items
  names_same = names_is ∙ evaluated.names

  abbrev names : List Minimal
  names = begun.names.items

  due_was : is_due begun.queue d.rule ≡ true
  due_was = was_due plan passage head d entry.rule entry.at own_head begun.queue new.queue queue_popped within.due

  due_is : is_due new.queue d.rule ≡ false
  due_is = no_more plan passage head d entry.rule entry.at own_head begun.queue new.queue queue_popped within.due

  due_same : (k : ℕ) → k ≢ d.rule → is_due begun.queue k ≡ is_due new.queue k
  due_same = others_due plan passage head d entry.rule entry.at own_head begun.queue new.queue queue_popped within.due

  placed : d.rule < length begun.rules.items
  placed = let inside : d.rule < length plan.rules = slice_get_within plan.rules d.rule entry.rule entry.at in let each : length begun.rules.items ≡ length plan.rules = within.each_rule in omega arith

  rules_set : new.rules.items ≡ slice_set begun.rules.items d.rule (Some evaluated.part)
  rules_set = rules_is ∙ evaluated.rules

  part_now : (k : ℕ) (rule : PlanRule) → slice_get plan.rules k ≡ Some rule → IsPartOf rule (known_to plan passage names new.queue k) (part_at new.rules.items k)
  part_now k rule at = by (eqb_tells k d.rule)
    where
      by : ((k == d.rule) ≡ true) × (k ≡ d.rule) ⊎ ((k == d.rule) ≡ false) × (k ≢ d.rule) → IsPartOf rule (known_to plan passage names new.queue k) (part_at new.rules.items k)
      by (inl is) =
          let at_d : slice_get plan.rules d.rule ≡ Some rule = subst (λ (m : ℕ). slice_get plan.rules m ≡ Some rule) is.1 at in
          let part_is : part_at new.rules.items k ≡ Some evaluated.part =
          ap (part_at new.rules.items) is.1 ∙ ap (λ (parts : List (Option RulePart)). part_at parts d.rule) rules_set
          ∙ get_or-set_same begun.rules.items d.rule (Some evaluated.part) None placed in
          let knows : known_to plan passage names new.queue k ≡ held_in names = ap (known_to plan passage names new.queue) is.1 ∙ known_held plan passage names new.queue d.rule due_is in
          subst (λ (P : Pools). IsPartOf rule P (part_at new.rules.items k)) (sym knows)
          (subst (λ (part : Option RulePart). IsPartOf rule (held_in names) part) (sym part_is) (evaluated.followed.knows rule at_d))
      by (inr other) =
          let part_is : part_at new.rules.items k ≡ part_at begun.rules.items k =
          ap (λ (parts : List (Option RulePart)). part_at parts k) rules_set ∙ get_or-set_other begun.rules.items d.rule k (Some evaluated.part) None other.1 in
          let knows : known_to plan passage names begun.queue k ≡ known_to plan passage names new.queue k =
          ap (λ b. cond b (old_pools plan passage) (held_in names)) (due_same k other.1) in
          subst (λ (P : Pools). IsPartOf rule P (part_at new.rules.items k)) knows
          (subst (λ (part : Option RulePart). IsPartOf rule (known_to plan passage names begun.queue k) part) (sym part_is) (within.parts k rule at))

  sources_now : AreSources plan passage (only_at head more) names new.queue
  sources_now =
      sources_gathered plan passage head names d entry.rule entry.at own_head begun.queue new.queue due_was due_is due_same gathered more delta appended
      (evaluated.followed.leads entry.rule entry.at) within.sources

  pub still_within : IsWithin plan passage head more new
  still_within = record {
    each_name = ap (λ (ns : List Minimal). length ns) names_same ∙ within.each_name;
    each_rule = ap (λ (ps : List (Option RulePart)). length ps) rules_set ∙ length-set begun.rules.items d.rule (Some evaluated.part) ∙ within.each_rule;
    full = subst (λ (ns : List Minimal). (n : ℕ) → n < length plan.names → (minimal_at ns n).full ≡ holds_all plan passage.full n) (sym names_same) within.full;
    sources = subst (λ (ns : List Minimal). AreSources plan passage (only_at head more) ns new.queue) (sym names_same) sources_now;
    parts = subst (λ (ns : List Minimal). (k : ℕ) (rule : PlanRule) → slice_get plan.rules k ≡ Some rule → IsPartOf rule (known_to plan passage ns new.queue k) (part_at new.rules.items k)) (sym names_same) part_now;
    deltas = λ n inside.
        ap (λ (changed : NamedDeltas). delta_at changed n) (changed_is ∙ evaluated.changed) ∙ within.deltas n inside
        ∙ ap (λ (ns : List Minimal). delta_of (old_pools plan passage n) (held_in ns n)) (sym names_same);
    turned = subst (λ (changed : NamedDeltas). (n : ℕ) → is_changed changed n ≡ true → (n < length plan.names) × (rank plan n < rank plan head)) (sym (changed_is ∙ evaluated.changed)) within.turned;
    due = rest_due plan passage head d entry.rule entry.at own_head begun.queue new.queue queue_popped within.due;
    queued = λ k rule m at read changed late.
        let was : is_changed begun.changed m ≡ true = subst (λ (c : NamedDeltas). is_changed c m ≡ true) (changed_is ∙ evaluated.changed) changed in
        let other : k ≢ d.rule = λ e.
        let one : rule ≡ entry.rule = one_rule plan.rules d.rule rule entry.rule (subst (λ (n : ℕ). slice_get plan.rules n ≡ Some rule) e at) entry.at in
        let same : rank plan rule.head ≡ rank plan head = ap (λ (r : PlanRule). rank plan r.head) one ∙ ap (rank plan) own_head in
        absurd (omega arith) in
        sym (due_same k other) ∙ within.queued k rule m at read was late;
  }

  pub work_less : work_left plan passage (rank plan head + 1) new.queue + work_of plan passage entry.rule ≡ work_left plan passage (rank plan head + 1) begun.queue
  work_less = less_left plan passage head d entry.rule entry.at own_head begun.queue new.queue queue_popped within.due

-- the next rule of a name was evaluated
module _ (plan : Plan) (passage : Passage) (head number : ℕ) (gathered : Delta) (begun : Round) (within : IsWithin plan passage head gathered begun) (next : IsNextOf begun.queue head number) where
  pub next_entry : IsDueIn plan (rank plan head) next.entry
  next_entry = first_is (IsDueIn plan (rank plan head)) begun.queue next.entry next.least.first within.due

  pub next_at : slice_get plan.rules number ≡ Some next_entry.rule
  next_at = subst (λ (k : ℕ). slice_get plan.rules k ≡ Some next_entry.rule) next.rule_is next_entry.at

  -- it can be evaluated
  pub next_ready : IsPassage plan passage → IsReady plan passage number begun
  next_ready is =
      subst (λ (k : ℕ). IsReady plan passage k begun) next.rule_is
      (first_ready plan passage head gathered begun next.entry is within next.least.first next.head_is)

  -- and its work is among that which is left
  pub next_bound : (before now : ℕ) → ((rule : PlanRule) → slice_get plan.rules number ≡ Some rule → now ≤ before + work_of plan passage rule)
      → now ≤ before + work_left plan passage (rank plan head + 1) begun.queue
  next_bound before now cost =
      let f : ℕ → PlanRule → ℕ = λ k rule. cond (is_due begun.queue k || nat_le (rank plan head + 1) (rank plan rule.head)) (work_of plan passage rule) 0 in
      let due : is_due begun.queue number ≡ true = subst (λ (k : ℕ). is_due begun.queue k ≡ true) next.rule_is (first_is_due begun.queue next.entry next.least.first) in
      let own : f number next_entry.rule ≡ work_of plan passage next_entry.rule =
      ap (λ b. cond (b || nat_le (rank plan head + 1) (rank plan next_entry.rule.head)) (work_of plan passage next_entry.rule) 0) due in
      let part : f number next_entry.rule ≤ numbered_sum f plan.rules = one_of_sum f plan.rules number next_entry.rule next_at in
      let spent : now ≤ before + work_of plan passage next_entry.rule = cost next_entry.rule next_at in
      omega (arith, own, part, spent)

  module _ (more delta : Delta) (after new : Round) (evaluated : IsEvaluated plan passage number delta begun after) (appended : IsAppended delta gathered more)
      (names_is : new.names.items ≡ after.names.items) (rules_is : new.rules.items ≡ after.rules.items) (changed_is : new.changed ≡ after.changed)
      (pop : (d : Due) → slice_get after.queue 0 ≡ Some d → IsPopped after.queue new.queue d) where
    next_evaluated : IsEvaluated plan passage next.entry.rule delta begun after
    next_evaluated = subst (λ (k : ℕ). IsEvaluated plan passage k delta begun after) (sym next.rule_is) evaluated

    next_popped : IsPopped after.queue new.queue next.entry
    next_popped = pop next.entry (subst (λ (queue : List Due). slice_get queue 0 ≡ Some next.entry) (sym evaluated.queue) next.least.first)

    pub next_within : IsWithin plan passage head more new
    next_within =
        still_within plan passage head gathered more delta begun after new next.entry within next_entry next.head_is next_evaluated appended names_is rules_is changed_is next_popped

    pub next_fewer : length new.queue < length begun.queue
    next_fewer =
        let fewer : length after.queue ≡ length (next.entry ∷ new.queue) = ap (λ (queue : List Due). length queue) next_popped.rest in
        let same : length after.queue ≡ length begun.queue = ap (λ (queue : List Due). length queue) evaluated.queue in
        omega (arith, fewer, same)

    pub next_cost : (before now : ℕ) → ((rule : PlanRule) → slice_get plan.rules number ≡ Some rule → now ≤ before + work_of plan passage rule)
        → now + work_left plan passage (rank plan head + 1) new.queue ≤ before + work_left plan passage (rank plan head + 1) begun.queue
    next_cost before now cost =
        let less = work_less plan passage head gathered more delta begun after new next.entry within next_entry next.head_is next_evaluated appended names_is rules_is changed_is next_popped in
        let spent : now ≤ before + work_of plan passage next_entry.rule = cost next_entry.rule next_at in
        omega (arith, less, spent)
