-- A name took what was gathered for it, and the rules that read it are due where its held intervals changed.
use Rattle.std.proofs.Common.{◌≡◌, ◌≢◌, ℕ, ◌+◌, ◌<◌, ◌≤◌, Bool, true, false, cond, ◌||◌, ◌==◌, nat_le, List, length, get_or, slice_get, slice_set, Option, Some, All, Contains, ◌⊎◌, refl, ap, sym, subst, ◌∙◌, inl, inr, arith, true≢false}
use Rattle.std.specs.List.{list_any}
use Rattle.std.proofs.lemmas.Bool.{eq-eqb}
use Rattle.std.proofs.lemmas.Bool.Decides.{nat_tests, eqb_tells}
use Rattle.std.proofs.lemmas.List.{get_or-set_same, get_or-set_other, length-set}
use Rattle.std.proofs.lemmas.List.Elements.{All-contains, Contains-get_or}
use Rattle.nf_core.specs.Intervals.{Interval}
use Rattle.nf_core.specs.Sets.{IsSet, has}
use Rattle.nf_core.specs.Plan.{Plan}
use Rattle.nf_core.specs.declared.intervals.Delta.{Delta}
use Rattle.nf_core.specs.declared.terms.PlanRule.{PlanRule}
use Rattle.nf_model.specs.Levels.{Pools}
use Rattle.nf_model.specs.Pools.{of_name, holds_all}
use Rattle.nf_model.specs.Changes.{delta_of}
use Rattle.nf_minimal.specs.Minimals.{Minimal, candidates_of, held_of}
use Rattle.nf_tally.specs.Numbers.{number, often}
use Rattle.nf_engine.specs.declared.parts.RulePart.{RulePart}
use Rattle.nf_engine.specs.declared.queues.Due.{Due}
use Rattle.nf_engine.specs.declared.rounds.Round.{Round}
use Rattle.nf_engine.specs.inner.Deltas.{NamedDeltas, no_change, delta_at, is_changed}
use Rattle.nf_engine.specs.inner.Numbered.{one_if}
use Rattle.nf_engine.specs.inner.Parts.{IsPartOf}
use Rattle.nf_engine.specs.inner.Queues.{rank, is_due}
use Rattle.nf_engine.specs.inner.Readers.{readers_of, IsReader, AreReaders, IsEntryFor}
use Rattle.nf_engine.specs.inner.Rounds.{Passage, IsPassage, old_pools, minimal_at, held_in, part_at, reads, known_to, found, only_at, nothing, IsDueIn, AreSources, IsBetween, IsWithin, work_of, work_left}
use Rattle.nf_engine.specs.inner.Turns.{IsPut, IsLeft, IsApplied, IsRecorded}
use Rattle.nf_engine.proofs.DeltaLemmas.{unchanged_at, stays}
use Rattle.nf_engine.proofs.HeldLemmas.{IsSet-judged, IsSet-pool}
use Rattle.nf_engine.proofs.NumberedLemmas.{numbered_alike}
use Rattle.nf_engine.proofs.PartLemmas.{part_alike, results_alike}
use Rattle.nf_engine.proofs.QueueLemmas.{one_rule}
use Rattle.nf_engine.proofs.RankLemmas.{lower_first}
use Rattle.nf_engine.proofs.SettledLemmas.{All-there, found_alike, only_elsewhere}

-- what is told by a truth value, and what is not so by the other one
told : (b : Bool) → (b ≡ true → ⊥) → b ≡ false
told true never = absurd (never refl)
told false never = refl

or_right : (a b : Bool) → b ≡ true → (a || b) ≡ true
or_right true b e = refl
or_right false b e = e

module _ (plan : Plan) (passage : Passage) (is : IsPassage plan passage) (readers : List (List ℕ)) (index : AreReaders plan readers) (head : ℕ) (named : head < length plan.names)
    (gathered delta : Delta) (begun given new : Round) (m : Minimal)
    (within : IsWithin plan passage head gathered begun) (last : All (IsDueIn plan (rank plan head + 1)) begun.queue)
    (full_is : m.full ≡ (minimal_at begun.names.items head).full)
    (counted : (q : Interval) → number m.sources q + often gathered.gone q ≡ number (minimal_at begun.names.items head).sources q + often gathered.come q)
    (leads : delta ≡ delta_of (held_in begun.names.items head) (held_of m))
    (names_set : given.names.items ≡ slice_set begun.names.items head m) (rules_same : given.rules.items ≡ begun.rules.items)
    (changed_same : given.changed ≡ begun.changed) (queue_same : given.queue ≡ begun.queue)
    (recorded : IsRecorded plan readers head delta given new) where
  abbrev old_names : List Minimal
  old_names = begun.names.items

  abbrev new_names : List Minimal
  new_names = new.names.items

  names_now : new_names ≡ slice_set old_names head m
  names_now = recorded.same_names ∙ names_set

  placed : head < length old_names
  placed = let each : length old_names ≡ length plan.names = within.each_name in omega arith

  own_now : minimal_at new_names head ≡ m
  own_now = ap (λ (ns : List Minimal). minimal_at ns head) names_now ∙ get_or-set_same old_names head m _ placed

  other_now : (n : ℕ) → n ≢ head → minimal_at new_names n ≡ minimal_at old_names n
  other_now n other = ap (λ (ns : List Minimal). minimal_at ns n) names_now ∙ get_or-set_other old_names head n m _ other

  held_own : held_in new_names head ≡ held_of m
  held_own = ap held_of own_now

  held_other : (n : ℕ) → n ≢ head → held_in new_names n ≡ held_in old_names n
  held_other n other = ap held_of (other_now n other)

  -- the name had no delta, so it still held its old pool
  no_delta : is_changed begun.changed head ≡ false
  no_delta = told (is_changed begun.changed head) (λ e. let turned = within.turned head e in let early : rank plan head < rank plan head = turned.1 in omega arith)

  IsSet-held : (ns : List Minimal) (n : ℕ) → IsSet (held_in ns n)
  IsSet-held ns n = IsSet-judged (minimal_at ns n).full (candidates_of (minimal_at ns n))

  -- a name without a delta holds its old pool
  still_old : (n : ℕ) → n < length plan.names → is_changed begun.changed n ≡ false → held_in old_names n ≡ old_pools plan passage n
  still_old n inside none =
      stays (old_pools plan passage n) (held_in old_names n) (IsSet-pool plan passage.full passage.before n) (IsSet-held old_names n)
      (sym (within.deltas n inside) ∙ unchanged_at begun.changed n none)

  own_old : held_in old_names head ≡ old_pools plan passage head
  own_old = still_old head named no_delta

  leads_on : delta ≡ delta_of (old_pools plan passage head) (held_in new_names head)
  leads_on =
      leads ∙ ap (λ (js : List Interval). delta_of js (held_of m)) own_old ∙ ap (λ (js : List Interval). delta_of (old_pools plan passage head) js) (sym held_own)

  -- rules that read the name come after it
  beyond : (k : ℕ) (rule : PlanRule) → slice_get plan.rules k ≡ Some rule → reads rule head ≡ true → rank plan head + 1 ≤ rank plan rule.head
  beyond k rule at read =
      let below = is.lower k rule head at read in
      let before : rank plan head < rank plan rule.head = lower_first plan head rule.head below.name below.level in
      omega arith

  -- a rule that wasn't due and comes after the name reads names that hold their old pools
  reads_old : (k : ℕ) (rule : PlanRule) (n : ℕ) → slice_get plan.rules k ≡ Some rule → is_due begun.queue k ≡ false → rank plan head + 1 ≤ rank plan rule.head → reads rule n ≡ true
      → held_in old_names n ≡ old_pools plan passage n
  reads_old k rule n at idle late read =
      still_old n (is.lower k rule n at read).name
      (told (is_changed begun.changed n) (λ e. true≢false (sym (within.queued k rule n at read e late) ∙ idle)))

  -- each rule knows the same of the names that it reads
  abbrev K : ℕ → Pools
  K = known_to plan passage old_names begun.queue

  abbrev L : ℕ → Pools
  L = known_to plan passage new_names new.queue

  abbrev Choose : Bool → List Minimal → ℕ → List Interval
  Choose b ns n = cond b (old_pools plan passage) (held_in ns) n

  same_known : (k : ℕ) (rule : PlanRule) → slice_get plan.rules k ≡ Some rule → (n : ℕ) → reads rule n ≡ true → K k n ≡ L k n
  same_known k rule at n read = by recorded.kept
    where
      left : (b : Bool) → held_in new_names n ≡ held_in old_names n → Choose b old_names n ≡ Choose b new_names n
      left true e = refl
      left false e = sym e

      not_read : reads rule head ≡ false → held_in new_names n ≡ held_in old_names n
      not_read unread = held_other n (λ e. true≢false (sym (subst (λ (x : ℕ). reads rule x ≡ true) e read) ∙ unread))

      put : (a b : Bool) → is_due begun.queue k ≡ b → (a ≡ true → reads rule head ≡ true) → (reads rule head ≡ true → a ≡ true) → Choose b old_names n ≡ Choose (a || b) new_names n
      put true true due reader complete = refl
      put false true due reader complete = refl
      put true false due reader complete = reads_old k rule n at due (beyond k rule at (reader refl)) read
      put false false due reader complete = sym (not_read (told (reads rule head) (λ e. true≢false (sym (complete e)))))

      by : IsPut plan readers head delta given new ⊎ IsLeft delta given new → K k n ≡ L k n
      by (inl h) =
          let listed : (list_any (λ x. x == k) (readers_of readers head) ≡ true) → reads rule head ≡ true = λ there.
          let reader = All-there (IsReader plan head) (readers_of readers head) k (index.rules head) there in
          subst (λ (r : PlanRule). reads r head ≡ true) (one_rule plan.rules k reader.rule rule reader.at at) reader.reads in
          put (list_any (λ x. x == k) (readers_of readers head)) (is_due begun.queue k) refl listed (index.complete head k rule at)
          ∙ ap (λ b. Choose b new_names n) (sym (h.queue.due k ∙ ap (λ (queue : List Due). list_any (λ x. x == k) (readers_of readers head) || is_due queue k) queue_same))
      by (inr h) =
          let stayed : held_of m ≡ held_in old_names head =
          stays (held_in old_names head) (held_of m) (IsSet-held old_names head) (IsSet-judged m.full (candidates_of m)) (sym leads ∙ h.nothing) in
          let same : held_in new_names n ≡ held_in old_names n =
          elim (eqb_tells n head) [
            | inl e ↦ subst (λ (x : ℕ). held_in new_names x ≡ held_in old_names x) (sym e.1) (held_own ∙ stayed)
            | inr other ↦ held_other n other.1
          ] in
          left (is_due begun.queue k) same ∙ ap (λ (queue : List Due). Choose (is_due queue k) new_names n) (sym (h.queue ∙ queue_same))

  found_now : (n : ℕ) (q : Interval) → found plan K n q ≡ found plan L n q
  found_now n q = found_alike plan K L n q (λ k rule at of_n. results_alike rule (K k) (L k) (same_known k rule at))

  sources_now : AreSources plan passage nothing new_names new.queue
  sources_now n inside q = by (eqb_tells n head)
    where
      inputs : ℕ
      inputs = one_if (has (of_name passage.now n) q)

      Counts : Minimal → Delta → ℕ → Type 0
      Counts x g all = number x.sources q + often g.come q ≡ often g.gone q + (inputs + all)

      was : Counts (minimal_at old_names n) (only_at head gathered n) (found plan K n q)
      was = within.sources n inside q

      by : ((n == head) ≡ true) × (n ≡ head) ⊎ ((n == head) ≡ false) × (n ≢ head) → Counts (minimal_at new_names n) no_change (found plan L n q)
      by (inl e) =
          let old : Counts (minimal_at old_names head) gathered (found plan K n q) =
          subst (λ (x : ℕ). Counts (minimal_at old_names x) gathered (found plan K n q)) e.1
          (subst (λ b. Counts (minimal_at old_names n) (cond b gathered no_change) (found plan K n q)) e.0 was) in
          let now : number m.sources q + often gathered.gone q ≡ number (minimal_at old_names head).sources q + often gathered.come q = counted q in
          let same : found plan K n q ≡ found plan L n q = found_now n q in
          let own : number m.sources q ≡ inputs + found plan L n q = omega (arith, old, now, same) in
          let own_is : minimal_at new_names n ≡ m = ap (minimal_at new_names) e.1 ∙ own_now in
          let result : Counts m no_change (found plan L n q) = omega (arith, own) in
          subst (λ (x : Minimal). Counts x no_change (found plan L n q)) (sym own_is) result
      by (inr other) =
          let old : Counts (minimal_at old_names n) no_change (found plan K n q) =
          subst (λ (g : Delta). Counts (minimal_at old_names n) g (found plan K n q)) (only_elsewhere head gathered n other.1) was in
          subst (λ (x : Minimal). Counts x no_change (found plan L n q)) (sym (other_now n other.1)) (subst (λ (a : ℕ). Counts (minimal_at old_names n) no_change a) (found_now n q) old)

  full_now : (n : ℕ) → n < length plan.names → (minimal_at new_names n).full ≡ holds_all plan passage.full n
  full_now n inside =
      elim (eqb_tells n head) [
        | inl e ↦ ap (λ (x : ℕ). (minimal_at new_names x).full) e.1 ∙ ap (λ (x : Minimal). x.full) own_now ∙ full_is
            ∙ ap (λ (x : ℕ). (minimal_at old_names x).full) (sym e.1) ∙ within.full n inside
        | inr other ↦ ap (λ (x : Minimal). x.full) (other_now n other.1) ∙ within.full n inside
      ]

  deltas_now : (n : ℕ) → n < length plan.names → delta_at new.changed n ≡ delta_of (old_pools plan passage n) (held_in new_names n)
  deltas_now n inside = by recorded.kept (eqb_tells n head)
    where
      old_given : delta_at given.changed n ≡ delta_of (old_pools plan passage n) (held_in old_names n)
      old_given = ap (λ (c : NamedDeltas). delta_at c n) changed_same ∙ within.deltas n inside

      same : n ≢ head → delta_of (old_pools plan passage n) (held_in old_names n) ≡ delta_of (old_pools plan passage n) (held_in new_names n)
      same other = ap (λ (js : List Interval). delta_of (old_pools plan passage n) js) (sym (held_other n other))

      by : IsPut plan readers head delta given new ⊎ IsLeft delta given new → ((n == head) ≡ true) × (n ≡ head) ⊎ ((n == head) ≡ false) × (n ≢ head)
          → delta_at new.changed n ≡ delta_of (old_pools plan passage n) (held_in new_names n)
      by (inl h) (inl e) =
          h.deltas n ∙ ap (λ b. cond b delta (delta_at given.changed n)) e.0 ∙ leads_on
          ∙ ap (λ (x : ℕ). delta_of (old_pools plan passage x) (held_in new_names x)) (sym e.1)
      by (inl h) (inr other) = h.deltas n ∙ ap (λ b. cond b delta (delta_at given.changed n)) other.0 ∙ old_given ∙ same other.1
      by (inr h) (inl e) =
          let none : is_changed new.changed n ≡ false = ap (λ (c : NamedDeltas). is_changed c n) (h.changed ∙ changed_same) ∙ ap (is_changed begun.changed) e.1 ∙ no_delta in
          unchanged_at new.changed n none ∙ sym h.nothing ∙ leads_on ∙ ap (λ (x : ℕ). delta_of (old_pools plan passage x) (held_in new_names x)) (sym e.1)
      by (inr h) (inr other) = ap (λ (c : NamedDeltas). delta_at c n) h.changed ∙ old_given ∙ same other.1

  turned_now : (n : ℕ) → is_changed new.changed n ≡ true → (n < length plan.names) × (rank plan n < rank plan head + 1)
  turned_now n changed = by recorded.kept (eqb_tells n head)
    where
      was : is_changed begun.changed n ≡ true → (n < length plan.names) × (rank plan n < rank plan head + 1)
      was e = let turned = within.turned n e in let early : rank plan n < rank plan head = turned.1 in (turned.0, omega arith)

      by : IsPut plan readers head delta given new ⊎ IsLeft delta given new → ((n == head) ≡ true) × (n ≡ head) ⊎ ((n == head) ≡ false) × (n ≢ head)
          → (n < length plan.names) × (rank plan n < rank plan head + 1)
      by k (inl e) = let same : rank plan n ≡ rank plan head = ap (rank plan) e.1 in (subst (λ (x : ℕ). x < length plan.names) (sym e.1) named, omega arith)
      by (inl h) (inr other) =
          was (sym (h.names n ∙ ap (λ b. b || is_changed given.changed n) other.0 ∙ ap (λ (c : NamedDeltas). is_changed c n) changed_same) ∙ changed)
      by (inr h) (inr other) = was (sym (ap (λ (c : NamedDeltas). is_changed c n) (h.changed ∙ changed_same)) ∙ changed)

  due_now : All (IsDueIn plan (rank plan head + 1)) new.queue
  due_now = by recorded.kept
    where
      by : IsPut plan readers head delta given new ⊎ IsLeft delta given new → All (IsDueIn plan (rank plan head + 1)) new.queue
      by (inl h) = λ k default inside. entry h (get_or new.queue k default) (h.queue.entries (get_or new.queue k default) (Contains-get_or new.queue k default inside))
        where
          entry : IsPut plan readers head delta given new → (d : Due) → Contains given.queue d ⊎ (IsEntryFor plan d × Contains (readers_of readers head) d.rule) → IsDueIn plan (rank plan head + 1) d
          entry h d (inl there) = All-contains (IsDueIn plan (rank plan head + 1)) begun.queue d last (subst (λ (queue : List Due). Contains queue d) queue_same there)
          entry h d (inr of) =
              let reader = All-contains (IsReader plan head) (readers_of readers head) d.rule (index.rules head) of.1 in
              let one : reader.rule ≡ of.0.rule = one_rule plan.rules d.rule reader.rule of.0.rule reader.at of.0.at in
              record {
                rule = of.0.rule;
                at = of.0.at;
                head = of.0.head;
                level = of.0.level;
                late = beyond d.rule of.0.rule of.0.at (subst (λ (r : PlanRule). reads r head ≡ true) one reader.reads);
              }
      by (inr h) = subst (All (IsDueIn plan (rank plan head + 1))) (sym (h.queue ∙ queue_same)) last

  queued_now : (k : ℕ) (rule : PlanRule) (n : ℕ) → slice_get plan.rules k ≡ Some rule → reads rule n ≡ true → is_changed new.changed n ≡ true
      → rank plan head + 1 ≤ rank plan rule.head → is_due new.queue k ≡ true
  queued_now k rule n at read changed late = by recorded.kept (eqb_tells n head)
    where
      was : is_changed begun.changed n ≡ true → is_due begun.queue k ≡ true
      was e = within.queued k rule n at read e late

      by : IsPut plan readers head delta given new ⊎ IsLeft delta given new → ((n == head) ≡ true) × (n ≡ head) ⊎ ((n == head) ≡ false) × (n ≢ head) → is_due new.queue k ≡ true
      by (inl h) (inl e) =
          h.queue.due k ∙ ap (λ b. b || is_due given.queue k) (index.complete head k rule at (subst (λ (x : ℕ). reads rule x ≡ true) e.1 read))
      by (inl h) (inr other) =
          h.queue.due k
          ∙ or_right (list_any (λ x. x == k) (readers_of readers head)) (is_due given.queue k)
          (ap (λ (queue : List Due). is_due queue k) queue_same
          ∙ was (sym (h.names n ∙ ap (λ b. b || is_changed given.changed n) other.0 ∙ ap (λ (c : NamedDeltas). is_changed c n) changed_same) ∙ changed))
      by (inr h) e =
          ap (λ (queue : List Due). is_due queue k) (h.queue ∙ queue_same)
          ∙ was (sym (ap (λ (c : NamedDeltas). is_changed c n) (h.changed ∙ changed_same)) ∙ changed)

  pub turn_ends : IsBetween plan passage (rank plan head + 1) new
  turn_ends = record {
    each_name = ap (λ (ns : List Minimal). length ns) names_now ∙ length-set old_names head m ∙ within.each_name;
    each_rule = ap (λ (ps : List (Option RulePart)). length ps) (recorded.same_rules ∙ rules_same) ∙ within.each_rule;
    full = full_now;
    sources = sources_now;
    parts = λ k rule at.
        part_alike rule (K k) (L k) (same_known k rule at) (part_at new.rules.items k)
        (subst (λ (ps : List (Option RulePart)). IsPartOf rule (K k) (part_at ps k)) (sym (recorded.same_rules ∙ rules_same)) (within.parts k rule at));
    deltas = deltas_now;
    turned = turned_now;
    due = due_now;
    queued = queued_now;
  }

  -- the rules that are due now come after the name, so they were counted already
  pub same_left : work_left plan passage (rank plan head + 1) new.queue ≡ work_left plan passage (rank plan head + 1) begun.queue
  same_left =
      numbered_alike (λ k rule. cond (is_due new.queue k || nat_le (rank plan head + 1) (rank plan rule.head)) (work_of plan passage rule) 0)
      (λ k rule. cond (is_due begun.queue k || nat_le (rank plan head + 1) (rank plan rule.head)) (work_of plan passage rule) 0) plan.rules
      (λ k rule at. ap (λ b. cond b (work_of plan passage rule) 0) (by k rule at recorded.kept))
    where
      counted_in : (a b c : Bool) → (a ≡ true → c ≡ true) → ((a || b) || c) ≡ (b || c)
      counted_in true true c h = refl
      counted_in true false c h = sym (h refl)
      counted_in false b c h = refl

      by : (k : ℕ) (rule : PlanRule) → slice_get plan.rules k ≡ Some rule → IsPut plan readers head delta given new ⊎ IsLeft delta given new
          → (is_due new.queue k || nat_le (rank plan head + 1) (rank plan rule.head)) ≡ (is_due begun.queue k || nat_le (rank plan head + 1) (rank plan rule.head))
      by k rule at (inl h) =
          ap (λ b. b || nat_le (rank plan head + 1) (rank plan rule.head))
          (h.queue.due k ∙ ap (λ (queue : List Due). list_any (λ x. x == k) (readers_of readers head) || is_due queue k) queue_same)
          ∙ counted_in (list_any (λ x. x == k) (readers_of readers head)) (is_due begun.queue k) (nat_le (rank plan head + 1) (rank plan rule.head))
          (λ there.
          let reader = All-there (IsReader plan head) (readers_of readers head) k (index.rules head) there in
          let one : reader.rule ≡ rule = one_rule plan.rules k reader.rule rule reader.at at in
          let after : rank plan head + 1 ≤ rank plan rule.head = beyond k rule at (subst (λ (r : PlanRule). reads r head ≡ true) one reader.reads) in
          grind (arith, nat_tests))
      by k rule at (inr h) = ap (λ (queue : List Due). is_due queue k || nat_le (rank plan head + 1) (rank plan rule.head)) (h.queue ∙ queue_same)

-- what is gathered takes no more away than there is
pub enough_at : (plan : Plan) (passage : Passage) (head : ℕ) (gathered : Delta) (round : Round) → IsWithin plan passage head gathered round → head < length plan.names
    → (q : Interval) → often gathered.gone q ≤ number (minimal_at round.names.items head).sources q + often gathered.come q
enough_at plan passage head gathered round within named q =
    let F : ℕ = found plan (known_to plan passage round.names.items round.queue) head q in
    let I : ℕ = one_if (has (of_name passage.now head) q) in
    let counted : number (minimal_at round.names.items head).sources q + often gathered.come q ≡ often gathered.gone q + (I + F) =
    subst (λ b. number (minimal_at round.names.items head).sources q + often (cond b gathered no_change).come q ≡ often (cond b gathered no_change).gone q + (I + F))
    (eq-eqb head head refl) (within.sources head named q) in
    omega (arith, counted)

-- the turn ends
module _ (plan : Plan) (passage : Passage) (is : IsPassage plan passage) (readers : List (List ℕ)) (index : AreReaders plan readers) (head : ℕ) (named : head < length plan.names)
    (gathered delta : Delta) (begun given new : Round) (within : IsWithin plan passage head gathered begun) (last : All (IsDueIn plan (rank plan head + 1)) begun.queue)
    (applied : IsApplied head gathered delta begun.names.items given.names.items) (rules_same : given.rules.items ≡ begun.rules.items)
    (changed_same : given.changed ≡ begun.changed) (queue_same : given.queue ≡ begun.queue) (recorded : IsRecorded plan readers head delta given new) where
  pub settled_between : IsBetween plan passage (rank plan head + 1) new
  settled_between =
      turn_ends plan passage is readers index head named gathered delta begun given new applied.minimal within last applied.full applied.counted applied.leads applied.set rules_same changed_same queue_same recorded

  pub settled_left : work_left plan passage (rank plan head + 1) new.queue ≡ work_left plan passage (rank plan head + 1) begun.queue
  settled_left =
      same_left plan passage is readers index head named gathered delta begun given new applied.minimal within last applied.full applied.counted applied.leads applied.set rules_same changed_same queue_same recorded

-- ---- where nothing was gathered
only_nothing : (head n : ℕ) → only_at head no_change n ≡ no_change
only_nothing head n = by (n == head)
  where
    by : (b : Bool) → cond b no_change no_change ≡ no_change
    by true = refl
    by false = refl

pub settled_nothing : (plan : Plan) (passage : Passage) (head : ℕ) (gathered : Delta) (round : Round) → gathered ≡ no_change → IsWithin plan passage head gathered round
    → All (IsDueIn plan (rank plan head + 1)) round.queue → IsBetween plan passage (rank plan head + 1) round
settled_nothing plan passage head gathered round none within last = record {
  each_name = within.each_name;
  each_rule = within.each_rule;
  full = within.full;
  sources = λ n known q.
      let here : only_at head gathered n ≡ no_change = ap (λ d. only_at head d n) none ∙ only_nothing head n in
      subst (λ (d : Delta). number (minimal_at round.names.items n).sources q + often d.come q
      ≡ often d.gone q + (one_if (has (of_name passage.now n) q) + found plan (known_to plan passage round.names.items round.queue) n q)) here (within.sources n known q);
  parts = within.parts;
  deltas = within.deltas;
  turned = λ n changed. let before = within.turned n changed in (before.0, omega (arith, before.1));
  due = last;
  queued = within.queued;
}
