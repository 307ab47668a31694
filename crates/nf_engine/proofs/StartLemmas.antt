-- How a step begins at an evaluator, and what it leaves.
use Rattle.std.proofs.Common.{◌≡◌, ◌≢◌, ℕ, ◌+◌, ◌<◌, ◌≤◌, Bool, true, false, cond, not, ◌&&◌, ◌||◌, ◌==◌, nat_lt, nat_le, List, [], ◌∷◌, ◌++◌, length, map, filter, flat_map, get_or, slice_get, Some, All, ◌⊎◌, true≢false, refl, ap, sym, subst, ◌∙◌, inl, inr, arith}
use Rattle.std.proofs.lemmas.Bool.Decides.{nat_tests, eqb_tells}
use Rattle.std.proofs.lemmas.List.Elements.{All-nil, All-head, All-tail, All-weaker}
use Rattle.std.proofs.lemmas.Option.{slice_get-get_or}
use Rattle.nf_core.specs.Intervals.{Interval, same}
use Rattle.nf_core.specs.Sets.{IsSet, has, inserted, once}
use Rattle.nf_core.specs.Plan.{Plan, level_of, rules_of}
use Rattle.nf_core.specs.declared.intervals.Change.{Change}
use Rattle.nf_core.specs.declared.intervals.Delta.{Delta}
use Rattle.nf_core.specs.declared.intervals.Named.{Named}
use Rattle.nf_core.specs.declared.terms.PlanRule.{PlanRule}
use Rattle.nf_core.proofs.Public.SetLemmas.{same_set, IsSet-empty, IsSet-filter, IsSet-once, IsSet-inserted, has_inserted, has_filter, has_append}
use Rattle.nf_core.proofs.Public.SameIntervalLemmas.{same_is, same_swapped}
use Rattle.nf_model.specs.Changes.{heads, named, lacking, beyond, change_over, delta_of}
use Rattle.nf_model.specs.Levels.{Pools, IsBelow}
use Rattle.nf_model.specs.Pools.{Inputs, of_name, results_over}
use Rattle.nf_model.proofs.Public.ChangeLemmas.{heads_within}
use Rattle.nf_minimal.specs.Minimals.{Minimal, candidates_of}
use Rattle.nf_tally.specs.Numbers.{number, often, is_on}
use Rattle.nf_tally.proofs.Public.OftenLemmas.{often-one}
use Rattle.nf_engine.specs.declared.queues.Due.{Due}
use Rattle.nf_engine.specs.declared.rounds.Round.{Round}
use Rattle.nf_engine.specs.inner.Deltas.{NamedDeltas, no_change, delta_at, is_changed, change_of_heads}
use Rattle.nf_engine.specs.inner.Engines.{AreKept, IsBegun, coming}
use Rattle.nf_engine.specs.inner.Numbered.{one_if}
use Rattle.nf_engine.specs.inner.Parts.{IsPartOf}
use Rattle.nf_engine.specs.inner.Queues.{rank, is_due}
use Rattle.nf_engine.specs.inner.Rounds.{Passage, old_pools, minimal_at, held_in, part_at, reads, found, only_at, nothing, known_to, IsDueIn, AreSources, IsUnderway, work_of, work_left}
use Rattle.nf_engine.specs.inner.Running.{whole_work}
use Rattle.nf_engine.proofs.HeldLemmas.{IsSet-pool, has_candidates, sources_on}
use Rattle.nf_engine.proofs.NumberedLemmas.{numbered_at_most, numbered_plain}
use Rattle.nf_engine.proofs.PartLemmas.{reads_first}
use Rattle.nf_engine.proofs.ToldLemmas.{joined_alike}
use Rattle.nf_engine.proofs.SettledLemmas.{found_alike, known_held}

-- ---- the work that may be left is no more than the whole
some_of : (b : Bool) (w : ℕ) → cond b w 0 ≤ w
some_of true w = omega arith
some_of false w = omega arith

pub left_of_whole : (plan : Plan) (passage : Passage) (frontier : ℕ) (round : Round) → work_left plan passage frontier round.queue ≤ whole_work plan passage
left_of_whole plan passage frontier round =
    let most = numbered_at_most (λ k rule. cond (is_due round.queue k || nat_le frontier (rank plan rule.head)) (work_of plan passage rule) 0) (λ k rule. work_of plan passage rule) plan.rules
    (λ k rule at. some_of (is_due round.queue k || nat_le frontier (rank plan rule.head)) (work_of plan passage rule)) in
    let all = numbered_plain (work_of plan passage) plan.rules in
    omega (arith, most, all)

-- ---- a step begins
never_both : (b : Bool) → (b && not b) ≡ false
never_both true = refl
never_both false = refl

-- a list lacks nothing of itself
none_lacking : (is : List Interval) → IsSet is → lacking is is ≡ []
none_lacking is s =
    same_set (lacking is is) [] (IsSet-filter (λ i. not (has is i)) is s) IsSet-empty (λ q. has_filter (λ i. not (has is i)) q is ∙ never_both (has is q))

pub stays_is : (old now : List Interval) → IsSet old → now ≡ old → no_change ≡ delta_of old now
stays_is old now s same =
    sym (ap (λ (js : List Interval). delta_of old js) same
    ∙ ap (λ (js : List Interval). let d : Delta = record { gone = js; come = lacking old old } in d) (none_lacking old s)
    ∙ ap (λ (js : List Interval). let d : Delta = record { gone = []; come = js } in d) (none_lacking old s))

-- an interval that is no member counts once more where it is put in
counts_more : (a b : Bool) (n : ℕ) → (a ≡ true → b ≡ false) → one_if (a || b) ≡ one_if b + one_if a
counts_more true b n none = let off : one_if b ≡ 0 = ap one_if (none refl) in omega arith
counts_more false b n none = omega arith

pub comes_in : (i : Interval) (is : List Interval) (q : Interval) → has is i ≡ false → one_if (has (inserted i is) q) ≡ one_if (has is q) + often (i ∷ []) q
comes_in i is q absent =
    ap one_if (has_inserted i is q) ∙ counts_more (same q i) (has is q) 0 (λ e. ap (has is) (same_is q i e) ∙ absent)
    ∙ ap (λ n. one_if (has is q) + n) (ap one_if (same_swapped q i) ∙ sym (often-one i q))

-- an interval that is a member changes nothing
pub stays_in : (i : Interval) (is : List Interval) → IsSet is → has is i ≡ true → inserted i is ≡ is
stays_in i is s there = same_set (inserted i is) is (IsSet-inserted i is s) s (λ q. has_inserted i is q ∙ by q (same q i) refl)
  where
    by : (q : Interval) (b : Bool) → same q i ≡ b → (b || has is q) ≡ has is q
    by q true e = sym (ap (has is) (same_is q i e) ∙ there)
    by q false e = refl

-- nothing is to be evaluated and nothing changed: what is kept is that of the inputs before, and the sources may be counted anew
module _ (plan : Plan) (passage : Passage) (low high : ℕ) (gathered : ℕ → Delta) (round : Round)
    (kept : AreKept plan passage.full passage.before round.names.items round.rules.items) (none : round.changed ≡ []) (idle : round.queue ≡ [])
    (old : (n : ℕ) → n < length plan.names → held_in round.names.items n ≡ old_pools plan passage n) where
  idle_at : (k : ℕ) → is_due round.queue k ≡ false
  idle_at k = ap (λ (queue : List Due). is_due queue k) idle

  known : (k : ℕ) → known_to plan passage round.names.items round.queue k ≡ held_in round.names.items
  known k = known_held plan passage round.names.items round.queue k (idle_at k)

  unchanged : (n : ℕ) → is_changed round.changed n ≡ false
  unchanged n = ap (λ (c : NamedDeltas). is_changed c n) none

  pub found_first : (n : ℕ) (q : Interval) → found plan (λ k. held_in round.names.items) n q ≡ found plan (known_to plan passage round.names.items round.queue) n q
  found_first n q =
      found_alike plan (λ k. held_in round.names.items) (known_to plan passage round.names.items round.queue) n q
      (λ k rule at of_n. ap (λ (P : Pools). results_over P rule) (sym (known k)))

  pub begins : AreSources plan passage gathered round.names.items round.queue → IsUnderway plan passage low high gathered round
  begins sources = record {
    each_name = kept.each_name;
    each_rule = kept.each_rule;
    full = kept.all;
    sources = sources;
    parts = λ k rule at. subst (λ (P : Pools). IsPartOf rule P (part_at round.rules.items k)) (sym (known k)) (kept.parts k rule at);
    deltas = λ n within.
        ap (λ (c : NamedDeltas). delta_at c n) none
        ∙ stays_is (old_pools plan passage n) (held_in round.names.items n) (IsSet-pool plan passage.full passage.before n) (old n within);
    turned = λ n changed. absurd (true≢false (sym changed ∙ unchanged n));
    due = subst (All (IsDueIn plan low)) (sym idle) (All-nil (IsDueIn plan low));
    queued = λ k rule m at read changed late. absurd (true≢false (sym changed ∙ unchanged m));
  }

module _ (plan : Plan) (passage : Passage) (name : ℕ) (i : Interval) (round : Round)
    (kept : AreKept plan passage.full passage.before round.names.items round.rules.items) (none : round.changed ≡ []) (idle : round.queue ≡ [])
    (old : (n : ℕ) → n < length plan.names → held_in round.names.items n ≡ old_pools plan passage n)
    (now : (n : ℕ) → of_name passage.now n ≡ cond (n == name) (inserted i (of_name passage.before n)) (of_name passage.before n))
    (sorted : (n : ℕ) → IsSet (of_name passage.before n)) where
  -- the sources with the interval, where it is no input yet
  turn_sources : has (of_name passage.before name) i ≡ false → AreSources plan passage (only_at name (coming i)) round.names.items round.queue
  turn_sources absent n within q = by (eqb_tells n name)
    where
      F : ℕ
      F = found plan (known_to plan passage round.names.items round.queue) n q

      was : number (minimal_at round.names.items n).sources q ≡ one_if (has (of_name passage.before n) q) + F
      was = kept.sources n within q ∙ ap (λ m. one_if (has (of_name passage.before n) q) + m) (found_first plan passage 0 0 nothing round kept none idle old n q)

      Counts : Delta → List Interval → Type 0
      Counts d is = number (minimal_at round.names.items n).sources q + often d.come q ≡ often d.gone q + (one_if (has is q) + F)

      by : ((n == name) ≡ true) × (n ≡ name) ⊎ ((n == name) ≡ false) × (n ≢ name) → Counts (only_at name (coming i) n) (of_name passage.now n)
      by (inl e) =
          let more : one_if (has (inserted i (of_name passage.before n)) q) ≡ one_if (has (of_name passage.before n) q) + often (i ∷ []) q =
          comes_in i (of_name passage.before n) q (ap (λ m. has (of_name passage.before m) i) e.1 ∙ absent) in
          let here : Counts (coming i) (inserted i (of_name passage.before n)) = omega (arith, was, more) in
          let of_now : inserted i (of_name passage.before n) ≡ of_name passage.now n =
          sym (now n ∙ ap (λ b. cond b (inserted i (of_name passage.before n)) (of_name passage.before n)) e.0) in
          subst (λ b. Counts (cond b (coming i) no_change) (of_name passage.now n)) (sym e.0) (subst (Counts (coming i)) of_now here)
      by (inr other) =
          let here : Counts no_change (of_name passage.before n) = omega (arith, was) in
          let of_now : of_name passage.before n ≡ of_name passage.now n =
          sym (now n ∙ ap (λ b. cond b (inserted i (of_name passage.before n)) (of_name passage.before n)) other.0) in
          subst (λ b. Counts (cond b (coming i) no_change) (of_name passage.now n)) (sym other.0) (subst (Counts no_change) of_now here)

  -- the sources as they are, where it is one
  same_sources : has (of_name passage.before name) i ≡ true → AreSources plan passage nothing round.names.items round.queue
  same_sources there n within q =
      let F : ℕ = found plan (known_to plan passage round.names.items round.queue) n q in
      let was : number (minimal_at round.names.items n).sources q ≡ one_if (has (of_name passage.before n) q) + F =
      kept.sources n within q ∙ ap (λ m. one_if (has (of_name passage.before n) q) + m) (found_first plan passage 0 0 nothing round kept none idle old n q) in
      let same : of_name passage.now n ≡ of_name passage.before n =
      elim (eqb_tells n name) [
        | inl e ↦ now n ∙ ap (λ b. cond b (inserted i (of_name passage.before n)) (of_name passage.before n)) e.0
            ∙ stays_in i (of_name passage.before n) (sorted n) (ap (λ m. has (of_name passage.before m) i) e.1 ∙ there)
        | inr other ↦ now n ∙ ap (λ b. cond b (inserted i (of_name passage.before n)) (of_name passage.before n)) other.0
      ] in
      let inputs : one_if (has (of_name passage.now n) q) ≡ one_if (has (of_name passage.before n) q) = ap (λ (is : List Interval). one_if (has is q)) same in
      omega (arith, was, inputs)

  pub step_begins : (b : Bool) → b ≡ has (of_name passage.before name) i → IsBegun plan passage name i b round
  step_begins b is = record {
    nothing_due = idle;
    turn = λ e. begins plan passage (rank plan name) (rank plan name + 1) (only_at name (coming i)) round kept none idle old (turn_sources (sym is ∙ e));
    over = λ e. begins plan passage 0 0 nothing round kept none idle old (same_sources (sym is ∙ e));
  }

-- ---- what a step leaves
filter_nothing : {X : Type 0} (p : X → Bool) (xs : List X) → All (λ x. p x ≡ false) xs → filter p xs ≡ []
filter_nothing p [] h = refl
filter_nothing p (x ∷ xs) h =
    ap (λ b. cond b (x ∷ filter p xs) (filter p xs)) (All-head (λ y. p y ≡ false) x xs h) ∙ filter_nothing p xs (All-tail (λ y. p y ≡ false) x xs h)

pub or_none : (b : Bool) → (b || false) ≡ b
or_none true = refl
or_none false = refl

-- names without rules have their inputs as candidates
pub inputs_are : (plan : Plan) (inputs : Inputs) (names : List Minimal) (n : ℕ)
    → ((k : ℕ) (rule : PlanRule) (m : ℕ) → slice_get plan.rules k ≡ Some rule → reads rule m ≡ true → IsBelow plan rule.head m) → IsSet (of_name inputs n)
    → ((q : Interval) → number (minimal_at names n).sources q ≡ one_if (has (of_name inputs n) q) + found plan (λ k. held_in names) n q) → nat_lt 0 (level_of plan n) ≡ false
    → candidates_of (minimal_at names n) ≡ of_name inputs n
inputs_are plan inputs names n lower sorted sources low =
    let m : Minimal = minimal_at names n in
    let zero : level_of plan n ≡ 0 = grind (arith, nat_tests) in
    let none : rules_of plan n ≡ [] =
    filter_nothing (λ (rule : PlanRule). rule.head == n) plan.rules
    (λ k d within.
    let rule : PlanRule = get_or plan.rules k d in
    elim (eqb_tells rule.head n) [
      | inl is ↦
          let below = lower k rule rule.first (slice_get-get_or plan.rules k d within) (reads_first rule) in
          let under : level_of plan rule.first < level_of plan rule.head = below.level in
          let own : level_of plan rule.head ≡ 0 = ap (level_of plan) is.1 ∙ zero in
          absurd (omega arith)
      | inr other ↦ other.0
    ]) in
    same_set (candidates_of m) (of_name inputs n) (IsSet-filter (λ i. is_on (number m.sources i)) (once (map (λ (e : Interval × ℕ). e.0) m.sources)) (IsSet-once (map (λ (e : Interval × ℕ). e.0) m.sources))) sorted
    (λ q.
    has_candidates m q ∙ ap is_on (sources q) ∙ sources_on plan inputs (held_in names) n q
    ∙ ap (λ (rules : List PlanRule). has (of_name inputs n ++ flat_map (results_over (held_in names)) rules) q) none
    ∙ has_append (of_name inputs n) [] q ∙ or_none (has (of_name inputs n) q))

-- the deltas of the heads are what their pools lost and gained
module _ (plan : Plan) (P Q : Pools) (deltas : ℕ → Delta) (leads : (n : ℕ) → n < length plan.names → deltas n ≡ delta_of (P n) (Q n)) where
  gone_is : flat_map (λ n. named n (deltas n).gone) (heads plan) ≡ beyond plan P Q
  gone_is =
      joined_alike (λ n. named n (deltas n).gone) (λ n. named n (lacking (P n) (Q n))) (heads plan)
      (All-weaker (λ n. n < length plan.names) (λ n. named n (deltas n).gone ≡ named n (lacking (P n) (Q n)))
      (λ n within. ap (λ (d : Delta). named n d.gone) (leads n within)) (heads plan) (heads_within plan))

  come_is : flat_map (λ n. named n (deltas n).come) (heads plan) ≡ beyond plan Q P
  come_is =
      joined_alike (λ n. named n (deltas n).come) (λ n. named n (lacking (Q n) (P n))) (heads plan)
      (All-weaker (λ n. n < length plan.names) (λ n. named n (deltas n).come ≡ named n (lacking (Q n) (P n)))
      (λ n within. ap (λ (d : Delta). named n d.come) (leads n within)) (heads plan) (heads_within plan))

  pub heads_changed : change_of_heads plan deltas ≡ change_over plan P Q
  heads_changed =
      ap (λ (list : List Named). let made : Change = record { gone = list; come = flat_map (λ n. named n (deltas n).come) (heads plan) } in made) gone_is
      ∙ ap (λ (list : List Named). let made : Change = record { gone = beyond plan P Q; come = list } in made) come_is
