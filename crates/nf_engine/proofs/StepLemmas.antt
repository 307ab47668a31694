-- A step as a whole: an evaluator that stands for its inputs stands for them with one more.
use Rattle.std.proofs.Common.{◌≡◌, ◌≢◌, ℕ, zero, suc, ◌+◌, ◌<◌, ◌==◌, Bool, true, false, cond, not, nat_lt, List, [], ◌∷◌, length, filter, slice_get, Option, Some, None, All, refl, ap, sym, subst, ◌∙◌, inl, inr, arith, if◌then◌else◌}
use Rattle.std.proofs.lemmas.Bool.{eq-eqb}
use Rattle.std.proofs.lemmas.Bool.Decides.{eqb_tells}
use Rattle.std.proofs.lemmas.List.{get_or-set_same, get_or-set_other, length-set}
use Rattle.std.proofs.lemmas.List.Elements.{All-nil, All-head, All-tail}
use Rattle.std.proofs.lemmas.List.FromFn.{get_or-map-range_with_len}
use Rattle.nf_core.specs.Intervals.{Interval}
use Rattle.nf_core.specs.Sets.{IsSet, has, inserted}
use Rattle.nf_core.specs.Plan.{Plan, IsPlan, IsRuleOf, is_wide, level_of, body_names}
use Rattle.nf_core.specs.declared.terms.PlanRule.{PlanRule}
use Rattle.nf_model.specs.Changes.{Content, IsContent, with_input, change}
use Rattle.nf_model.specs.Levels.{IsBelow}
use Rattle.nf_model.specs.Members.{IsInTime, IsOfKeys, AreOfKeys}
use Rattle.nf_model.specs.Pools.{Inputs, of_name, pool, holds_all, held_over}
use Rattle.nf_model.specs.Work.{work, work_between}
use Rattle.nf_model.proofs.Public.CellLemmas.{candidates_cells}
use Rattle.nf_model.proofs.Public.ContentLemmas.{content_grows}
use Rattle.nf_model.proofs.Public.LevelLemmas.{kept_by_levels}
use Rattle.nf_model.proofs.Public.PoolLemmas.{below_head, reads_below}
use Rattle.nf_minimal.specs.Minimals.{Minimal, candidates_of}
use Rattle.nf_engine.specs.declared.parts.RulePart.{RulePart}
use Rattle.nf_engine.specs.declared.rounds.Round.{Round}
use Rattle.nf_engine.specs.inner.Deltas.{delta_at, is_changed, change_of_heads}
use Rattle.nf_engine.specs.inner.Engines.{input_of, inputs_of, content_of, AreKept, IsEngine, passage_of, IsBegun, entered_with}
use Rattle.nf_engine.specs.inner.Queues.{rank}
use Rattle.nf_engine.specs.inner.Rounds.{Passage, IsPassage, minimal_at, held_in, reads}
use Rattle.nf_engine.specs.inner.Running.{IsEnded, whole_work}
use Rattle.nf_engine.proofs.EndLemmas.{ended_kept, ended_change, inputs_kept}
use Rattle.nf_engine.proofs.HeldLemmas.{held_is_step, held_is_pool}
use Rattle.nf_engine.proofs.SettledLemmas.{All-at, All-there}
use Rattle.nf_engine.proofs.StartLemmas.{step_begins, stays_in}

-- ---- what is held
pub held_are_pools : (plan : Plan) (full : Bool) (inputs : Inputs) (names : List Minimal) (rules : List (Option RulePart)) → IsPlan plan → AreKept plan full inputs names rules
    → (n : ℕ) → n < length plan.names → held_in names n ≡ pool plan full inputs n
held_are_pools plan full inputs names rules valid kept n within =
    held_is_pool plan full inputs (reads_below plan full inputs valid) (held_in names) (rank plan n + 1)
    (λ m inside early. held_is_step plan full inputs (held_in names) m (minimal_at names m) (kept.all m inside) (kept.sources m inside)) n within (omega arith)

-- ---- a step of a valid plan
-- what holds of each item that passes a test holds of one at a place that does
passed_at : {X : Type 0} (P : X → Type 0) (p : X → Bool) (xs : List X) (k : ℕ) (x : X) → All P (filter p xs) → slice_get xs k ≡ Some x → p x ≡ true → P x
passed_at P p [] k x h at passes = absurd cc
passed_at P p (y ∷ xs) zero x h at passes =
    let same : y ≡ x = cc in
    let own : p y ≡ true = ap p same ∙ passes in
    subst P same (All-head P y (filter p xs) (subst (λ b. All P (cond b (y ∷ filter p xs) (filter p xs))) own h))
passed_at P p (y ∷ xs) (suc k) x h at passes = passed_at P p xs k x (by (p y) h) at passes
  where
    by : (b : Bool) → All P (cond b (y ∷ filter p xs) (filter p xs)) → All P (filter p xs)
    by true g = All-tail P y (filter p xs) g
    by false g = g

lower_read : (plan : Plan) → IsPlan plan → (k : ℕ) (rule : PlanRule) (m : ℕ) → slice_get plan.rules k ≡ Some rule → reads rule m ≡ true → rule.head < length plan.names → IsBelow plan rule.head m
lower_read plan valid k rule m at reading within =
    All-there (IsBelow plan rule.head) (body_names rule) m
    (passed_at (λ (r : PlanRule). All (IsBelow plan rule.head) (body_names r)) (λ (r : PlanRule). r.head == rule.head) plan.rules k rule
    (below_head plan rule.head valid within) at (eq-eqb rule.head rule.head refl)) reading

pool_rows : (plan : Plan) (full : Bool) (inputs : Inputs) → IsPlan plan → AreOfKeys plan inputs → (n : ℕ) → All (IsOfKeys plan n) (pool plan full inputs n)
pool_rows plan full inputs valid rows =
    kept_by_levels (held_over plan full inputs) (λ n is. All (IsOfKeys plan n) is) (λ n. All-nil (IsOfKeys plan n))
    (λ pools each n. candidates_cells plan (holds_all plan full n) inputs pools n valid rows) plan

module _ (plan : Plan) (full : Bool) (entered : Inputs) (names : List Minimal) (rules : List (Option RulePart)) (readers : List (List ℕ))
    (is : IsEngine plan full entered names rules readers) (name : ℕ) (i : Interval) (named : name < length plan.names) (narrow : is_wide plan name ≡ false)
    (row : IsOfKeys plan name i) (time : IsInTime i) where
  abbrev before : Inputs
  before = inputs_of plan entered names

  abbrev passage : Passage
  passage = passage_of plan full entered names name i

  abbrev content : Content
  content = content_of plan full entered names

  grown : IsContent (with_input name i content)
  grown = content_grows content name i is.content named narrow row time

  pub step_passes : IsPassage plan passage
  step_passes = record {
    valid = is.content.valid;
    lower = λ k rule m at reading. lower_read plan is.content.valid k rule m at reading (All-at (IsRuleOf plan) plan.rules k rule is.content.valid.rules at).head;
    below = reads_below plan full passage.now is.content.valid;
    old_rows = pool_rows plan full before is.content.valid is.content.rows;
    new_rows = pool_rows plan full passage.now is.content.valid grown.rows;
  }

  within_before : name < length before
  within_before = subst (λ (m : ℕ). name < m) (sym is.content.each) named

  -- the inputs of the name grow, and those of others stay
  now_at : (n : ℕ) → of_name passage.now n ≡ cond (n == name) (inserted i (of_name before n)) (of_name before n)
  now_at n =
      elim (eqb_tells n name) [
        | inl same ↦
            ap (of_name passage.now) same.1 ∙ get_or-set_same before name (inserted i (of_name before name)) [] within_before
            ∙ ap (λ (m : ℕ). inserted i (of_name before m)) (sym same.1) ∙ sym (ap (λ b. cond b (inserted i (of_name before n)) (of_name before n)) same.0)
        | inr other ↦
            get_or-set_other before name n (inserted i (of_name before name)) [] other.1
            ∙ sym (ap (λ b. cond b (inserted i (of_name before n)) (of_name before n)) other.0)
      ]

  own_input : (n : ℕ) → n < length plan.names → of_name before n ≡ input_of plan entered names n
  own_input n within = get_or-map-range_with_len (input_of plan entered names) 0 (length plan.names) n n [] within (omega arith)

  pub step_starts : (round : Round) → round.names.items ≡ names → round.rules.items ≡ rules → round.changed ≡ [] → round.queue ≡ []
      → IsBegun plan passage name i (has (input_of plan entered round.names.items name) i) round
  step_starts round same_names same_rules none idle =
      step_begins plan passage name i round
      (subst (λ (ms : List Minimal). AreKept plan full before ms round.rules.items) (sym same_names) (subst (AreKept plan full before names) (sym same_rules) is.kept)) none idle
      (λ n within. ap (λ (ms : List Minimal). held_in ms n) same_names ∙ held_are_pools plan full before names rules is.content.valid is.kept n within)
      now_at is.content.sets (has (input_of plan entered round.names.items name) i)
      (ap (λ (ms : List Minimal). has (input_of plan entered ms name) i) same_names ∙ ap (λ (js : List Interval). has js i) (sym (own_input name named)))

  -- ---- the sets of names with rules afterwards
  module _ (own : Option Interval) (new : Bool) (own_is : own ≡ (if nat_lt 0 (level_of plan name) then Some i else None))
      (new_is : new ≡ not (has (input_of plan entered names name) i)) where
    abbrev after : Inputs
    after = entered_with entered name own new

    pub after_each : length after ≡ length plan.names
    after_each = by own new ∙ is.each_entered
      where
        by : (o : Option Interval) (b : Bool) → length (entered_with entered name o b) ≡ length entered
        by None b = refl
        by (Some j) true = length-set entered name (inserted j (of_name entered name))
        by (Some j) false = refl

    elsewhere : (n : ℕ) → n ≢ name → of_name after n ≡ of_name entered n
    elsewhere n other = by own new
      where
        by : (o : Option Interval) (b : Bool) → of_name (entered_with entered name o b) n ≡ of_name entered n
        by None b = refl
        by (Some j) true = get_or-set_other entered name n (inserted j (of_name entered name)) [] other
        by (Some j) false = refl

    here : nat_lt 0 (level_of plan name) ≡ true → of_name after name ≡ inserted i (of_name entered name)
    here ruled = ap (λ (o : Option Interval). of_name (entered_with entered name o new) name) with_rules ∙ by new refl
      where
        with_rules : own ≡ Some i
        with_rules = own_is ∙ ap (λ b. if b then Some i else None) ruled

        set_is : input_of plan entered names name ≡ of_name entered name
        set_is = ap (λ b. cond b (of_name entered name) (candidates_of (minimal_at names name))) ruled

        sorted : IsSet (of_name entered name)
        sorted = subst IsSet (own_input name named ∙ set_is) (is.content.sets name)

        twice : (b : Bool) → not (not b) ≡ b
        twice true = refl
        twice false = refl

        by : (b : Bool) → new ≡ b → of_name (entered_with entered name (Some i) b) name ≡ inserted i (of_name entered name)
        by true e = get_or-set_same entered name (inserted i (of_name entered name)) [] (subst (λ (m : ℕ). name < m) (sym is.each_entered) named)
        by false e =
            let there : has (of_name entered name) i ≡ true =
            ap (λ (js : List Interval). has js i) (sym set_is) ∙ sym (twice (has (input_of plan entered names name) i)) ∙ ap not (sym new_is ∙ e) in
            sym (stays_in i (of_name entered name) sorted there)

    after_are : (n : ℕ) → n < length plan.names → nat_lt 0 (level_of plan n) ≡ true → of_name after n ≡ of_name passage.now n
    after_are n within ruled =
        let set_is : of_name before n ≡ of_name entered n =
        own_input n within ∙ ap (λ b. cond b (of_name entered n) (candidates_of (minimal_at names n))) ruled in
        elim (eqb_tells n name) [
          | inl same ↦
              let ruled_name : nat_lt 0 (level_of plan name) ≡ true = ap (λ (m : ℕ). nat_lt 0 (level_of plan m)) (sym same.1) ∙ ruled in
              ap (of_name after) same.1 ∙ here ruled_name ∙ ap (λ (m : ℕ). inserted i (of_name entered m)) (sym same.1) ∙ ap (inserted i) (sym set_is)
              ∙ sym (now_at n ∙ ap (λ b. cond b (inserted i (of_name before n)) (of_name before n)) same.0)
          | inr other ↦
              elsewhere n other.1 ∙ sym set_is
              ∙ sym (now_at n ∙ ap (λ b. cond b (inserted i (of_name before n)) (of_name before n)) other.0)
        ]

    -- ---- what the step leaves
    module _ (round : Round) (ended : IsEnded plan passage round) where
      kept : AreKept plan full passage.now round.names.items round.rules.items
      kept = ended_kept plan passage step_passes round ended

      inputs_are : inputs_of plan after round.names.items ≡ passage.now
      inputs_are = inputs_kept plan passage step_passes after round.names.items grown.each grown.sets kept.sources after_are

      pub step_content : content_of plan full after round.names.items ≡ with_input name i content
      step_content = ap (λ (ls : Inputs). let made : Content = record { plan = plan; full = full; inputs = ls } in made) inputs_are

      pub step_stands : IsEngine plan full after round.names.items round.rules.items readers
      step_stands = record {
        content = subst (λ (c : Content). IsContent c) (sym step_content) grown;
        each_entered = after_each;
        kept = subst (λ (ls : Inputs). AreKept plan full ls round.names.items round.rules.items) (sym inputs_are) kept;
        index = is.index;
      }

      pub step_changed : change_of_heads plan (delta_at round.changed) ≡ change content (with_input name i content)
      step_changed = ended_change plan passage step_passes round ended

      pub step_names : (n : ℕ) → is_changed round.changed n ≡ true → n < length plan.names
      step_names n changed = (ended.between.turned n changed).0

  pub step_work : whole_work plan passage ≡ work_between content (with_input name i content)
  unfolding work
  step_work = refl
