-- What a step of an evaluator with an interval asks and leaves, as its parts say it.
use Rattle.std.proofs.Common.{◌≡◌, ℕ, ◌+◌, ◌<◌, ◌≤◌, Bool, true, false, not, ◌||◌, nat_lt, List, [], length, Option, Some, None, ap, sym, subst, ◌∙◌, arith, if◌then◌else◌}
use Rattle.nf_core.specs.Intervals.{Interval}
use Rattle.nf_core.specs.Sets.{has}
use Rattle.nf_core.specs.Plan.{Plan, is_wide, level_of}
use Rattle.nf_core.specs.declared.intervals.Change.{Change}
use Rattle.nf_model.specs.Changes.{Content, with_input, change}
use Rattle.nf_model.specs.Members.{IsInTime, IsOfKeys}
use Rattle.nf_model.specs.Pools.{Inputs}
use Rattle.nf_model.specs.Work.{work_between}
use Rattle.nf_minimal.specs.Minimals.{Minimal}
use Rattle.nf_engine.specs.declared.parts.RulePart.{RulePart}
use Rattle.nf_engine.specs.declared.rounds.Round.{Round}
use Rattle.nf_engine.specs.inner.Deltas.{delta_at, is_changed, change_of_heads}
use Rattle.nf_engine.specs.inner.Engines.{input_of, content_of, IsEngine, passage_of, IsBegun, entered_with}
use Rattle.nf_engine.specs.inner.Rounds.{Passage, IsPassage, minimal_at}
use Rattle.nf_engine.specs.inner.Running.{IsEnded, whole_work}
use Rattle.nf_engine.proofs.StartLemmas.{or_none}
use Rattle.nf_engine.proofs.StepLemmas.{step_passes, step_starts, step_content, step_stands, step_changed, step_names, step_work}

module _ (plan : Plan) (full : Bool) (entered : Inputs) (names : List Minimal) (rules : List (Option RulePart)) (readers : List (List ℕ))
    (is : IsEngine plan full entered names rules readers) (name : ℕ) (i : Interval) (s : Content) (view_is : content_of plan full entered names ≡ s)
    (s_named : name < length s.plan.names) (s_narrow : is_wide s.plan name ≡ false) (s_row : IsOfKeys s.plan name i) (time : IsInTime i)
    (sets : Inputs) (same_sets : sets ≡ entered) where
  pub named : name < length plan.names
  named = subst (λ (c : Content). name < length c.plan.names) (sym view_is) s_named

  narrow : is_wide plan name ≡ false
  narrow = subst (λ (c : Content). is_wide c.plan name ≡ false) (sym view_is) s_narrow

  row : IsOfKeys plan name i
  row = subst (λ (c : Content). IsOfKeys c.plan name i) (sym view_is) s_row

  abbrev passage : Passage
  passage = passage_of plan full entered names name i

  -- that of the sets as they are read; of a name that isn't wide all candidates are held exactly where minimality is off
  abbrev read : Passage
  read = passage_of plan (minimal_at names name).full sets names name i

  full_is : (minimal_at names name).full ≡ full
  full_is = is.kept.all name named ∙ ap (λ b. full || b) narrow ∙ or_none full

  read_is : read ≡ passage
  read_is =
      ap (λ (ls : Inputs). passage_of plan (minimal_at names name).full ls names name i) same_sets
      ∙ ap (λ b. passage_of plan b entered names name i) full_is

  pub enter_passes : IsPassage plan read
  enter_passes = subst (IsPassage plan) (sym read_is) (step_passes plan full entered names rules readers is name i named narrow row time)

  pub enter_starts : (round : Round) → round.names.items ≡ names → round.rules.items ≡ rules → round.changed ≡ [] → round.queue ≡ []
      → IsBegun plan read name i (has (input_of plan sets round.names.items name) i) round
  enter_starts round same_names same_rules none idle =
      subst (λ (p : Passage). IsBegun plan p name i (has (input_of plan sets round.names.items name) i) round) (sym read_is)
      (subst (λ (ls : Inputs). IsBegun plan passage name i (has (input_of plan ls round.names.items name) i) round) (sym same_sets)
      (step_starts plan full entered names rules readers is name i named narrow row time round same_names same_rules none idle))

  -- the work of the step
  pub enter_work : (old new : ℕ) → new ≤ old + whole_work plan read → new ≤ old + work_between s (with_input name i s)
  enter_work old new bound =
      let whole : whole_work plan read ≡ work_between s (with_input name i s) =
      ap (whole_work plan) read_is ∙ step_work plan full entered names rules readers is name i named narrow row time
      ∙ ap (λ (c : Content). work_between c (with_input name i c)) view_is in
      omega (arith, bound, whole)

  module _ (own : Option Interval) (new : Bool) (own_is : own ≡ (if nat_lt 0 (level_of plan name) then Some i else None))
      (new_is : new ≡ not (has (input_of plan sets names name) i)) (round : Round) (ended : IsEnded plan read round) where
    new_here : new ≡ not (has (input_of plan entered names name) i)
    new_here = new_is ∙ ap (λ (ls : Inputs). not (has (input_of plan ls names name) i)) same_sets

    ended_here : IsEnded plan passage round
    ended_here = subst (λ (p : Passage). IsEnded plan p round) read_is ended

    pub left_names : (n : ℕ) → is_changed round.changed n ≡ true → n < length plan.names
    left_names = step_names plan full entered names rules readers is name i named narrow row time own new own_is new_here round ended_here

    pub left_change : (made : Change) → made ≡ change_of_heads plan (delta_at round.changed) → made ≡ change s (with_input name i s)
    left_change made made_is =
        made_is ∙ step_changed plan full entered names rules readers is name i named narrow row time own new own_is new_here round ended_here
        ∙ ap (λ (c : Content). change c (with_input name i c)) view_is

    module _ (after : Inputs) (after_is : after ≡ entered_with entered name own new) where
      pub left_stands : IsEngine plan full after round.names.items round.rules.items readers
      left_stands =
          subst (λ (ls : Inputs). IsEngine plan full ls round.names.items round.rules.items readers) (sym after_is)
          (step_stands plan full entered names rules readers is name i named narrow row time own new own_is new_here round ended_here)

      pub left_content : content_of plan full after round.names.items ≡ with_input name i s
      left_content =
          ap (λ (ls : Inputs). content_of plan full ls round.names.items) after_is
          ∙ step_content plan full entered names rules readers is name i named narrow row time own new own_is new_here round ended_here
          ∙ ap (with_input name i) view_is
