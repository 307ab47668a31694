-- What an evaluator by deltas keeps between two steps.
use Rattle.std.specs.Prelude.{◌≡◌, ℕ, ◌+◌, ◌<◌, Bool, true, false, nat_lt, List, [], ◌∷◌, length, map, slice_get, slice_set, Option, None, Some, if◌then◌else◌}
use Rattle.std.specs.List.{range_with_len}
use Rattle.nf_core.specs.Intervals.{Interval}
use Rattle.nf_core.specs.Sets.{has, inserted}
use Rattle.nf_core.specs.Plan.{Plan, level_of}
use Rattle.nf_core.specs.declared.intervals.Delta.{Delta}
use Rattle.nf_core.specs.declared.terms.PlanRule.{PlanRule}
use Rattle.nf_model.specs.Changes.{Content, IsContent}
use Rattle.nf_model.specs.Pools.{Inputs, of_name, holds_all}
use Rattle.nf_minimal.specs.Minimals.{Minimal, candidates_of}
use Rattle.nf_tally.specs.Numbers.{number}
use Rattle.nf_engine.specs.declared.parts.RulePart.{RulePart}
use Rattle.nf_engine.specs.declared.rounds.Round.{Round}
use Rattle.nf_engine.specs.inner.Numbered.{one_if}
use Rattle.nf_engine.specs.inner.Parts.{IsPartOf}
use Rattle.nf_engine.specs.inner.Readers.{AreReaders}
use Rattle.nf_engine.specs.inner.Rounds.{Passage, minimal_at, held_in, part_at, found, IsBetween, IsWithin}

-- the inputs of a name: the set of a name with rules, which is kept for them, and the candidates of one without rules
abbrev pub input_of : Plan → (entered : Inputs) → List Minimal → ℕ → List Interval
input_of plan entered names n = if nat_lt 0 (level_of plan n) then of_name entered n else candidates_of (minimal_at names n)

-- those of each name
abbrev pub inputs_of : Plan → (entered : Inputs) → List Minimal → Inputs
inputs_of plan entered names = map (input_of plan entered names) (range_with_len 0 (length plan.names))

-- the content
abbrev pub content_of : Plan → Bool → (entered : Inputs) → List Minimal → Content
content_of plan full entered names = record { plan = plan; full = full; inputs = inputs_of plan entered names }

-- what is kept of names and rules: each name's number of an interval is 1 where it is an input, and 1 for each rule of the name that has it among its results, and each rule's part knows these results
pub record AreKept (plan : Plan) (full : Bool) (inputs : Inputs) (names : List Minimal) (rules : List (Option RulePart)) : Type 0 where
  pub each_name : length names ≡ length plan.names
  pub each_rule : length rules ≡ length plan.rules
  pub all : (n : ℕ) → n < length plan.names → (minimal_at names n).full ≡ holds_all plan full n
  pub sources : (n : ℕ) → n < length plan.names → (q : Interval)
      → number (minimal_at names n).sources q ≡ one_if (has (of_name inputs n) q) + found plan (λ k. held_in names) n q
  pub parts : (k : ℕ) (rule : PlanRule) → slice_get plan.rules k ≡ Some rule → IsPartOf rule (held_in names) (part_at rules k)

-- an evaluator: its content is one, and what it keeps is that of its inputs
pub record IsEngine (plan : Plan) (full : Bool) (entered : Inputs) (names : List Minimal) (rules : List (Option RulePart)) (readers : List (List ℕ)) : Type 0 where
  pub content : IsContent (content_of plan full entered names)
  pub each_entered : length entered ≡ length plan.names
  pub kept : AreKept plan full (inputs_of plan entered names) names rules
  pub index : AreReaders plan readers

-- what a step of an evaluator with an interval of a name leads from and to
abbrev pub passage_of : Plan → Bool → (entered : Inputs) → List Minimal → (name : ℕ) → Interval → Passage
passage_of plan full entered names name i = record {
  full = full;
  before = inputs_of plan entered names;
  now = slice_set (inputs_of plan entered names) name (inserted i (of_name (inputs_of plan entered names) name));
}

-- the delta of an interval that comes
abbrev pub coming : Interval → Delta
coming i = record { gone = []; come = i ∷ [] }

-- a step begins: the turn of the name of an interval that is no input yet, and nothing is to be done where it is one
pub record IsBegun (plan : Plan) (passage : Passage) (name : ℕ) (i : Interval) (known : Bool) (round : Round) : Type 0 where
  pub nothing_due : round.queue ≡ []
  pub turn : known ≡ false → IsWithin plan passage name (coming i) round
  pub over : known ≡ true → IsBetween plan passage 0 round

-- the sets of names with an interval put into that of one, where there is an interval and it is new
abbrev pub entered_with : Inputs → ℕ → Option Interval → Bool → Inputs
entered_with entered name None new = entered
entered_with entered name (Some i) new = if new then slice_set entered name (inserted i (of_name entered name)) else entered
