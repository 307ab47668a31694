-- What the results of a rule lost and found.
use Rattle.std.specs.Prelude.{◌≡◌, ℕ, ◌+◌, ◌++◌, List, All, None, option_to_list}
use Rattle.nf_core.specs.Intervals.{Interval}
use Rattle.nf_core.specs.declared.intervals.Delta.{Delta}
use Rattle.nf_core.specs.declared.terms.PlanRule.{PlanRule}
use Rattle.nf_model.specs.Members.{HavePlaces, clause_terms}
use Rattle.nf_model.specs.Results.{results, of_one}
use Rattle.nf_model.specs.Work.{Sides}
use Rattle.nf_pairs.specs.Deltas.{before}
use Rattle.nf_tally.specs.Numbers.{often}

-- a rule's two lists before deltas of them
abbrev pub sides_before : (firsts seconds : List Interval) → (d1 d2 : Delta) → Sides
sides_before firsts seconds d1 d2 = record { firsts = before d1 firsts; seconds = before d2 seconds }

-- and now
abbrev pub sides_now : (firsts seconds : List Interval) → Sides
sides_now firsts seconds = record { firsts = firsts; seconds = seconds }

-- what the results over two lists were and are: what stayed, with what was lost, and with what was found
pub record AreExchanged (rule : PlanRule) (firsts seconds : List Interval) (d1 d2 : Delta) (lost found : List Interval) : Type 0 where
  pub stayed : Interval → ℕ
  pub was : (q : Interval) → often (results rule (before d1 firsts) (before d2 seconds)) q ≡ stayed q + often lost q
  pub is : (q : Interval) → often (results rule firsts seconds) q ≡ stayed q + often found q

-- how often a rule with one atom makes an interval of another one: once or not
abbrev pub gives : PlanRule → Interval → Interval → ℕ
gives rule q i = often (option_to_list (of_one rule i)) q

-- the rows of the intervals of a list, and of what went of it, have every place that the clauses of a rule with one atom read
abbrev pub AreOnesWithPlaces : PlanRule → List Interval → Delta → Type 0
AreOnesWithPlaces rule firsts delta = All (λ i. HavePlaces (clause_terms rule) i None) (firsts ++ delta.gone)
