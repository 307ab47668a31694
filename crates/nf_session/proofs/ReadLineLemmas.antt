-- One line of a trace: what it leads to, and how it is refused.
use Rattle.std.proofs.Common.{◌≡◌, ℕ, ◌+◌, ℤ, List, [], ◌∷◌, map, Option, Some, None, refl, sym, ◌∙◌, ap}
use Rattle.std.specs.Prelude.{IsSome, IfSome}
use Rattle.nf_line.specs.Line.{Line, Accepted, Faulty, Fault, Long, spelled, line_within}
use Rattle.nf_line.specs.Raw.{Raw}
use Rattle.nf_line.specs.Readings.{fault_of, event_of, trace_fault_of}
use Rattle.nf_line.specs.Trace.{Refusal, InNoForm, Ending, Refused, fallen, judged_event, trace_at, trace_over, refused}
use Rattle.nf_line.specs.declared.fault.LineFault.{LineFault}
use Rattle.nf_line.specs.declared.fault.LineFault.TheVariants as line_fault
use Rattle.nf_line.specs.declared.fault.TraceFault.{TraceFault}
use Rattle.nf_line.specs.declared.fault.TraceFault.TheVariants as trace_fault
use Rattle.nf_session.specs.inner.Progress.{LeadsOn, IsRefused}

-- an empty line is only counted
pub empty_leads : (number : ℕ) (last : Option ℤ) (text : List ℕ) → text ≡ [] → LeadsOn number last (line_within text) []
unfolding trace_over line_within
empty_leads number last text none = λ ending rest. ap (λ t. trace_over number last ending (line_within t ∷ rest)) none

-- the trace from an accepted line on
module _ (number : ℕ) (last : Option ℤ) (line : Line) (raw : Raw) (is : Accepted raw.name raw.start raw.stop (map spelled raw.texts) ≡ line) where
  pub accepted_leads : fallen last raw.stop ≡ None → LeadsOn number last line (event_of number raw ∷ [])
  unfolding trace_over
  accepted_leads stays = λ ending rest.
      ap (λ l. trace_at number last l (λ kept. trace_over (number + 1) kept ending rest)) (sym is)
      ∙ ap (λ o. judged_event (event_of number raw) o (λ kept. trace_over (number + 1) kept ending rest)) stays

  falls : (why : Refusal) → fallen last raw.stop ≡ Some why → (ending : Ending) (rest : List Line) → trace_over number last ending (line ∷ rest) ≡ refused number why
  unfolding trace_over
  falls why is_less = λ ending rest.
      ap (λ l. trace_at number last l (λ kept. trace_over (number + 1) kept ending rest)) (sym is)
      ∙ ap (λ o. judged_event (event_of number raw) o (λ kept. trace_over (number + 1) kept ending rest)) is_less

  falls_by : (fault : TraceFault) (found : Option Refusal) → fallen last raw.stop ≡ found → IsSome found → IfSome found (λ why. trace_fault_of (Refused number why) ≡ Some fault) → IsRefused number last line fault
  falls_by fault None is_less some named = absurd cc
  falls_by fault (Some why) is_less some named = record { why = why; named = named; refuses = falls why is_less }

  pub falls_refused : (fault : TraceFault) → IsSome (fallen last raw.stop) → IfSome (fallen last raw.stop) (λ why. trace_fault_of (Refused number why) ≡ Some fault) → IsRefused number last line fault
  falls_refused fault = falls_by fault (fallen last raw.stop) refl

-- a line with a fault is refused
faulty : (number : ℕ) (last : Option ℤ) (line : Line) (fault : Fault) → Faulty fault ≡ line → (ending : Ending) (rest : List Line) → trace_over number last ending (line ∷ rest) ≡ refused number (InNoForm fault)
unfolding trace_over
faulty number last line fault is = λ ending rest. ap (λ l. trace_at number last l (λ kept. trace_over (number + 1) kept ending rest)) (sym is)

fault_named : (number : ℕ) (fault : LineFault) → trace_fault_of (Refused number (InNoForm (fault_of fault))) ≡ Some (trace_fault.Line number fault)
fault_named number line_fault.NotText = refl
fault_named number line_fault.Fields = refl
fault_named number line_fault.Time = refl
fault_named number line_fault.Span = refl
fault_named number line_fault.Key = refl
fault_named number line_fault.Counts = refl

pub faulty_refused : (number : ℕ) (last : Option ℤ) (line : Line) (fault : LineFault) → Faulty (fault_of fault) ≡ line → IsRefused number last line (trace_fault.Line number fault)
faulty_refused number last line fault is = record { why = InNoForm (fault_of fault); named = fault_named number fault; refuses = faulty number last line (fault_of fault) is }

-- and so is one that is too long
pub long_refused : (number : ℕ) (last : Option ℤ) (line : Line) → Faulty Long ≡ line → IsRefused number last line (trace_fault.Long number)
long_refused number last line is = record { why = InNoForm Long; named = refl; refuses = faulty number last line Long is }
