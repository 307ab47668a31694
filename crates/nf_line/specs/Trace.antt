-- A trace: its accepted lines up to the first refused one, and how it ends.
use Rattle.std.specs.Prelude.{ℕ, ◌+◌, ℤ, int_lt, nat_le, List, [], ◌∷◌, ◌++◌, map, take, length, Option, Some, None, if◌then◌else◌}
use Rattle.nf_core.specs.declared.values.Value as value
use Rattle.nf_line.specs.Lines.{cut, cut_off}
use Rattle.nf_line.specs.declared.limits.TheConstants.{TRACE_LIMIT}
use Rattle.nf_line.specs.Line.{Line, Empty, Accepted, Faulty, Fault, line}

-- an accepted line: its number, its name, its begin and its end, and its pairs
pub record Event : Type 0 where
  pub number : ℕ
  pub name : List ℕ
  pub start : ℤ
  pub stop : ℤ
  pub pairs : List (List ℕ × value.Value)

-- why a line is refused: it has a fault of the table, or its end is less than that of the last accepted line
pub data Refusal : Type 0 where
  InNoForm : Fault → Refusal
  Falls : (kept found : ℤ) → Refusal

-- how a trace ends: every line was accepted or empty, or a line was refused, with its number, or the trace is too long
pub data Ending : Type 0 where
  Done : Ending
  Refused : ℕ → Refusal → Ending
  TooLong : Ending

-- the accepted lines up to the first refused one, and how the trace ends
pub record Trace : Type 0 where
  pub events : List Event
  pub ending : Ending

abbrev pub refused : ℕ → Refusal → Trace
refused number refusal = record { events = []; ending = Refused number refusal }

-- the refusal of an end that is less than the last one, where there is a last one
abbrev pub fallen : Option ℤ → ℤ → Option Refusal
fallen None stop = None
fallen (Some kept) stop = if int_lt stop kept then Some (Falls kept stop) else None

-- an accepted line before the rest of a trace
abbrev pub after_event : Event → Trace → Trace
after_event event trace = record { events = event ∷ trace.events; ending = trace.ending }

-- some events before those of a trace
abbrev pub after_events : List Event → Trace → Trace
after_events events trace = record { events = events ++ trace.events; ending = trace.ending }

-- the end of the last of some events, or what it was before where there are none
abbrev pub last_end : Option ℤ → List Event → Option ℤ
last_end last [] = last
last_end last (event ∷ events) = last_end (Some event.stop) events

-- an accepted line, unless it is refused; what follows reads on after its end
abbrev pub judged_event : Event → Option Refusal → (Option ℤ → Trace) → Trace
judged_event event None rest = after_event event (rest (Some event.stop))
judged_event event (Some refusal) rest = refused event.number refusal

-- one line of this number, after an accepted line with this end: an empty one is only counted
abbrev pub trace_at : ℕ → Option ℤ → Line → (Option ℤ → Trace) → Trace
trace_at number last Empty rest = rest last
trace_at number last (Faulty fault) rest = refused number (InNoForm fault)
trace_at number last (Accepted name start stop pairs) rest =
    let event : Event = record { number = number; name = name; start = start; stop = stop; pairs = pairs } in
    judged_event event (fallen last stop) rest

-- the trace of some lines in order, of which the first has this number, after an accepted line with this end; it ends so where no line is refused
unfoldable pub trace_over : ℕ → Option ℤ → Ending → List Line → Trace
trace_over number last ending [] = record { events = []; ending = ending }
trace_over number last ending (line ∷ lines) =
    trace_at number last line (λ kept. trace_over (number + 1) kept ending lines)

-- the trace of some pieces in order, each of which is a line
abbrev pub trace_from : ℕ → Option ℤ → Ending → List (List ℕ) → Trace
trace_from number last ending pieces = trace_over number last ending (map line pieces)

-- a trace is too long where it has this many bytes, 2^63 - 1
unfoldable pub trace_limit : ℕ
trace_limit = TRACE_LIMIT

-- the trace of some bytes; its lines are numbered from 1. Where it is too long only its first 2^63 - 1 bytes count, and what stands behind their last LF is no line, except that it is Long where it has more than 65,536 bytes
unfoldable pub trace : List ℕ → Trace
trace bytes =
    if nat_le trace_limit (length bytes) then trace_from 1 None TooLong (cut_off (take trace_limit bytes))
    else trace_from 1 None Done (cut bytes)

-- what is known of a trace of which these bytes were read, while more may come: its lines that ended, and one that is already too long
abbrev pub trace_so_far : List ℕ → Trace
trace_so_far bytes = trace_from 1 None Done (cut_off bytes)
