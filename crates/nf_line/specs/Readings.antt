-- What the answers of the readers stand for.
use Rattle.std.specs.Prelude.{ℕ, map, Result, Ok, Err, Option, Some, None}
use Rattle.nf_line.specs.Line.{Line, Accepted, Faulty, Fault, Long, NotText, Fields, Time, Span, Key, Counts, spelled}
use Rattle.nf_line.specs.Raw.{Raw}
use Rattle.nf_line.specs.Trace.{Event, Ending, Done, Refused, TooLong, InNoForm, Falls}
use Rattle.nf_line.specs.declared.fault.LineFault.{LineFault}
use Rattle.nf_line.specs.declared.fault.LineFault.TheVariants as line_fault
use Rattle.nf_line.specs.declared.fault.TraceFault.{TraceFault}
use Rattle.nf_line.specs.declared.fault.TraceFault.TheVariants as trace_fault

-- the fault of the table that an answer names
abbrev pub fault_of : LineFault → Fault
fault_of line_fault.NotText = NotText
fault_of line_fault.Fields = Fields
fault_of line_fault.Time = Time
fault_of line_fault.Span = Span
fault_of line_fault.Key = Key
fault_of line_fault.Counts = Counts

-- the line that was read, with the values that its texts spell, or its fault
abbrev pub line_read : Result Raw LineFault → Line
line_read (Ok raw) = Accepted raw.name raw.start raw.stop (map spelled raw.texts)
line_read (Err fault) = Faulty (fault_of fault)

-- the event of a line that was read, with its number
abbrev pub event_of : ℕ → Raw → Event
event_of number raw = record {
  number = number;
  name = raw.name;
  start = raw.start;
  stop = raw.stop;
  pairs = map spelled raw.texts;
}

-- the fault that the end of a trace is answered with; none where no line was refused and the trace isn't too long
abbrev pub trace_fault_of : Ending → Option TraceFault
trace_fault_of Done = None
trace_fault_of (Refused number (InNoForm Long)) = Some (trace_fault.Long number)
trace_fault_of (Refused number (InNoForm NotText)) = Some (trace_fault.Line number line_fault.NotText)
trace_fault_of (Refused number (InNoForm Fields)) = Some (trace_fault.Line number line_fault.Fields)
trace_fault_of (Refused number (InNoForm Time)) = Some (trace_fault.Line number line_fault.Time)
trace_fault_of (Refused number (InNoForm Span)) = Some (trace_fault.Line number line_fault.Span)
trace_fault_of (Refused number (InNoForm Key)) = Some (trace_fault.Line number line_fault.Key)
trace_fault_of (Refused number (InNoForm Counts)) = Some (trace_fault.Line number line_fault.Counts)
trace_fault_of (Refused number (Falls kept found)) = Some (trace_fault.Order number kept found)
trace_fault_of TooLong = Some trace_fault.TooLong
