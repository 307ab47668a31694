-- How printing a text ends, and how a session over a trace does.
use Rattle.std.specs.Prelude.{ℕ, ◌+◌, List, [], Option, Result, Ok, Err}
use Rattle.nf_io.specs.Bytes.{Took, TookPart}
use Rattle.nf_io.specs.Causes.{Rose}
use Rattle.nf_io.specs.Tells.{SinkTells}
use Rattle.nf_line.specs.Trace.{trace}
use Rattle.nf_session.specs.Sessions.{Output}
use Rattle.nfer_cli.specs.Answers.{EndsFor, LeftBy, WroteOver, status_of}
use Rattle.nfer_cli.specs.declared.fault.Failure.{Failure}
use Rattle.nfer_cli.specs.declared.fault.Failure.TheVariants as failure
use Rattle.nfer_cli.specs.declared.status.Status.{Status}

-- a text was printed: the whole of it was taken; or less than it, at a fault of the output; or nothing, where memory
-- was wanted
abbrev pub Prints : List ℕ → Result (Unit {0}) Failure → SinkTells → SinkTells → Type 0
Prints text (Ok done) before now = Took before.taken now.taken text
Prints text (Err failure.Write) before now =
    TookPart before.taken now.taken text × Rose before.faults now.faults
Prints text (Err failure.NoMemory) before now = Took before.taken now.taken []
Prints text (Err other) before now = ⊥

-- a session over the trace of these bytes, which is the file at a place, ended: with the trace's status or with a
-- fault or want of memory before it, with what was taken of its output, and with what is left of the trace
pub record EndsTrace (output : Output) (place : ℕ) (bytes : List ℕ) (result : Status)
    (rest before now : Option (List ℕ)) : Type 0 where
  pub ends : EndsFor (place + 1) result (status_of (trace bytes).ending)
  pub writes : WroteOver result place output bytes rest before now
  pub left : LeftBy result bytes rest
