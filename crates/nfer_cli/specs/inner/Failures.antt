-- What each failure inside a command is among the statuses.
use Rattle.std.specs.Prelude.{ℕ, Bool, true, false, Result, Ok, Err}
use Rattle.nf_session.specs.declared.fault.SessionEnd.{SessionEnd}
use Rattle.nf_session.specs.declared.fault.SessionEnd.TheVariants as session
use Rattle.nf_spec.specs.declared.fault.SpecFault.{SpecFault}
use Rattle.nf_spec.specs.declared.fault.SpecFault.TheVariants as fault
use Rattle.nfer_cli.specs.declared.fault.Failure.{Failure}
use Rattle.nfer_cli.specs.declared.fault.Failure.TheVariants as failure
use Rattle.nfer_cli.specs.declared.status.Status.{Status}
use Rattle.nfer_cli.specs.declared.status.Status.TheVariants as status

-- the failure that a refused specification is; want of memory is no refusal
abbrev pub failure_of_fault : SpecFault → Failure
failure_of_fault fault.NoMemory = failure.NoMemory
failure_of_fault why = failure.Specification why

-- the failure that an end of a session is, where the trace is the file at a place
abbrev pub failure_at : ℕ → SessionEnd → Failure
failure_at place (session.Trace why) = failure.Trace why
failure_at place session.ReadFault = failure.Read place
failure_at place session.WriteFault = failure.Write
failure_at place session.NoMemory = failure.NoMemory

-- the status that a failure is
abbrev pub failed_status : Failure → Status
failed_status (failure.Specification why) = status.Specification why
failed_status (failure.Trace why) = status.Trace why
failed_status (failure.Read place) = status.ReadFault place
failed_status failure.Write = status.WriteFault
failed_status failure.NoMemory = status.NoMemory

-- the status of a command: done, or that of its failure
abbrev pub concluded : Result (Unit {0}) Failure → Status
concluded (Ok done) = status.Done
concluded (Err why) = failed_status why

-- the status of a session: done, or that of its end
abbrev pub session_status : ℕ → Result (Unit {0}) SessionEnd → Status
session_status place (Ok done) = status.Done
session_status place (Err end) = failed_status (failure_at place end)

-- whether a call failed since a file couldn't be read
abbrev pub ends_unread : {A : Type 0} → Result A Failure → Bool
ends_unread (Err (failure.Read place)) = true
ends_unread other = false
