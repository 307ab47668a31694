-- Running a session over the trace that it names, under a plan.
use Rattle.std.specs.Prelude.{◌≡◌, ◌⊎◌, ◌+◌, ◌≤◌, ℕ, Bool, false, List, Option, Some, IfSome, Result, Err}
use Rattle.nf_core.specs.Plan.{Plan}
use Rattle.nf_io.specs.Causes.{Rose}
use Rattle.nf_io.specs.Files.{Files, asked_of, bytes_of}
use Rattle.nf_io.specs.Tells.{ShelfTells, SinkTells}
use Rattle.nf_line.specs.Trace.{trace}
use Rattle.nf_session.specs.Costs.{work_of}
use Rattle.nf_session.specs.Sessions.{Output, followed, inferred, is_unread}
use Rattle.nf_session.specs.declared.fault.SessionEnd.{SessionEnd}
use Rattle.nf_session.specs.declared.fault.SessionEnd.TheVariants as end
use Rattle.nfer_cli.specs.Answers.{CannotRead, WroteLast}
use Rattle.nfer_cli.specs.Words.{Asked, Follow, Infer, Options, standard_input}
use Rattle.nfer_cli.specs.inner.Ended.{EndsTrace}
use Rattle.nfer_cli.specs.inner.Failures.{session_status}
use Rattle.nfer_cli.specs.declared.running.Session.{Session}
use Rattle.nfer_cli.specs.declared.running.Session.TheVariants as session

-- what a session is asked for with, by its options and the words of its specification's files
abbrev pub session_asks : Session → Options → List (List ℕ) → Asked
session_asks session.Follow options files = Follow options files
session_asks (session.Infer trace) options files = Infer options files trace.now

-- the word of a session's trace
abbrev pub trace_by : Session → List ℕ
trace_by session.Follow = standard_input
trace_by (session.Infer trace) = trace.now

-- what a session is to write over a trace
abbrev pub output_by : Session → Plan → Bool → List ℕ → Output
output_by session.Follow = followed
output_by (session.Infer trace) = inferred

-- over the bytes of its trace a session ended, whichever file of a command the trace is
abbrev pub RunsOver : Session → Plan → Bool → Result (Unit {0}) SessionEnd → List ℕ
    → (rest before now : Option (List ℕ)) → Type 0
RunsOver session plan full result bytes rest before now =
    let output = output_by session plan full bytes in
    (place : ℕ) → EndsTrace output place bytes (session_status place result) rest before now

-- what a session wrote it wrote last, where it is to, whatever is asked for with it
abbrev pub WritesLast : Session → Result (Unit {0}) SessionEnd → Files
    → (rest : Option (List ℕ)) → Type 0
WritesLast session result files rest = (options : Options) (names : List (List ℕ)) (place : ℕ)
    → WroteLast (Some (session_asks session options names)) files (session_status place result) rest

-- a session's trace is asked for now, or memory was wanted before
abbrev pub AsksUnlessWanted : Session → Result (Unit {0}) SessionEnd → Files
    → (last now : Option (List ℕ)) → Type 0
AsksUnlessWanted session result files last now =
    (now ≡ Some (asked_of files (trace_by session))) ⊎ ((result ≡ Err end.NoMemory) × (now ≡ last))

-- a session picked its trace and ran over it, under a plan and with every candidate held where the flag holds
pub record Runs (session : Session) (plan : Plan) (full : Bool)
    (result : Result (Unit {0}) SessionEnd) (shelf shelf_now : ShelfTells) (out out_now : SinkTells) : Type 0 where
  pub over : IfSome shelf.files (λ files.
      RunsOver session plan full result (bytes_of files (trace_by session))
      shelf_now.rest out.taken out_now.taken)
  pub last : IfSome shelf.files (λ files. WritesLast session result files shelf_now.rest)
  pub asks : IfSome shelf.files (λ files.
      AsksUnlessWanted session result files shelf.asked shelf_now.asked)
  pub read_fault : result ≡ Err end.ReadFault → CannotRead (trace_by session) shelf shelf_now
  pub failed : shelf.failed ≡ false → shelf_now.failed ≡ is_unread result
  pub write_fault : result ≡ Err end.WriteFault → Rose out.faults out_now.faults
  pub files : shelf_now.files ≡ shelf.files

-- a session over its trace among some files raised a counter by at most the work of the trace's lines
abbrev pub KeepsToLines : Session → Plan → Bool → (before now : ℕ) → Files → Type 0
KeepsToLines session plan full before now files =
    now ≤ before + work_of plan full (trace (bytes_of files (trace_by session))).events
