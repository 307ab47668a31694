-- Where reading stood at the end of a command over a trace, from where that of its parts stood.
use Rattle.std.proofs.Common.{◌≡◌, ℕ, Bool, List, length, Option, Some, None, IfSome, Result, Ok, Err, inr, ⊎_elim}
use Rattle.nf_core.specs.Plan.{Plan}
use Rattle.nf_io.specs.Files.{Files, bytes_of}
use Rattle.nf_io.specs.Tells.{ShelfTells, SinkTells}
use Rattle.nf_session.specs.declared.fault.SessionEnd.{SessionEnd}
use Rattle.nf_session.specs.declared.fault.SessionEnd.TheVariants as end
use Rattle.nfer_cli.specs.Answers.{LeftBy, FollowReadsTo}
use Rattle.nfer_cli.specs.inner.Failures.{session_status}
use Rattle.nfer_cli.specs.inner.Running.{AsksUnlessWanted, Runs, RunsOver, trace_by}
use Rattle.nfer_cli.specs.declared.running.Session.{Session}

-- where reading of a trace, which is the file behind those of a specification, stood at each end of a session over it
trace_reads : (s : Session) (names : List (List ℕ)) (place : ℕ) (result : Result (Unit {0}) SessionEnd) (files : Files) (last now rest : Option (List ℕ)) → place ≡ length names → AsksUnlessWanted s result files last now
    → LeftBy (session_status place result) (bytes_of files (trace_by s)) rest → FollowReadsTo names (trace_by s) (session_status place result) files now rest
trace_reads s names place (Ok done) files last now rest count asked left = (⊎_elim (λ a. a) (λ e. absurd cc) asked, left)
trace_reads s names place (Err (end.Trace fault)) files last now rest count asked left = (⊎_elim (λ a. a) (λ e. absurd cc) asked, left)
trace_reads s names place (Err end.ReadFault) files last now rest count asked left = inr (count, (⊎_elim (λ a. a) (λ e. absurd cc) asked, left))
trace_reads s names place (Err end.WriteFault) files last now rest count asked left = (⊎_elim (λ a. a) (λ e. absurd cc) asked, left)
trace_reads s names place (Err end.NoMemory) files last now rest count asked left = tt

-- the trace was read behind the files of a specification, or reading it failed
pub reads_ran : (s : Session) (names : List (List ℕ)) (plan : Plan) (full : Bool) (place : ℕ) (result : Result (Unit {0}) SessionEnd) (middle now : ShelfTells) (out out_now : SinkTells) → place ≡ length names
    → Runs s plan full result middle now out out_now → IfSome middle.files (λ files. FollowReadsTo names (trace_by s) (session_status place result) files now.asked now.rest)
reads_ran s names plan full place result middle now out out_now count runs = by middle.files runs.asks runs.over
  where
    by : (told : Option Files) → IfSome told (λ files. AsksUnlessWanted s result files middle.asked now.asked)
        → IfSome told (λ files. RunsOver s plan full result (bytes_of files (trace_by s)) now.rest out.taken out_now.taken)
        → IfSome told (λ files. FollowReadsTo names (trace_by s) (session_status place result) files now.asked now.rest)
    by None asked over = tt
    by (Some files) asked over = trace_reads s names place result files middle.asked now.asked now.rest count asked (over place).left
