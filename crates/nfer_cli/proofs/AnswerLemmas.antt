-- The answer of a command, from those of its parts.
use Rattle.std.proofs.Common.{◌≡◌, ℕ, ◌+◌, Bool, List, [], length, Option, Some, None, Result, Ok, Err, refl, sym, ap, subst, arith, inl, inr}
use Rattle.std.specs.Prelude.{IfSome}
use Rattle.std.proofs.lemmas.List.{length-map}
use Rattle.std.proofs.lemmas.Option.{IfSome_then}
use Rattle.nf_core.specs.Plan.{Plan}
use Rattle.nf_io.specs.Bytes.{Took}
use Rattle.nf_io.specs.Files.{Files, bytes_of}
use Rattle.nf_io.specs.Tells.{ShelfTells, SinkTells}
use Rattle.nf_io.proofs.Public.{Took-none}
use Rattle.nf_line.specs.Lines.{with_last}
use Rattle.nf_line.specs.Trace.{trace_over}
use Rattle.nf_session.specs.Follow.{follow_text_by}
use Rattle.nf_session.specs.Sessions.{Ends, Output}
use Rattle.nf_session.specs.declared.fault.SessionEnd.{SessionEnd}
use Rattle.nf_session.specs.declared.fault.SessionEnd.TheVariants as end
use Rattle.nf_spec.specs.declared.compiling.Compiled.{Compiled}
use Rattle.nfer_cli.specs.Sources.{sources_of}
use Rattle.nfer_cli.specs.inner.Failures.{concluded, session_status}
use Rattle.nfer_cli.specs.inner.Specified.{Accepts, IsAccepted}
use Rattle.nfer_cli.specs.Words.{Check, Options}
use Rattle.nfer_cli.specs.inner.Ended.{EndsTrace, Prints}
use Rattle.nfer_cli.specs.inner.Running.{RunsOver, output_by, session_asks, trace_by}
use Rattle.nfer_cli.specs.Answers as answers
use Rattle.nfer_cli.specs.Answers.{Answer, Answers, EndsFor, Over, WroteAtEnd, WroteOver, checked, over_trace, status_by, status_of}
use Rattle.nfer_cli.specs.declared.fault.Failure.{Failure}
use Rattle.nfer_cli.specs.declared.fault.Failure.TheVariants as failure
use Rattle.nfer_cli.specs.declared.running.Session.{Session}
use Rattle.nfer_cli.specs.declared.running.Session.TheVariants as session
use Rattle.nfer_cli.specs.declared.status.Status.{Status}
use Rattle.nfer_cli.specs.declared.status.Status.TheVariants as status

-- before a trace is read nothing is due, and no lines have no text
pub nothing_due : (s : Session) (plan : Plan) (full : Bool) (bytes : List ℕ) → (output_by s plan full bytes).due_at 0 ≡ []
unfolding follow_text_by trace_over with_last
nothing_due session.Follow plan full bytes = refl
nothing_due (session.Infer trace) plan full bytes = refl

pub nothing_after : (s : Session) (plan : Plan) (full : Bool) (bytes : List ℕ) → (output_by s plan full bytes).after 0 ≡ []
unfolding follow_text_by
nothing_after session.Follow plan full bytes = refl
nothing_after (session.Infer trace) plan full bytes = refl

pub nothing_taken : (sink : Option (List ℕ)) (text : List ℕ) → text ≡ [] → Took sink sink text
nothing_taken sink text none = subst (λ t. Took sink sink t) (sym none) (Took-none sink)

-- the end of a session over a trace, as that of a command
pub session_ends : (output : Output) (bytes : List ℕ) (place : ℕ) (result : Result (Unit {0}) SessionEnd) (rest before now : Option (List ℕ)) → Ends output bytes result rest before now → EndsTrace output place bytes (session_status place result) rest before now
session_ends output bytes place (Ok done) rest before now e = record { ends = sym (ap status_of e.ends); writes = e.writes; left = e.left }
session_ends output bytes place (Err (end.Trace fault)) rest before now e = record { ends = sym (ap status_by e.ends); writes = e.writes; left = e.left }
session_ends output bytes place (Err end.ReadFault) rest before now e = record { ends = omega arith; writes = inr (refl, e.writes); left = inr e.left }
session_ends output bytes place (Err end.WriteFault) rest before now e = record { ends = tt; writes = e.writes; left = e.left }
session_ends output bytes place (Err end.NoMemory) rest before now e = record { ends = tt; writes = e.writes; left = tt }

-- the trace couldn't be picked: nothing was read or written
pub runs_unpicked : (s : Session) (plan : Plan) (full : Bool) (bytes : List ℕ) (rest sink : Option (List ℕ)) → rest ≡ None → RunsOver s plan full (Err end.ReadFault) bytes rest sink sink
runs_unpicked s plan full bytes rest sink none = λ place. record {
  ends = omega arith;
  writes = inr (refl, record { read = 0; was_read = inl (none, refl); taken = nothing_taken sink ((output_by s plan full bytes).due_at 0) (nothing_due s plan full bytes) });
  left = inl none;
}

-- memory was wanted before the trace was picked
pub runs_unbegun : (s : Session) (plan : Plan) (full : Bool) (bytes : List ℕ) (rest sink : Option (List ℕ)) → RunsOver s plan full (Err end.NoMemory) bytes rest sink sink
runs_unbegun s plan full bytes rest sink = λ place. record {
  ends = tt;
  writes = (0, nothing_taken sink ((output_by s plan full bytes).after 0) (nothing_after s plan full bytes));
  left = tt;
}

-- the answer of a command over a trace
pub answers_over : (s : Session) (names : List (List ℕ)) (options : Options) (files : Files) (result : Status) (reads : ℕ) (answer : Answer) (rest before now : Option (List ℕ))
    → Over (sources_of files names) options.root 1 (over_trace (output_by s) options (bytes_of files (trace_by s))) reads answer → EndsFor reads result answer.status
    → WroteOver result (length names) answer.output (bytes_of files (trace_by s)) rest before now → Answers (Some (session_asks s options names)) files result rest before now
answers_over session.Follow names options files result reads answer rest before now over ends writes = record { reads = reads; answer = answer; defined = over; ends = ends; writes = writes }
answers_over (session.Infer trace) names options files result reads answer rest before now over ends writes = record { reads = reads; answer = answer; defined = over; ends = ends; writes = writes }

-- a session ran over its trace under the plan of a specification
pub answers_ran : (s : Session) (names : List (List ℕ)) (options : Options) (made : Compiled) (place : ℕ) (result : Result (Unit {0}) SessionEnd) (shelf middle now : ShelfTells) (out out_now : SinkTells) → middle.files ≡ shelf.files → place ≡ length names
    → Accepts shelf names options.root made → IfSome middle.files (λ files. RunsOver s made.plan options.full result (bytes_of files (trace_by s)) now.rest out.taken out_now.taken)
    → IfSome shelf.files (λ files. Answers (Some (session_asks s options names)) files (session_status place result) now.rest out.taken out_now.taken)
answers_ran s names options made place result shelf middle now out out_now same behind accepts runs =
    by shelf.files accepts (subst (λ (t : Option Files). IfSome t (λ files. RunsOver s made.plan options.full result (bytes_of files (trace_by s)) now.rest out.taken out_now.taken)) same runs)
  where
    by : (told : Option Files) → IfSome told (λ files. IsAccepted (sources_of files names) options.root made)
        → IfSome told (λ files. RunsOver s made.plan options.full result (bytes_of files (trace_by s)) now.rest out.taken out_now.taken)
        → IfSome told (λ files. Answers (Some (session_asks s options names)) files (session_status place result) now.rest out.taken out_now.taken)
    by None accepted runs = tt
    by (Some files) accepted runs =
        let bytes = bytes_of files (trace_by s) in
        let answer = over_trace (output_by s) options bytes made in
        let count : place + 1 ≡ 1 + length (sources_of files names) = omega (arith, behind, length-map names (bytes_of files)) in
        answers_over s names options files (session_status place result) (1 + length (sources_of files names)) answer now.rest out.taken out_now.taken (answers.accepted accepted.fits accepted.defined)
        (subst (λ n. EndsFor n (session_status place result) answer.status) count (runs place).ends)
        (subst (λ n. WroteOver (session_status place result) n answer.output bytes now.rest out.taken out_now.taken) behind (runs place).writes)

-- a text was printed, or writing it failed
pub printed_ends : (text : List ℕ) (result : Result (Unit {0}) Failure) (reads : ℕ) (out out_now : SinkTells) → Prints text result out out_now → EndsFor reads (concluded result) status.Done
printed_ends text (Ok done) reads out out_now prints = refl
printed_ends text (Err failure.Write) reads out out_now prints = tt
printed_ends text (Err failure.NoMemory) reads out out_now prints = tt
printed_ends text (Err other) reads out out_now prints = absurd prints

pub printed_writes : (text : List ℕ) (result : Result (Unit {0}) Failure) (out out_now : SinkTells) → Prints text result out out_now → WroteAtEnd (concluded result) text out.taken out_now.taken
printed_writes text (Ok done) out out_now prints = prints
printed_writes text (Err failure.Write) out out_now prints = prints.0
printed_writes text (Err failure.NoMemory) out out_now prints = prints
printed_writes text (Err other) out out_now prints = absurd prints

pub answers_checked : (names : List (List ℕ)) (options : Options) (made : Compiled) (result : Result (Unit {0}) Failure) (shelf now : ShelfTells) (out out_now : SinkTells) → Accepts shelf names options.root made → Prints (checked made).output.text result out out_now
    → IfSome shelf.files (λ files. Answers (Some (Check options names)) files (concluded result) now.rest out.taken out_now.taken)
answers_checked names options made result shelf now out out_now accepts prints = IfSome_then shelf.files accepts (λ files accepted.
    let reads = 0 + length (sources_of files names) in
    record {
      reads = reads;
      answer = checked made;
      defined = answers.accepted accepted.fits accepted.defined;
      ends = printed_ends (checked made).output.text result reads out out_now prints;
      writes = printed_writes (checked made).output.text result out out_now prints;
    })
