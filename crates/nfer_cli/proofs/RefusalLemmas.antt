-- How a call ends whose specification isn't accepted: with an answer to it, of which nothing was taken.
use Rattle.std.proofs.Common.{◌≡◌, ℕ, ◌<◌, List, [], length, Option, Some, None, refl, subst, inl}
use Rattle.std.specs.Prelude.{IfSome}
use Rattle.std.proofs.lemmas.List.{length-map}
use Rattle.nf_io.specs.Files.{Files, bytes_of}
use Rattle.nf_io.proofs.Public.{Took-none}
use Rattle.nf_spec.specs.declared.compiling.Compiled.{Compiled}
use Rattle.nfer_cli.specs.Sources.{sources_of}
use Rattle.nfer_cli.specs.inner.Failures.{failed_status}
use Rattle.nfer_cli.specs.declared.fault.Failure.{Failure}
use Rattle.nfer_cli.specs.declared.fault.Failure.TheVariants as failure
use Rattle.nfer_cli.specs.Words.{Check, Options}
use Rattle.nfer_cli.specs.inner.Running.{output_by, session_asks, trace_by}
use Rattle.nfer_cli.specs.declared.running.Session.{Session}
use Rattle.nfer_cli.specs.Answers as answers
use Rattle.nfer_cli.specs.Answers.{Answer, refusal, checked, over_trace, Over, EndsFor, WroteAtEnd, WroteOver, Answers}
use Rattle.nfer_cli.specs.declared.status.Status.{Status}
use Rattle.nfer_cli.specs.declared.status.Status.TheVariants as status
use Rattle.nfer_cli.proofs.SpecificationEndLemmas.{IsNotAccepted}
use Rattle.nfer_cli.proofs.AnswerLemmas.{answers_over, nothing_after, nothing_taken}
use Rattle.nfer_cli.proofs.ExistenceLemmas.{AreSpecified, some_over, later_over}

-- a call ended with a status for the answer of a command, and wrote nothing
record EndsUntaken (sources : List (List ℕ)) (root : Option (List ℕ)) (more : ℕ) (answer_of : Compiled → Answer) (s : Status) (sink : Option (List ℕ)) : Type 0 where
  reads : ℕ
  answer : Answer
  over : Over sources root more answer_of reads answer
  ends : EndsFor reads s answer.status
  writes : WroteAtEnd s answer.output.text sink sink

ends_untaken : AreSpecified → (sources : List (List ℕ)) (root : Option (List ℕ)) (more : ℕ) (answer_of : Compiled → Answer) (why : Failure) (sink : Option (List ℕ)) → IsNotAccepted sources root why
    → EndsUntaken sources root more answer_of (failed_status why) sink
ends_untaken specified sources root more answer_of (failure.Specification why) sink because =
    record { reads = because.0; answer = refusal (status.Specification why); over = answers.refused because.1; ends = refl; writes = Took-none sink }
ends_untaken specified sources root more answer_of (failure.Read place) sink because =
    let some = later_over specified sources root more answer_of place because.0 because.1 in
    record { reads = some.0; answer = some.1; over = some.2; ends = some.3; writes = Took-none sink }
ends_untaken specified sources root more answer_of failure.NoMemory sink because =
    let some = some_over specified sources root more answer_of in
    record { reads = some.0; answer = some.1; over = some.2; ends = tt; writes = Took-none sink }
ends_untaken specified sources root more answer_of other sink because = absurd because

-- of a trace that wasn't come to nothing is taken
wrote_before_trace : (why : Failure) (sources : List (List ℕ)) (root : Option (List ℕ)) (trace : ℕ) (answer : Answer) (bytes : List ℕ) (rest sink : Option (List ℕ)) → IsNotAccepted sources root why → length sources ≡ trace → answer.output.after 0 ≡ []
    → WroteAtEnd (failed_status why) answer.output.text sink sink → WroteOver (failed_status why) trace answer.output bytes rest sink sink
wrote_before_trace (failure.Specification why) sources root trace answer bytes rest sink because count none writes = writes
wrote_before_trace (failure.Read place) sources root trace answer bytes rest sink because count none writes = inl (subst (λ n. place < n) count because.0, writes)
wrote_before_trace failure.NoMemory sources root trace answer bytes rest sink because count none writes = (0, nothing_taken sink (answer.output.after 0) none)
wrote_before_trace other sources root trace answer bytes rest sink because count none writes = absurd because

-- no lines have no text, whatever the answer is
nothing_first : (s : Session) (sources : List (List ℕ)) (options : Options) (bytes : List ℕ) (reads : ℕ) (answer : Answer) → Over sources options.root 1 (over_trace (output_by s) options bytes) reads answer → answer.output.after 0 ≡ []
nothing_first s sources options bytes reads answer (answers.refused because) = refl
nothing_first s sources options bytes reads answer (answers.accepted {made} fits defined) = nothing_after s made.plan options.full bytes

-- the answer of `check`
pub answers_unchecked : AreSpecified → (told : Option Files) (names : List (List ℕ)) (options : Options) (why : Failure) (rest sink : Option (List ℕ)) → IfSome told (λ files. IsNotAccepted (sources_of files names) options.root why)
    → IfSome told (λ files. Answers (Some (Check options names)) files (failed_status why) rest sink sink)
answers_unchecked specified None names options why rest sink because = tt
answers_unchecked specified (Some files) names options why rest sink because =
    let end = ends_untaken specified (sources_of files names) options.root 0 checked why sink because in
    record { reads = end.reads; answer = end.answer; defined = end.over; ends = end.ends; writes = end.writes }

-- the answer of a command over a trace
pub answers_unrun : AreSpecified → (s : Session) (told : Option Files) (names : List (List ℕ)) (options : Options) (why : Failure) (rest sink : Option (List ℕ)) → IfSome told (λ files. IsNotAccepted (sources_of files names) options.root why)
    → IfSome told (λ files. Answers (Some (session_asks s options names)) files (failed_status why) rest sink sink)
answers_unrun specified s None names options why rest sink because = tt
answers_unrun specified s (Some files) names options why rest sink because =
    let bytes = bytes_of files (trace_by s) in
    let sources = sources_of files names in
    let end = ends_untaken specified sources options.root 1 (over_trace (output_by s) options bytes) why sink because in
    answers_over s names options files (failed_status why) end.reads end.answer rest sink sink end.over end.ends
    (wrote_before_trace why sources options.root (length names) end.answer bytes rest sink because (length-map names (bytes_of files)) (nothing_first s sources options bytes end.reads end.answer end.over) end.writes)
