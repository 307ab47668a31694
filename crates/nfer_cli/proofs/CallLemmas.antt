-- All that a call promises, from what its parts promise.
use Rattle.std.proofs.Common.{◌≡◌, ℕ, ◌<◌, ◌≤◌, Bool, false, List, [], ◌∷◌, ◌++◌, length, take, length-append, Option, Some, None, IfSome, Result, Ok, Err, refl, sym, ◌∙◌, ap, subst, inl, arith}
use Rattle.std.specs.Prelude.{IsErrAnd, MatchResult}
use Rattle.std.proofs.lemmas.Option.{IfSome_then}
use Rattle.nf_core.specs.Plan.{Plan, IsPlan}
use Rattle.nf_io.specs.Files.{Files, bytes_of}
use Rattle.nf_io.specs.Causes.{Rose}
use Rattle.nf_io.specs.Tells.{ShelfTells, SinkTells}
use Rattle.nf_io.proofs.Public.{Took-none}
use Rattle.nf_line.specs.Trace.{trace}
use Rattle.nf_session.specs.Replay.{IsReplayed}
use Rattle.nf_session.specs.Sessions.{is_unread}
use Rattle.nf_session.specs.declared.fault.SessionEnd.{SessionEnd}
use Rattle.nf_session.specs.declared.fault.SessionEnd.TheVariants as end
use Rattle.nf_spec.specs.Specification.{Specifies}
use Rattle.nf_spec.specs.declared.compiling.Compiled.{Compiled}
use Rattle.nfer_cli.specs.Answers.{Answers, AreReplayed, AsksWithin, CannotReadAt, CheckReadsTo, Defines, FollowReadsTo, IfReadFault, IsCompleteFor, ReadsTo, Replays, WroteLast, checked, is_read_fault, refusal}
use Rattle.nfer_cli.specs.Calls.{CarriesOut}
use Rattle.nfer_cli.specs.Sources.{sources_of}
use Rattle.nfer_cli.specs.Words.{Asked, Check, Follow, Infer, file_words, specification_words, standard_input, trace_of, with_trace, Options}
use Rattle.nfer_cli.specs.inner.Ended.{Prints}
use Rattle.nfer_cli.specs.inner.Failures.{concluded, ends_unread, failed_status, failure_at, session_status}
use Rattle.nfer_cli.specs.inner.Running.{Runs, session_asks, trace_by}
use Rattle.nfer_cli.specs.inner.Specified.{Accepts, AsksOne, EndsBehind, SpecificationFails}
use Rattle.nfer_cli.specs.declared.fault.Failure.{Failure}
use Rattle.nfer_cli.specs.declared.fault.Failure.TheVariants as failure
use Rattle.nfer_cli.specs.declared.running.Session.{Session}
use Rattle.nfer_cli.specs.declared.running.Session.TheVariants as session
use Rattle.nfer_cli.specs.declared.status.Status.{Status}
use Rattle.nfer_cli.specs.declared.status.Status.TheVariants as status
use Rattle.nfer_cli.proofs.AnswerLemmas.{answers_checked, answers_ran}
use Rattle.nfer_cli.proofs.AskedFileLemmas.{asks_before_trace, asks_with_trace, cannot_before_trace, cannot_trace}
use Rattle.nfer_cli.proofs.ExistenceLemmas.{AreSpecified}
use Rattle.nfer_cli.proofs.ReadingEndLemmas.{reads_ran}
use Rattle.nfer_cli.proofs.RefusalLemmas.{answers_unchecked, answers_unrun}
use Rattle.nfer_cli.proofs.RunningLemmas.{always}
use Rattle.nfer_cli.proofs.ShortReadLemmas.{cannot_since, told_before}
use Rattle.nfer_cli.proofs.SpecificationEndLemmas.{not_accepted}
use Rattle.nfer_cli.proofs.UniquenessLemmas.{AreOne}

-- an answer without a fault is a defined one, or want of memory
complete_by : (question : Option Asked) (files : Files) (s : Status) (rest before now : Option (List ℕ)) → (IfReadFault s (λ place. ⊥)) → (s ≡ status.WriteFault → ⊥) → Answers question files s rest before now → IsCompleteFor (Defines question files) s
complete_by question files status.NoMemory rest before now read write a = tt
complete_by question files status.WriteFault rest before now read write a = absurd (write refl)
complete_by question files (status.ReadFault place) rest before now read write a = absurd read
complete_by question files other rest before now read write a = (a.reads, a.answer, a.defined, a.ends)

no_read_fault : (s : Status) (names : List (List ℕ)) (before now : ShelfTells) → ¬ Rose before.faults now.faults → IfReadFault s (λ place. CannotReadAt names place before now) → IfReadFault s (λ place. ⊥)
no_read_fault (status.ReadFault place) names before now calm fault = calm fault.cannot.rose
no_read_fault other names before now calm fault = tt

-- with no fault of the shelf or of the output a call completes
pub completes : (question : Option Asked) (s : Status) (names : List (List ℕ)) (shelf now : ShelfTells) (out out_now : SinkTells) → IfSome shelf.files (λ files. Answers question files s now.rest out.taken out_now.taken)
    → IfReadFault s (λ place. CannotReadAt names place shelf now) → (s ≡ status.WriteFault → Rose out.faults out_now.faults) → ¬ Rose shelf.faults now.faults → ¬ Rose out.faults out_now.faults
    → IfSome shelf.files (λ files. IsCompleteFor (Defines question files) s)
completes question s names shelf now out out_now answers read write calm out_calm = by shelf.files answers
  where
    by : (told : Option Files) → IfSome told (λ files. Answers question files s now.rest out.taken out_now.taken) → IfSome told (λ files. IsCompleteFor (Defines question files) s)
    by None a = tt
    by (Some files) a = complete_by question files s now.rest out.taken out_now.taken (no_read_fault s names shelf now calm read) (λ is. out_calm (write is)) a

-- the words of files with those of a specification among them
has_files : (names : List (List ℕ)) (trace : Option (List ℕ)) → 0 < length names → with_trace names trace ≡ [] → ⊥
has_files names None some is = let none : length names ≡ 0 = ap length is in absurd (omega (arith, some, none))
has_files names (Some trace) some is = let none : length (names ++ trace ∷ []) ≡ 0 = ap length is in absurd (omega (arith, some, none, length-append names (trace ∷ [])))

-- what is asked was carried out
carried : (question : Asked) (s : Status) (shelf now : ShelfTells) (out out_now : SinkTells) → 0 < length (specification_words (Some question)) → (s ≡ status.Usage → ⊥)
    → IfSome shelf.files (λ files. Answers (Some question) files s now.rest out.taken out_now.taken)
    → IfSome shelf.files (λ files. ReadsTo (Some question) s files shelf.asked shelf.rest now.asked now.rest)
    → AsksOne (file_words (Some question)) shelf now → IfReadFault s (λ place. CannotReadAt (file_words (Some question)) place shelf now)
    → now.failed ≡ is_read_fault s → (s ≡ status.WriteFault → Rose out.faults out_now.faults)
    → IfSome shelf.files (λ files. WroteLast (Some question) files s now.rest) → IfSome shelf.files (λ files. Replays (Some question) files s)
    → IfReadFault s (λ place. place < length (specification_words (Some question)) → out_now.taken ≡ out.taken)
    → CarriesOut (Some question) s shelf now out out_now
carried question s shelf now out out_now some never answer reads asks read failed write last replayed unread = record {
  usage = (λ is. absurd (never is), λ none. cc);
  answer = answer;
  reads = reads;
  asks = asks;
  read_fault = read;
  failed = λ files. failed;
  write_fault = write;
  written_last = last;
  replayed = replayed;
  unread = unread;
  completes = completes (Some question) s (file_words (Some question)) shelf now out out_now answer read write;
  untouched = λ none. absurd (has_files (specification_words (Some question)) (trace_of question) some none);
}

-- words that ask for nothing
pub carried_usage : (question : Option Asked) (shelf : ShelfTells) (out : SinkTells) → question ≡ None → CarriesOut question status.Usage shelf shelf out out
carried_usage question shelf out none = subst (λ (q : Option Asked). CarriesOut q status.Usage shelf shelf out out) (sym none) (record {
  usage = (λ is. refl, λ is. refl);
  answer = answer shelf.files;
  reads = reads shelf.files;
  asks = asks shelf.files;
  read_fault = tt;
  failed = λ some. absurd (omega arith);
  write_fault = λ is. absurd cc;
  written_last = always shelf.files _ (λ files. tt);
  replayed = always shelf.files _ (λ files. tt);
  unread = tt;
  completes = λ calm out_calm. completes None status.Usage [] shelf shelf out out (answer shelf.files) tt (λ is. absurd cc) calm out_calm;
  untouched = λ none. refl;
})
  where
    answer : (told : Option Files) → IfSome told (λ files. Answers None files status.Usage shelf.rest out.taken out.taken)
    answer None = tt
    answer (Some files) = record { reads = 0; answer = refusal status.Usage; defined = (refl, refl); ends = refl; writes = Took-none out.taken }

    reads : (told : Option Files) → IfSome told (λ files. (shelf.asked ≡ shelf.asked) × (shelf.rest ≡ shelf.rest))
    reads None = tt
    reads (Some files) = (refl, refl)

    asks : (told : Option Files) → IfSome told (λ files. AsksWithin [] files shelf.asked shelf.asked)
    asks None = tt
    asks (Some files) = inl refl

-- a failure is not usage
pub never_usage : (why : Failure) → failed_status why ≡ status.Usage → ⊥
never_usage (failure.Specification w) is = cc
never_usage (failure.Trace w) is = cc
never_usage (failure.Read place) is = cc
never_usage failure.Write is = cc
never_usage failure.NoMemory is = cc

failed_read : (why : Failure) → is_read_fault (failed_status why) ≡ ends_unread {A = Compiled} (Err why)
failed_read (failure.Specification w) = refl
failed_read (failure.Trace w) = refl
failed_read (failure.Read place) = refl
failed_read failure.Write = refl
failed_read failure.NoMemory = refl

-- a specification that isn't compiled: nothing was written
no_write : (names : List (List ℕ)) (root : Option (List ℕ)) (why : Failure) (shelf now : ShelfTells) (out out_now : SinkTells) → SpecificationFails names root why shelf now → failed_status why ≡ status.WriteFault → Rose out.faults out_now.faults
no_write names root (failure.Specification w) shelf now out out_now fails is = absurd cc
no_write names root (failure.Trace w) shelf now out out_now fails is = absurd fails
no_write names root (failure.Read place) shelf now out out_now fails is = absurd cc
no_write names root failure.Write shelf now out out_now fails is = absurd fails
no_write names root failure.NoMemory shelf now out out_now fails is = absurd cc

nothing_written : (why : Failure) (n : ℕ) (out : SinkTells) → IfReadFault (failed_status why) (λ place. place < n → out.taken ≡ out.taken)
nothing_written (failure.Read place) n out = λ low. refl
nothing_written (failure.Specification w) n out = tt
nothing_written (failure.Trace w) n out = tt
nothing_written failure.Write n out = tt
nothing_written failure.NoMemory n out = tt

check_stands : (names : List (List ℕ)) (root : Option (List ℕ)) (why : Failure) (shelf now : ShelfTells) → SpecificationFails names root why shelf now → IfSome shelf.files (λ files. CheckReadsTo names (failed_status why) files now.asked now.rest)
check_stands names root (failure.Specification w) shelf now fails = IfSome_then shelf.files fails (λ files h. h.stands)
check_stands names root (failure.Read place) shelf now fails = fails.stands
check_stands names root failure.NoMemory shelf now fails = always shelf.files (λ files. Unit {0}) (λ files. tt)
check_stands names root other shelf now fails = absurd fails

check_fault : (names : List (List ℕ)) (root : Option (List ℕ)) (why : Failure) (shelf now : ShelfTells) → SpecificationFails names root why shelf now → IfReadFault (failed_status why) (λ place. CannotReadAt names place shelf now)
check_fault names root (failure.Specification w) shelf now fails = tt
check_fault names root (failure.Read place) shelf now fails = fails.cannot
check_fault names root failure.NoMemory shelf now fails = tt
check_fault names root other shelf now fails = absurd fails

pub check_unspecified : AreSpecified → (names : List (List ℕ)) (options : Options) (why : Failure) (shelf now : ShelfTells) (out : SinkTells) → 0 < length names → SpecificationFails names options.root why shelf now → now.failed ≡ ends_unread {A = Compiled} (Err why) → AsksOne names shelf now
    → CarriesOut (Some (Check options names)) (failed_status why) shelf now out out
check_unspecified specified names options why shelf now out some fails failed asks =
    carried (Check options names) (failed_status why) shelf now out out some (never_usage why) (answers_unchecked specified shelf.files names options why now.rest out.taken (not_accepted names options.root why shelf now fails))
    (check_stands names options.root why shelf now fails) asks (check_fault names options.root why shelf now fails) (failed ∙ sym (failed_read why)) (no_write names options.root why shelf now out out fails)
    (always shelf.files _ (λ files. tt)) (always shelf.files _ (λ files. tt)) (nothing_written why (length names) out)

follow_stands : (names : List (List ℕ)) (trace : List ℕ) (root : Option (List ℕ)) (why : Failure) (shelf now : ShelfTells) → SpecificationFails names root why shelf now → IfSome shelf.files (λ files. FollowReadsTo names trace (failed_status why) files now.asked now.rest)
follow_stands names trace root (failure.Specification w) shelf now fails = IfSome_then shelf.files fails (λ files h. h.stands)
follow_stands names trace root (failure.Read place) shelf now fails = IfSome_then shelf.files fails.stands (λ files h. inl (fails.cannot.place_is, h))
follow_stands names trace root failure.NoMemory shelf now fails = always shelf.files (λ files. Unit {0}) (λ files. tt)
follow_stands names trace root other shelf now fails = absurd fails

follow_fault : (names : List (List ℕ)) (trace : List ℕ) (root : Option (List ℕ)) (why : Failure) (shelf now : ShelfTells) → SpecificationFails names root why shelf now → IfReadFault (failed_status why) (λ place. CannotReadAt (names ++ trace ∷ []) place shelf now)
follow_fault names trace root (failure.Specification w) shelf now fails = tt
follow_fault names trace root (failure.Read place) shelf now fails = cannot_before_trace names trace place shelf now fails.cannot
follow_fault names trace root failure.NoMemory shelf now fails = tt
follow_fault names trace root other shelf now fails = absurd fails

-- a session that a command names was carried out
carried_over : (q : Session) (names : List (List ℕ)) (options : Options) (s : Status) (shelf now : ShelfTells) (out out_now : SinkTells) → 0 < length names → (s ≡ status.Usage → ⊥)
    → IfSome shelf.files (λ files. Answers (Some (session_asks q options names)) files s now.rest out.taken out_now.taken)
    → IfSome shelf.files (λ files. FollowReadsTo names (trace_by q) s files now.asked now.rest)
    → AsksOne (names ++ trace_by q ∷ []) shelf now → IfReadFault s (λ place. CannotReadAt (names ++ trace_by q ∷ []) place shelf now)
    → now.failed ≡ is_read_fault s → (s ≡ status.WriteFault → Rose out.faults out_now.faults)
    → IfSome shelf.files (λ files. WroteLast (Some (session_asks q options names)) files s now.rest) → IfSome shelf.files (λ files. Replays (Some (session_asks q options names)) files s)
    → IfReadFault s (λ place. place < length names → out_now.taken ≡ out.taken)
    → CarriesOut (Some (session_asks q options names)) s shelf now out out_now
carried_over session.Follow names options s shelf now out out_now = carried (Follow options names) s shelf now out out_now
carried_over (session.Infer trace) names options s shelf now out out_now = carried (Infer options names trace.now) s shelf now out out_now

-- where a specification isn't compiled nothing was written, and no trace was read
unrun_last : (q : Session) (names : List (List ℕ)) (options : Options) (why : Failure) (shelf now : ShelfTells) → SpecificationFails names options.root why shelf now
    → IfSome shelf.files (λ files. WroteLast (Some (session_asks q options names)) files (failed_status why) now.rest)
unrun_last session.Follow names options why shelf now fails = always shelf.files _ (λ files. tt)
unrun_last (session.Infer trace) names options (failure.Specification w) shelf now fails = always shelf.files _ (λ files. tt)
unrun_last (session.Infer trace) names options (failure.Read place) shelf now fails = always shelf.files _ (λ files. tt)
unrun_last (session.Infer trace) names options failure.NoMemory shelf now fails = always shelf.files _ (λ files. tt)
unrun_last (session.Infer trace) names options other shelf now fails = absurd fails

unrun_replayed : (q : Session) (names : List (List ℕ)) (options : Options) (why : Failure) (shelf now : ShelfTells) → SpecificationFails names options.root why shelf now
    → IfSome shelf.files (λ files. Replays (Some (session_asks q options names)) files (failed_status why))
unrun_replayed (session.Infer trace) names options why shelf now fails = always shelf.files _ (λ files. tt)
unrun_replayed session.Follow names options (failure.Specification w) shelf now fails = always shelf.files _ (λ files. tt)
unrun_replayed session.Follow names options (failure.Read place) shelf now fails = always shelf.files _ (λ files. tt)
unrun_replayed session.Follow names options failure.NoMemory shelf now fails = always shelf.files _ (λ files. tt)
unrun_replayed session.Follow names options other shelf now fails = absurd fails

pub session_unspecified : AreSpecified → (q : Session) (names : List (List ℕ)) (options : Options) (why : Failure) (shelf now : ShelfTells) (out : SinkTells) → 0 < length names → SpecificationFails names options.root why shelf now
    → now.failed ≡ ends_unread {A = Compiled} (Err why) → AsksOne names shelf now → CarriesOut (Some (session_asks q options names)) (failed_status why) shelf now out out
session_unspecified specified q names options why shelf now out some fails failed asks =
    carried_over q names options (failed_status why) shelf now out out some (never_usage why) (answers_unrun specified q shelf.files names options why now.rest out.taken (not_accepted names options.root why shelf now fails))
    (follow_stands names (trace_by q) options.root why shelf now fails) (asks_before_trace names (trace_by q) shelf now asks) (follow_fault names (trace_by q) options.root why shelf now fails)
    (failed ∙ sym (failed_read why)) (no_write names options.root why shelf now out out fails) (unrun_last q names options why shelf now fails) (unrun_replayed q names options why shelf now fails) (nothing_written why (length names) out)

-- the rules of a specification were printed, or writing them failed
pub check_printed : (names : List (List ℕ)) (options : Options) (made : Compiled) (result : Result (Unit {0}) Failure) (shelf now : ShelfTells) (out out_now : SinkTells) → 0 < length names → Accepts shelf names options.root made → EndsBehind names shelf now → now.failed ≡ false → AsksOne names shelf now
    → Prints (checked made).output.text result out out_now → CarriesOut (Some (Check options names)) (concluded result) shelf now out out_now
check_printed names options made (Ok done) shelf now out out_now some accepts ends failed asks prints =
    carried (Check options names) status.Done shelf now out out_now some (λ is. cc) (answers_checked names options made (Ok done) shelf now out out_now accepts prints) ends asks tt failed (λ is. absurd cc) (always shelf.files _ (λ files. tt)) (always shelf.files _ (λ files. tt)) tt
check_printed names options made (Err failure.Write) shelf now out out_now some accepts ends failed asks prints =
    carried (Check options names) status.WriteFault shelf now out out_now some (λ is. cc) (answers_checked names options made (Err failure.Write) shelf now out out_now accepts prints) ends asks tt failed (λ is. prints.1) (always shelf.files _ (λ files. tt)) (always shelf.files _ (λ files. tt)) tt
check_printed names options made (Err failure.NoMemory) shelf now out out_now some accepts ends failed asks prints =
    carried (Check options names) status.NoMemory shelf now out out_now some (λ is. cc) (answers_checked names options made (Err failure.NoMemory) shelf now out out_now accepts prints) (always shelf.files _ (λ files. tt)) asks tt failed (λ is. absurd cc) (always shelf.files _ (λ files. tt)) (always shelf.files _ (λ files. tt)) tt
check_printed names options made (Err other) shelf now out out_now some accepts ends failed asks prints = absurd prints

-- the ends of a session are no usage, and its faults have their causes
session_never_usage : (place : ℕ) (result : Result (Unit {0}) SessionEnd) → session_status place result ≡ status.Usage → ⊥
session_never_usage place (Ok done) is = cc
session_never_usage place (Err (end.Trace w)) is = cc
session_never_usage place (Err end.ReadFault) is = cc
session_never_usage place (Err end.WriteFault) is = cc
session_never_usage place (Err end.NoMemory) is = cc

session_failed : (place : ℕ) (result : Result (Unit {0}) SessionEnd) → is_read_fault (session_status place result) ≡ is_unread result
session_failed place (Ok done) = refl
session_failed place (Err (end.Trace w)) = refl
session_failed place (Err end.ReadFault) = refl
session_failed place (Err end.WriteFault) = refl
session_failed place (Err end.NoMemory) = refl

session_write : (place : ℕ) (result : Result (Unit {0}) SessionEnd) (P : Type 0) → (result ≡ Err end.WriteFault → P) → session_status place result ≡ status.WriteFault → P
session_write place (Ok done) P h is = absurd cc
session_write place (Err (end.Trace w)) P h is = absurd cc
session_write place (Err end.ReadFault) P h is = absurd cc
session_write place (Err end.WriteFault) P h is = h refl
session_write place (Err end.NoMemory) P h is = absurd cc

session_read : (place : ℕ) (result : Result (Unit {0}) SessionEnd) (P : ℕ → Type 0) → (result ≡ Err end.ReadFault → P place) → IfReadFault (session_status place result) P
session_read place (Ok done) P h = tt
session_read place (Err (end.Trace w)) P h = tt
session_read place (Err end.ReadFault) P h = h refl
session_read place (Err end.WriteFault) P h = tt
session_read place (Err end.NoMemory) P h = tt

-- the status of a session is that of the command that it ends
pub concluded_as : (place : ℕ) (ended : Result (Unit {0}) SessionEnd) (result : Result (Unit {0}) Failure) → MatchResult ended (λ done. result ≡ Ok done) (λ why. IsErrAnd result (λ failure. failure ≡ failure_at place why)) → session_status place ended ≡ concluded result
concluded_as place (Ok done) result is = ap concluded (sym is)
concluded_as place (Err why) (Ok done) is = absurd is
concluded_as place (Err why) (Err failure) is = ap failed_status (sym is)

-- reading announcements back gives what is shown
abbrev pub AreShown : Type 0
AreShown = (plan : Plan) (full : Bool) (bytes : List ℕ) (k : ℕ) → IsPlan plan → IsReplayed plan full (take k (trace bytes).events)

-- under what a specification is compiled to the announcements of a trace are replayed
replayed_by : AreOne → AreShown → (names : List (List ℕ)) (options : Options) (made : Compiled) (bytes : List ℕ) (files : Files) → IsPlan made.plan → Specifies (sources_of files names) options.root (Ok made)
    → AreReplayed options names bytes files
replayed_by one shown names options made bytes files valid defined = λ other is k.
    let found = one (sources_of files names) options.root (Ok made) (Ok other) defined is in
    let same : made ≡ other = cc in
    subst (λ (m : Compiled). IsReplayed m.plan options.full (take k (trace bytes).events)) same (shown made.plan options.full bytes k valid)

ran_replayed : AreOne → AreShown → (q : Session) (names : List (List ℕ)) (options : Options) (made : Compiled) (place : ℕ) (result : Result (Unit {0}) SessionEnd) (shelf : ShelfTells) → IsPlan made.plan
    → Accepts shelf names options.root made → IfSome shelf.files (λ files. Replays (Some (session_asks q options names)) files (session_status place result))
ran_replayed one shown (session.Infer trace) names options made place result shelf valid accepts = always shelf.files _ (λ files. tt)
ran_replayed one shown session.Follow names options made place (Ok done) shelf valid accepts = IfSome_then shelf.files accepts (λ files h. replayed_by one shown names options made (bytes_of files standard_input) files valid h.defined)
ran_replayed one shown session.Follow names options made place (Err (end.Trace w)) shelf valid accepts = IfSome_then shelf.files accepts (λ files h. replayed_by one shown names options made (bytes_of files standard_input) files valid h.defined)
ran_replayed one shown session.Follow names options made place (Err other) shelf valid accepts = always shelf.files _ (λ files. tt)

-- a session ran over a trace, which is the file behind those of a specification
pub session_ran : AreOne → AreShown → (q : Session) (names : List (List ℕ)) (options : Options) (made : Compiled) (place : ℕ) (result : Result (Unit {0}) SessionEnd) (shelf middle now : ShelfTells) (out out_now : SinkTells)
    → 0 < length names → IsPlan made.plan → middle.files ≡ shelf.files → place ≡ length names → shelf.faults ≤ middle.faults → middle.failed ≡ false → Accepts shelf names options.root made → AsksOne names shelf middle
    → Runs q made.plan options.full result middle now out out_now → CarriesOut (Some (session_asks q options names)) (session_status place result) shelf now out out_now
session_ran one shown q names options made place result shelf middle now out out_now some valid same count later calm accepts asks runs =
    carried_over q names options (session_status place result) shelf now out out_now some (session_never_usage place result)
    (answers_ran q names options made place result shelf middle now out out_now same count accepts runs.over)
    (told_before shelf.files middle.files _ same (reads_ran q names made.plan options.full place result middle now out out_now count runs))
    (asks_with_trace q names result shelf middle now same asks runs.asks)
    (session_read place result (λ at. CannotReadAt (names ++ trace_by q ∷ []) at shelf now) (λ is. cannot_trace names (trace_by q) place shelf now count (cannot_since (trace_by q) shelf middle now same later (runs.read_fault is))))
    (runs.failed calm ∙ sym (session_failed place result)) (session_write place result (Rose out.faults out_now.faults) runs.write_fault)
    (told_before shelf.files middle.files _ same (IfSome_then middle.files runs.last (λ files h. h options names place)))
    (ran_replayed one shown q names options made place result shelf valid accepts)
    (session_read place result (λ at. at < length names → out_now.taken ≡ out.taken) (λ is low. absurd (omega (arith, low, count))))
