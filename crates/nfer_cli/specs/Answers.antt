-- The defined answer to the words and the files, and how the end of a call stands to it.
use Rattle.std.specs.Prelude.{◌≡◌, ◌⊎◌, ℕ, suc, ◌+◌, ◌-◌, ◌≤◌, ◌<◌, Bool, true, false, List, [], ◌++◌, codes, decimal, drop, take, length, Ok, Err, Option, Some, None, IfSome, ⊤, slice_index_or}
use Rattle.nf_core.specs.Plan.{Plan}
use Rattle.nf_drill.specs.Rules.{IsDrillPlan}
use Rattle.nf_io.specs.Files.{Files, bytes_of, asked_of}
use Rattle.nf_io.specs.Causes.{Rose}
use Rattle.nf_io.specs.Tells.{ShelfTells}
use Rattle.nf_io.specs.Bytes.{Took, TookPart}
use Rattle.nf_line.specs.Readings.{trace_fault_of}
use Rattle.nf_line.specs.Trace.{Ending, Done, trace}
use Rattle.nf_line.specs.declared.fault.TraceFault.{TraceFault}
use Rattle.nf_session.specs.Drill.{IsSummary}
use Rattle.nf_session.specs.Replay.{IsReplayed}
use Rattle.nf_session.specs.Sessions.{Output, LeftOfTrace, WrotePart, WroteShort, at_end, followed, inferred, piece_limit}
use Rattle.nf_session.specs.declared.drilling.Summary.{Summary}
use Rattle.nf_session.specs.declared.fault.SessionEnd.TheVariants as session
use Rattle.nf_spec.specs.Sources.{IsPassedAt, specification_limit, total}
use Rattle.nf_spec.specs.Specification.{Specifies}
use Rattle.nf_spec.specs.declared.compiling.Compiled.{Compiled}
use Rattle.nf_spec.specs.declared.fault.SpecFault.{SpecFault}
use Rattle.nf_spec.specs.declared.fault.SpecFault.TheVariants as fault
use Rattle.nfer_cli.specs.Words.{Asked, Check, Drill, Follow, Infer, Options, specification_words, standard_input, trace_of}
use Rattle.nfer_cli.specs.Sources.{sources_of}
use Rattle.nfer_cli.specs.Listing.{listing}
use Rattle.nfer_cli.specs.declared.status.Status.{Status}
use Rattle.nfer_cli.specs.declared.status.Status.TheVariants as status

-- what a command is to answer: its output, and the status, which shows the message
pub record Answer : Type 0 where
  pub output : Output
  pub status : Status

-- a refusal has no text
abbrev pub refusal : Status → Answer
refusal status = record { output = at_end []; status = status }

-- the status of a trace that ends with a fault, or without one
abbrev pub status_by : Option TraceFault → Status
status_by None = status.Done
status_by (Some fault) = status.Trace fault

-- the status of the end of a trace
abbrev pub status_of : Ending → Status
status_of ending = status_by (trace_fault_of ending)

-- a session over the bytes of a trace, by its output over a plan: that output, and the status of the trace's end
abbrev pub over_trace : (Plan → Bool → List ℕ → Output) → Options → List ℕ → Compiled → Answer
over_trace output_of options bytes made = record {
  output = output_of made.plan options.full bytes;
  status = status_of (trace bytes).ending;
}

-- `check` over what a specification is compiled to: its rules in canonical form
abbrev pub checked : Compiled → Answer
checked made = record { output = at_end (listing made.levels made.rules); status = status.Done }

-- sources under a root, or without one, are refused, and how many of them are read before it is known: all
-- together are too long, which is known with the source that passes the limit; or, all of them being read, they
-- define no plan
pub data Refuses (sources : List (List ℕ)) (root : Option (List ℕ)) : ℕ → SpecFault → Type 0 where
  too_long : {place : ℕ} → IsPassedAt specification_limit sources place
      → Refuses sources root (suc place) fault.TooLong
  defines_none : {why : SpecFault} → total sources ≤ specification_limit
      → Specifies sources root (Err why) → Refuses sources root (length sources) why

-- the answer of a command over the sources of a specification, and how many files are read before it is known:
-- the sources are refused; or, all of them and so many more files being read, it is what the command makes of
-- what they are compiled to
pub data Over (sources : List (List ℕ)) (root : Option (List ℕ)) (more : ℕ)
    (answer_of : Compiled → Answer) : ℕ → Answer → Type 0 where
  refused : {reads : ℕ} {why : SpecFault} → Refuses sources root reads why
      → Over sources root more answer_of reads (refusal (status.Specification why))
  accepted : {made : Compiled} → total sources ≤ specification_limit
      → Specifies sources root (Ok made)
      → Over sources root more answer_of (more + length sources) (answer_of made)

-- a line of a count: what is counted, and its number
abbrev pub count_line : List ℕ → ℕ → List ℕ
count_line what count = what ++ codes " " ++ decimal count ++ codes "\n"

-- what `drill` prints of what is counted: the lines, the announcements, the withdrawals, and what heads hold at the end
abbrev pub summary_text : Summary → List ℕ
summary_text summary =
    count_line (codes "lines") summary.lines ++ count_line (codes "additions") summary.additions
    ++ count_line (codes "withdrawals") summary.withdrawals ++ count_line (codes "held") summary.held

-- the answer of `drill` for so many made lines: the text of what is counted over them under its own plan, by minimality
pub record Drills (lines : ℕ) (answer : Answer) : Type 0 where
  pub plan : Plan
  pub planned : IsDrillPlan plan
  pub summary : Summary
  pub counts : IsSummary plan false lines summary
  pub answer_is : answer ≡ record { output = at_end (summary_text summary); status = status.Done }

-- the defined answer to what is asked, over the files, and how many of the command's files are read before it is
-- known
abbrev pub Defines : Option Asked → Files → ℕ → Answer → Type 0
Defines None files reads answer = (reads ≡ 0) × (answer ≡ refusal status.Usage)
Defines (Some (Check options names)) files reads answer =
    Over (sources_of files names) options.root 0 checked reads answer
Defines (Some (Follow options names)) files reads answer =
    let bytes = bytes_of files standard_input in
    Over (sources_of files names) options.root 1 (over_trace followed options bytes) reads answer
Defines (Some (Infer options names trace)) files reads answer =
    let bytes = bytes_of files trace in
    Over (sources_of files names) options.root 1 (over_trace inferred options bytes) reads answer
Defines (Some (Drill lines)) files reads answer = (reads ≡ 0) × Drills lines answer

-- a call ends with the defined status, or with a fault that comes before it, or with want of memory: a read fault
-- comes only at a file that is read before the status is known
abbrev pub EndsFor : ℕ → Status → Status → Type 0
EndsFor reads (status.ReadFault place) defined = place < reads
EndsFor reads status.WriteFault defined = ⊤
EndsFor reads status.NoMemory defined = ⊤
EndsFor reads result defined = result ≡ defined

-- what was taken of an output by a command over a trace of these bytes, which is the file at a place: nothing
-- where a file before it couldn't be read, the text that was due where the trace couldn't, that of the first so
-- many accepted lines where memory was wanted, less than the whole where a write failed, and else the whole
abbrev pub WroteOver : Status → (place : ℕ) → Output
    → (bytes : List ℕ) (rest before now : Option (List ℕ)) → Type 0
WroteOver (status.ReadFault at) place output bytes rest before now =
    ((at < place) × Took before now []) ⊎ ((at ≡ place) × WroteShort output bytes rest before now)
WroteOver status.WriteFault place output bytes rest before now =
    WrotePart output bytes rest before now
WroteOver status.NoMemory place output bytes rest before now =
    (j : ℕ) × Took before now (output.after j)
WroteOver result place output bytes rest before now = Took before now output.text

-- what was taken of a text by a command without a trace, which writes once all is read: nothing where a read
-- failed or memory was wanted, less than the whole where a write failed, and else the whole
abbrev pub WroteAtEnd : Status → (text : List ℕ) (before now : Option (List ℕ)) → Type 0
WroteAtEnd (status.ReadFault place) text before now = Took before now []
WroteAtEnd status.WriteFault text before now = TookPart before now text
WroteAtEnd status.NoMemory text before now = Took before now []
WroteAtEnd result text before now = Took before now text

-- what was taken of a defined output, by what is asked
abbrev pub Wrote : Option Asked → Files → Status → Output
    → (rest before now : Option (List ℕ)) → Type 0
Wrote None files result output rest before now = WroteAtEnd result output.text before now
Wrote (Some (Check options names)) files result output rest before now =
    WroteAtEnd result output.text before now
Wrote (Some (Follow options names)) files result output rest before now =
    WroteOver result (length names) output (bytes_of files standard_input) rest before now
Wrote (Some (Infer options names trace)) files result output rest before now =
    WroteOver result (length names) output (bytes_of files trace) rest before now
Wrote (Some (Drill lines)) files result output rest before now =
    WroteAtEnd result output.text before now

-- a call answered what is asked for over the files: with a status for a defined answer, and with what was taken
-- of its text
pub record Answers (asked : Option Asked) (files : Files) (result : Status)
    (rest before now : Option (List ℕ)) : Type 0 where
  pub reads : ℕ
  pub answer : Answer
  pub defined : Defines asked files reads answer
  pub ends : EndsFor reads result answer.status
  pub writes : Wrote asked files result answer.output rest before now

-- a file couldn't be read: the shelf's faults rose, its last call failed, and it was asked for that file
pub record CannotRead (name : List ℕ) (before now : ShelfTells) : Type 0 where
  pub rose : Rose before.faults now.faults
  pub has_failed : now.failed ≡ true
  pub asked_is : IfSome before.files (λ files. now.asked ≡ Some (asked_of files name))

-- of the files with these names the one at a place couldn't be read
pub record CannotReadAt (names : List (List ℕ)) (place : ℕ) (before now : ShelfTells) : Type 0 where
  pub place_is : place < length names
  pub cannot : CannotRead (slice_index_or names place []) before now

-- what follows from a status that is a read fault
abbrev pub IfReadFault : Status → (ℕ → Type 0) → Type 0
IfReadFault (status.ReadFault place) P = P place
IfReadFault result P = ⊤

-- whether a status is a read fault
abbrev pub is_read_fault : Status → Bool
is_read_fault (status.ReadFault place) = true
is_read_fault other = false

-- the shelf stands in a file of which at most this many bytes were read
pub record StandsIn (files : Files) (name : List ℕ) (most : ℕ)
    (last rest : Option (List ℕ)) : Type 0 where
  pub asked_is : last ≡ Some (asked_of files name)
  pub read : ℕ
  pub within : read ≤ most
  pub rest_is : rest ≡ Some (drop read (bytes_of files name))

-- the shelf stands at the end of a file
pub record StandsAtEnd (files : Files) (name : List ℕ) (last rest : Option (List ℕ)) : Type 0 where
  pub asked_is : last ≡ Some (asked_of files name)
  pub rest_is : rest ≡ Some []

-- the shelf stands where reading of a file failed: nothing is told to be left where the file couldn't be picked,
-- else no more bytes than are allowed were read before the read that failed
abbrev pub StandsShort : Files → List ℕ → ℕ → Option (List ℕ) → Option (List ℕ) → Type 0
StandsShort files name most last rest = (rest ≡ None) ⊎ StandsIn files name most last rest

-- what is left of a trace at each status: what a session leaves of it, and nothing is told where it couldn't be
-- picked; where memory was wanted it may not have been picked yet
abbrev pub LeftBy : Status → (bytes : List ℕ) (rest : Option (List ℕ)) → Type 0
LeftBy status.Done bytes rest = LeftOfTrace {A = Unit {0}} (Ok (tt {0})) bytes rest
LeftBy (status.Trace fault) bytes rest = LeftOfTrace {A = Unit {0}} (Err (session.Trace fault)) bytes rest
LeftBy (status.ReadFault place) bytes rest =
    (rest ≡ None) ⊎ LeftOfTrace {A = Unit {0}} (Err session.ReadFault) bytes rest
LeftBy status.WriteFault bytes rest = LeftOfTrace {A = Unit {0}} (Err session.WriteFault) bytes rest
LeftBy other bytes rest = ⊤

-- where reading stood at the end, once the trace of this name was asked for
abbrev pub TraceReadsTo : List ℕ → Status → Files → (last rest : Option (List ℕ)) → Type 0
TraceReadsTo trace status.NoMemory files last rest = ⊤
TraceReadsTo trace result files last rest =
    (last ≡ Some (asked_of files trace)) × LeftBy result (bytes_of files trace) rest

-- how many bytes are allowed of the specification's file at a place: what the files before it leave of the limit
abbrev pub allowed_at : List (List ℕ) → Files → ℕ → ℕ
allowed_at names files place = specification_limit - total (take place (sources_of files names))

-- the shelf stands in a file of which more than some bytes were read, and at most one piece past them
pub record StandsPastIn (files : Files) (name : List ℕ) (most : ℕ)
    (last rest : Option (List ℕ)) : Type 0 where
  pub asked_is : last ≡ Some (asked_of files name)
  pub read : ℕ
  pub past : most < read
  pub within : read ≤ most + piece_limit
  pub rest_is : rest ≡ Some (drop read (bytes_of files name))

-- reading stands in the file of a specification with which the files are too long, past what is allowed of it by
-- one piece at most
pub record StandsPast (names : List (List ℕ)) (files : Files)
    (last rest : Option (List ℕ)) : Type 0 where
  pub place : ℕ
  pub passes : IsPassedAt specification_limit (sources_of files names) place
  pub stands : StandsPastIn files (slice_index_or names place [])
      (allowed_at names files place) last rest

-- reading stands at the end of the last file of a specification
abbrev pub StandsAfter : List (List ℕ) → Files → Option (List ℕ) → Option (List ℕ) → Type 0
StandsAfter names files last rest =
    StandsAtEnd files (slice_index_or names (length names - 1) []) last rest

-- where reading stood where a read of a file failed: in a file of the specification no more than the allowed
-- bytes were read before, and in the trace no refusal was known
abbrev pub ReadShort : (names : List (List ℕ)) (trace : List ℕ) (place : ℕ) → Files
    → (last rest : Option (List ℕ)) → Type 0
ReadShort names trace place files last rest =
    ((place < length names)
    × StandsShort files (slice_index_or names place []) (allowed_at names files place) last rest)
    ⊎ ((place ≡ length names) × TraceReadsTo trace (status.ReadFault place) files last rest)

-- where reading stood where a specification was refused: no read is made after that is known
abbrev pub RefusedReadsTo : List (List ℕ) → SpecFault → Files
    → (last rest : Option (List ℕ)) → Type 0
RefusedReadsTo names fault.TooLong files last rest = StandsPast names files last rest
RefusedReadsTo names other files last rest = StandsAfter names files last rest

-- where reading stood at the end of a command over a trace: no read is made after a refusal is known, and at most
-- one piece was read past the byte that shows it
abbrev pub FollowReadsTo : (names : List (List ℕ)) (trace : List ℕ) → Status → Files
    → (last rest : Option (List ℕ)) → Type 0
FollowReadsTo names trace (status.Specification why) files last rest =
    RefusedReadsTo names why files last rest
FollowReadsTo names trace (status.ReadFault place) files last rest =
    ReadShort names trace place files last rest
FollowReadsTo names trace result files last rest = TraceReadsTo trace result files last rest

-- where reading stood at the end of a command that reads a specification alone
abbrev pub CheckReadsTo : List (List ℕ) → Status → Files → (last rest : Option (List ℕ)) → Type 0
CheckReadsTo names (status.Specification why) files last rest =
    RefusedReadsTo names why files last rest
CheckReadsTo names (status.ReadFault place) files last rest =
    StandsShort files (slice_index_or names place []) (allowed_at names files place) last rest
CheckReadsTo names status.NoMemory files last rest = ⊤
CheckReadsTo names result files last rest = StandsAfter names files last rest

-- where reading stood at the end of a command with these files of a specification, by the word of its trace,
-- where it has one
abbrev pub CommandReadsTo : List (List ℕ) → Option (List ℕ) → Status → Files
    → (last rest : Option (List ℕ)) → Type 0
CommandReadsTo names None result files last rest = CheckReadsTo names result files last rest
CommandReadsTo names (Some trace) result files last rest =
    FollowReadsTo names trace result files last rest

-- where reading stood at the end of a call, by what is asked: words that ask for nothing, and `drill`, leave the shelf
-- as it was
abbrev pub ReadsTo : Option Asked → Status → Files
    → (asked_before rest_before last rest : Option (List ℕ)) → Type 0
ReadsTo None result files asked_before rest_before last rest =
    (last ≡ asked_before) × (rest ≡ rest_before)
ReadsTo (Some (Drill lines)) result files asked_before rest_before last rest =
    (last ≡ asked_before) × (rest ≡ rest_before)
ReadsTo (Some question) result files asked_before rest_before last rest =
    CommandReadsTo (specification_words (Some question)) (trace_of question) result files last rest

-- the file that was asked for last is one of these, or is still that of before the call
abbrev pub AsksWithin : List (List ℕ) → Files → Option (List ℕ) → Option (List ℕ) → Type 0
AsksWithin names files before last = (last ≡ before)
    ⊎ ((place : ℕ) × (place < length names)
    × (last ≡ Some (asked_of files (slice_index_or names place []))))

-- an answer to what is asked, or want of memory
abbrev pub IsCompleteFor : (ℕ → Answer → Type 0) → Status → Type 0
IsCompleteFor Defined status.NoMemory = ⊤
IsCompleteFor Defined result =
    (reads : ℕ) × (answer : Answer) × Defined reads answer × (result ≡ answer.status)

-- what `infer` wrote it wrote once its trace was accepted and read to its end, also where the write failed
abbrev pub WroteLast : Option Asked → Files → Status → (rest : Option (List ℕ)) → Type 0
WroteLast (Some (Infer options names name)) files status.WriteFault rest =
    ((trace (bytes_of files name)).ending ≡ Done) × (rest ≡ Some [])
WroteLast question files result rest = ⊤

-- after each accepted line of a trace, what was announced so far, read back, is what is shown under what the
-- files of a specification are compiled to
abbrev pub AreReplayed : Options → List (List ℕ) → List ℕ → Files → Type 0
AreReplayed options names bytes files = (made : Compiled)
    → Specifies (sources_of files names) options.root (Ok made)
    → (k : ℕ) → IsReplayed made.plan options.full (take k (trace bytes).events)

-- where `follow` read its trace to the end or to a refusal, what it announced, read back after each accepted
-- line, is what is shown
abbrev pub Replays : Option Asked → Files → Status → Type 0
Replays (Some (Follow options names)) files status.Done =
    AreReplayed options names (bytes_of files standard_input) files
Replays (Some (Follow options names)) files (status.Trace fault) =
    AreReplayed options names (bytes_of files standard_input) files
Replays question files result = ⊤
