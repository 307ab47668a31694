-- A session over a whole trace: what it is to write, how it ends, what it wrote, and what it left of the trace.
use Rattle.std.specs.Prelude.{◌≡◌, ◌⊎◌, ℕ, ◌+◌, ◌≤◌, ◌<◌, Bool, true, false, List, [], length, take, drop, Option, Some, None, Result, Ok, Err, ⊤}
use Rattle.nf_core.specs.Plan.{Plan}
use Rattle.nf_announce.specs.Announcements.{held_text}
use Rattle.nf_io.specs.Bytes.{Took, TookAtLeast, TookPart}
use Rattle.nf_io.specs.Causes.{Rose}
use Rattle.nf_io.specs.Tells.{ShelfTells, SinkTells}
use Rattle.nf_line.specs.Readings.{trace_fault_of}
use Rattle.nf_line.specs.Trace.{Ending, Event, Done, Refused, TooLong, Trace, trace, trace_limit, trace_so_far}
use Rattle.nf_line.specs.declared.fault.TraceFault.TheVariants as trace_fault
use Rattle.nf_session.specs.Follow.{content_after, due, follow_text}
use Rattle.nf_session.specs.declared.fault.SessionEnd.{SessionEnd}
use Rattle.nf_session.specs.declared.fault.SessionEnd.TheVariants as session
use Rattle.nf_session.specs.declared.pieces.TheConstants.{PIECE_LIMIT}

-- the most bytes of one read
abbrev pub piece_limit : ℕ
piece_limit = PIECE_LIMIT

-- what a session is to write: the whole text, the text that is due where so many bytes of the trace were read,
-- and the text of its first so many accepted lines
pub record Output : Type 0 where
  pub text : List ℕ
  pub due_at : ℕ → List ℕ
  pub after : ℕ → List ℕ

-- an output that is written once all is read: before that nothing is due, and no line has a text of its own
abbrev pub at_end : List ℕ → Output
at_end text = record { text = text; due_at = λ read. []; after = λ j. [] }

-- `follow` writes the text of each accepted line while it reads
abbrev pub followed : Plan → Bool → List ℕ → Output
followed plan full bytes = record {
  text = follow_text plan full (trace bytes).events;
  due_at = λ read. due plan full (take read bytes);
  after = λ j. follow_text plan full (take j (trace bytes).events);
}

-- the text of accepted lines by how their trace ended: the held intervals of heads after all of them, and
-- nothing where a line is refused or the trace is too long
abbrev pub held_at : Plan → Bool → List Event → Ending → List ℕ
held_at plan full events Done = held_text (content_after plan full events)
held_at plan full events (Refused number refusal) = []
held_at plan full events TooLong = []

-- what `infer` writes of a trace
abbrev pub inferred_text : Plan → Bool → Trace → List ℕ
inferred_text plan full trace = held_at plan full trace.events trace.ending

-- `infer` writes once the trace is accepted
abbrev pub inferred : Plan → Bool → List ℕ → Output
inferred plan full bytes = at_end (inferred_text plan full (trace bytes))

-- a session ends with the end of the trace, or with a fault or want of memory before it
abbrev pub EndsAs : {A : Type 0} → Ending → Result A SessionEnd → Type 0
EndsAs ending (Ok done) = ending ≡ Done
EndsAs ending (Err (session.Trace fault)) = trace_fault_of ending ≡ Some fault
EndsAs ending (Err session.ReadFault) = ⊤
EndsAs ending (Err session.WriteFault) = ⊤
EndsAs ending (Err session.NoMemory) = ⊤

-- so many bytes of a trace were read: none where it couldn't be picked, else those before what is left of it
abbrev pub WasRead : (bytes : List ℕ) (rest : Option (List ℕ)) → ℕ → Type 0
WasRead bytes rest read =
    ((rest ≡ None) × (read ≡ 0)) ⊎ ((read ≤ length bytes) × (rest ≡ Some (drop read bytes)))

-- what was taken where a read of the trace failed: the text that was due with the bytes that were read
pub record WroteShort (output : Output) (bytes : List ℕ) (rest before now : Option (List ℕ))
    : Type 0 where
  pub read : ℕ
  pub was_read : WasRead bytes rest read
  pub taken : Took before now (output.due_at read)

-- what was taken where a write failed: less than the whole, and nothing is missing of the text that was due at some
-- place at most 65,536 bytes before the last byte read
pub record WrotePart (output : Output) (bytes : List ℕ) (rest before now : Option (List ℕ))
    : Type 0 where
  pub read : ℕ
  pub was_read : WasRead bytes rest read
  pub earlier : ℕ
  pub one_piece : (earlier ≤ read) × (read ≤ earlier + piece_limit)
  pub due_is_written : TookAtLeast before now (output.due_at earlier)
  pub part : TookPart before now output.text

-- what was taken by a session: the whole text, unless a read or a write failed or memory was wanted; where memory
-- was wanted, the text of the first so many accepted lines
abbrev pub Wrote : {A : Type 0} → Result A SessionEnd → Output
    → (bytes : List ℕ) (rest before now : Option (List ℕ)) → Type 0
Wrote (Ok done) output bytes rest before now = Took before now output.text
Wrote (Err (session.Trace fault)) output bytes rest before now = Took before now output.text
Wrote (Err session.ReadFault) output bytes rest before now = WroteShort output bytes rest before now
Wrote (Err session.WriteFault) output bytes rest before now = WrotePart output bytes rest before now
Wrote (Err session.NoMemory) output bytes rest before now = (j : ℕ) × Took before now (output.after j)

-- so many bytes of a trace were read, and at some place at most 65,536 bytes before the last of them no refusal was
-- known and the limit wasn't reached
pub record EndsInPiece (bytes : List ℕ) (rest : Option (List ℕ)) : Type 0 where
  pub read : ℕ
  pub within : (read ≤ length bytes) × (read ≤ trace_limit)
  pub rest_is : rest ≡ Some (drop read bytes)
  pub earlier : ℕ
  pub one_piece : (earlier ≤ read) × (read ≤ earlier + piece_limit)
  pub goes_on : earlier < trace_limit
  pub unrefused : (trace_so_far (take earlier bytes)).ending ≡ Done

-- a line was refused: the bytes read show it, so that fewer than 65,536 were read past the byte that shows it; or
-- the trace was read to its end
pub record LeftRefused (bytes : List ℕ) (rest : Option (List ℕ)) : Type 0 where
  pub ends : EndsInPiece bytes rest
  pub known : ((trace_so_far (take ends.read bytes)).ending ≡ (trace bytes).ending) ⊎ (rest ≡ Some [])

-- so many bytes of a trace were read as make it too long, and no more
pub record LeftAtLimit (bytes : List ℕ) (rest : Option (List ℕ)) : Type 0 where
  pub enough : trace_limit ≤ length bytes
  pub rest_is : rest ≡ Some (drop trace_limit bytes)

-- fewer bytes of a trace were read than make it too long, and no refusal is known of the lines that ended in them
pub record LeftUnrefused (bytes : List ℕ) (rest : Option (List ℕ)) : Type 0 where
  pub read : ℕ
  pub within : read ≤ length bytes
  pub rest_is : rest ≡ Some (drop read bytes)
  pub goes_on : read < trace_limit
  pub unrefused : (trace_so_far (take read bytes)).ending ≡ Done

-- what is left of a trace at the end of a session: nothing where all is done; where a line is refused, what stands
-- at most 65,536 bytes behind a place where no refusal was known, and at the limit, what stands behind it; where a read failed, what stands behind a place
-- where no refusal was known; and where a write failed or memory was wanted, the same as where a line is
-- refused, whether the refusal is known or not
abbrev pub LeftOfTrace : {A : Type 0} → Result A SessionEnd → (bytes : List ℕ) (rest : Option (List ℕ))
    → Type 0
LeftOfTrace (Ok done) bytes rest = rest ≡ Some []
LeftOfTrace (Err (session.Trace (trace_fault.Long number))) bytes rest = LeftRefused bytes rest
LeftOfTrace (Err (session.Trace (trace_fault.Line number fault))) bytes rest = LeftRefused bytes rest
LeftOfTrace (Err (session.Trace (trace_fault.Order number kept found))) bytes rest = LeftRefused bytes rest
LeftOfTrace (Err (session.Trace trace_fault.TooLong)) bytes rest = LeftAtLimit bytes rest
LeftOfTrace (Err session.ReadFault) bytes rest = LeftUnrefused bytes rest
LeftOfTrace (Err session.WriteFault) bytes rest = EndsInPiece bytes rest
LeftOfTrace (Err session.NoMemory) bytes rest = EndsInPiece bytes rest

-- a session over the trace of these bytes ended: with the trace's end or with a fault or want of memory before it,
-- with what was taken of its output, and with what is left of the trace
pub record Ends {A : Type 0} (output : Output) (bytes : List ℕ) (result : Result A SessionEnd)
    (rest before now : Option (List ℕ)) : Type 0 where
  pub ends : EndsAs (trace bytes).ending result
  pub writes : Wrote result output bytes rest before now
  pub left : LeftOfTrace result bytes rest

-- whether a session ended since its trace couldn't be read
abbrev pub is_unread : {A : Type 0} → Result A SessionEnd → Bool
is_unread (Err session.ReadFault) = true
is_unread other = false

-- what a session does to its shelf and its output besides: the file stays the one that was asked for; a read fault
-- comes only where the shelf failed in this call, at its last call, and a write fault only where the output failed
-- in it; no count of faults falls
pub record HasCauses {A : Type 0} (result : Result A SessionEnd) (shelf shelf_now : ShelfTells)
    (out out_now : SinkTells) : Type 0 where
  pub files : shelf_now.files ≡ shelf.files
  pub asked : shelf_now.asked ≡ shelf.asked
  pub read_fault : result ≡ Err session.ReadFault → Rose shelf.faults shelf_now.faults
  pub failed : result ≡ Err session.ReadFault → shelf_now.failed ≡ true
  pub only_failed : shelf.failed ≡ false → shelf_now.failed ≡ is_unread result
  pub write_fault : result ≡ Err session.WriteFault → Rose out.faults out_now.faults
  pub never_falls : shelf.faults ≤ shelf_now.faults
  pub never_falls_out : out.faults ≤ out_now.faults
