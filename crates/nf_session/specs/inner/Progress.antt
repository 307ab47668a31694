-- How far the lines of a trace were read, and what was done with them.
use Rattle.std.specs.Prelude.{◌≡◌, ℕ, ◌+◌, ◌≤◌, ℤ, List, [], ◌∷◌, ◌++◌, length, fold, take, Option, Some, None, position, bytes_eq, Result, Ok, Err, ⊤}
use Rattle.nf_core.specs.declared.intervals.Change.{Change}
use Rattle.nf_io.specs.Bytes.{Took, TookPart}
use Rattle.nf_announce.specs.Announcements.{change_text}
use Rattle.nf_core.specs.Plan.{Plan}
use Rattle.nf_line.specs.Cutting.{CanBeRead}
use Rattle.nf_line.specs.Line.{Line}
use Rattle.nf_line.specs.Lines.{cut, cut_off, ended_lines, unended}
use Rattle.nf_line.specs.Raw.{Raw}
use Rattle.nf_line.specs.Readings.{event_of, trace_fault_of}
use Rattle.nf_line.specs.Standing.{Standing, read_on}
use Rattle.nf_line.specs.Trace.{Event, Ending, Done, Refused, Refusal, Trace, after_events, last_end, refused, trace_over}
use Rattle.nf_line.specs.declared.fault.TraceFault.{TraceFault}
use Rattle.nf_model.specs.Changes.{Content, change}
use Rattle.nf_model.specs.Work.{work_between}
use Rattle.nf_session.specs.Costs.{work_from}
use Rattle.nf_session.specs.Follow.{entered, text_from}
use Rattle.nf_session.specs.Followers.{Follower}
use Rattle.nf_session.specs.declared.fault.FollowEnd.{FollowEnd}
use Rattle.nf_session.specs.declared.fault.FollowEnd.TheVariants as follow_end
use Rattle.nf_session.specs.declared.fault.Halt.{Halt}
use Rattle.nf_session.specs.declared.fault.Halt.TheVariants as halt
use Rattle.nf_session.specs.declared.reading.Place.{Place}

-- where a follower stands in its trace
abbrev pub standing_of : Follower → Standing
standing_of follower = record { ended = follower.lines; rest = follower.kept; last = follower.last }

-- what is read of more bytes from there on, while others may come
abbrev pub more_read : Standing → List ℕ → Trace
more_read standing bytes = read_on standing Done (cut_off (standing.rest ++ bytes))

-- what is read from there on where the trace ends
abbrev pub last_read : Standing → Trace
last_read standing = read_on standing Done (cut standing.rest)

-- the event of a line that was read, with its number, where it isn't empty
abbrev pub event_read : ℕ → Option Raw → List Event
event_read number None = []
event_read number (Some raw) = event_of number raw ∷ []

-- a line is accepted or empty, whatever lines follow: its event comes first, and what follows reads on
abbrev pub LeadsOn : ℕ → Option ℤ → Line → List Event → Type 0
LeadsOn number last line events = (ending : Ending) (rest : List Line)
    → trace_over number last ending (line ∷ rest)
    ≡ after_events events (trace_over (number + 1) (last_end last events) ending rest)

-- a line is refused so, whatever lines follow
pub record IsRefused (number : ℕ) (last : Option ℤ) (line : Line)
    (fault : TraceFault) : Type 0 where
  pub why : Refusal
  pub named : trace_fault_of (Refused number why) ≡ Some fault
  pub refuses : (ending : Ending) (rest : List Line)
      → trace_over number last ending (line ∷ rest) ≡ refused number why

-- the text of a change, where there is one
abbrev pub text_of_change : Plan → Option Change → List ℕ
text_of_change plan (Some made) = change_text plan made
text_of_change plan None = []

-- the work between two contents, where a change was made of the one to the other
abbrev pub work_made : Option Change → (before now : Content) → ℕ
work_made (Some made) before now = work_between before now
work_made None before now = 0

-- a line was handled: it was counted, and its event entered; the text of that is that of what was made of it, and what was made of it isn't more than the work of that
pub record Handles (line : Line) (place : Place) (content : Content)
    (next : Place) (now : Content) (made : Option Change) : Type 0 where
  pub events : List Event
  pub leads : LeadsOn (place.lines + 1) place.last line events
  pub counted : next.lines ≡ place.lines + 1
  pub last_is : next.last ≡ last_end place.last events
  pub content_is : now ≡ fold entered content events
  pub text_is : text_from content events ≡ text_of_change content.plan made
  pub worth : work_made made content now ≤ work_from content events

-- handling a line halts where it is refused, or where memory was wanted
abbrev pub HaltsAt : ℕ → Option ℤ → Line → Halt → Type 0
HaltsAt number last line (halt.Refused fault) = IsRefused number last line fault
HaltsAt number last line halt.NoMemory = ⊤

-- reading comes from a place before a piece to one before the rest of it, and reads these events
pub record GoesOn (from : Standing) (piece : List ℕ) (events : List Event)
    (to : Standing) (rest : List ℕ) : Type 0 where
  pub reads : more_read from piece ≡ after_events events (more_read to rest)
  pub counted : to.ended + ended_lines rest ≡ from.ended + ended_lines piece
  pub last_is : to.last ≡ last_end from.last events
  pub kept_is : unended (to.rest ++ rest) ≡ unended (from.rest ++ piece)
  pub valid : CanBeRead from.rest → CanBeRead to.rest

-- reading halts with the refusal that a trace is, or where memory was wanted
abbrev pub Halts : Halt → Trace → Type 0
Halts (halt.Refused fault) trace = (trace.events ≡ []) × (trace_fault_of trace.ending ≡ Some fault)
Halts halt.NoMemory trace = ⊤

-- a follower handled a part of a piece: it read on, and entered the events that it read
pub record Enters (from : Follower) (piece : List ℕ) (to : Follower) (rest : List ℕ) : Type 0 where
  pub events : List Event
  pub goes : GoesOn (standing_of from) piece events (standing_of to) rest
  pub content_is : to.content ≡ fold entered from.content events

-- the same with at most one event, of which this change was made
pub record Takes (from : Follower) (piece : List ℕ) (to : Follower) (rest : List ℕ)
    (made : Option Change) : Type 0 where
  pub enters : Enters from piece to rest
  pub text_is : text_from from.content enters.events ≡ text_of_change from.content.plan made
  pub worth : work_made made from.content to.content ≤ work_from from.content enters.events

-- a follower handled a part of a piece, and wrote the text of the events that it read
pub record HasFed (from : Follower) (piece : List ℕ) (to : Follower) (rest : List ℕ)
    (before now : Option (List ℕ)) : Type 0 where
  pub enters : Enters from piece to rest
  pub taken : Took before now (text_from from.content enters.events)

-- a follower handled what it kept as the last line of its trace
pub record EntersLast (from to : Follower) : Type 0 where
  pub events : List Event
  pub reads : last_read (standing_of from) ≡ record { events = events; ending = Done }
  pub counted : to.lines ≡ from.lines + length (cut from.kept)
  pub last_is : to.last ≡ last_end from.last events
  pub kept_is : to.kept ≡ []
  pub content_is : to.content ≡ fold entered from.content events

-- the same, of which this change was made
pub record TakesLast (from to : Follower) (made : Option Change) : Type 0 where
  pub enters : EntersLast from to
  pub text_is : text_from from.content enters.events ≡ text_of_change from.content.plan made
  pub worth : work_made made from.content to.content ≤ work_from from.content enters.events

-- the change between two contents, where they may differ; else they are the same
abbrev pub LeavesChange : (before now : Content) → Option Change → Type 0
LeavesChange before now (Some made) = made ≡ change before now
LeavesChange before now None = now ≡ before

-- an event has no name of a plan
abbrev pub IsForeign : Content → Event → Type 0
IsForeign content event = position (bytes_eq event.name) content.plan.names ≡ None

-- a halt that wants no memory
abbrev pub IsQuietHalt : Halt → Type 0
IsQuietHalt (halt.Refused fault) = ⊤
IsQuietHalt halt.NoMemory = ⊥

-- an answer that takes no memory: nothing is to be entered or has changed, unless a line is refused
abbrev pub IsQuiet : {A B : Type 0} → (A → Option B) → Result A Halt → Type 0
IsQuiet part_of (Ok answer) = part_of answer ≡ None
IsQuiet change_of (Err why) = IsQuietHalt why

-- how handling what is read of a trace from a content on ends early, and what was taken of its text
abbrev pub Stops : FollowEnd → Content → Trace → (before now : Option (List ℕ)) → Type 0
Stops (follow_end.Trace fault) content trace before now =
    (trace_fault_of trace.ending ≡ Some fault) × Took before now (text_from content trace.events)
Stops follow_end.WriteFault content trace before now =
    TookPart before now (text_from content trace.events)
Stops follow_end.NoMemory content trace before now =
    (j : ℕ) × Took before now (text_from content (take j trace.events))

-- a call that writes a text failed: less than the whole was taken, or nothing where memory was wanted
abbrev pub Failed : FollowEnd → List ℕ → (before now : Option (List ℕ)) → Type 0
Failed follow_end.WriteFault text before now = TookPart before now text
Failed follow_end.NoMemory text before now = Took before now []
Failed (follow_end.Trace fault) text before now = ⊥
