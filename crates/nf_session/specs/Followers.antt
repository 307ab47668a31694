-- Following a trace that comes in pieces: what a follower stands for, and how taking a piece ends.
use Rattle.std.specs.Prelude.{◌≡◌, ℕ, ◌+◌, ◌≤◌, ℤ, Bool, List, [], ◌++◌, length, take, All, IfOk, ⊤, Option, None, Some, Result, Ok, Err, position, bytes_eq}
use Rattle.nf_core.specs.Plan.{Plan}
use Rattle.nf_io.specs.Bytes.{Took, TookPart}
use Rattle.nf_line.specs.Lines.{cut, ended_lines, line_limit, unended}
use Rattle.nf_line.specs.Readings.{trace_fault_of}
use Rattle.nf_line.specs.Trace.{Event, Ending, Done, last_end, trace, trace_from, trace_so_far}
use Rattle.nf_model.specs.Changes.{Content}
use Rattle.nf_session.specs.Follow.{content_after, due, follow_text}
use Rattle.nf_session.specs.declared.fault.FollowEnd.{FollowEnd}
use Rattle.nf_session.specs.declared.fault.FollowEnd.TheVariants as follow_end

-- a follower between two pieces of a trace: its inferer's content, how many lines ended so far, the end of the last accepted one, what is kept of the next one, and whether its inferer is thrifty
pub record Follower : Type 0 where
  pub content : Content
  pub lines : ℕ
  pub last : Option ℤ
  pub kept : List ℕ
  pub thrifty : Bool

-- what a follower under a plan stands for: these bytes of a trace
pub record StandsFor (plan : Plan) (full : Bool) (bytes : List ℕ)
    (follower : Follower) : Type 0 where
  -- no line that ended in them is refused
  pub unrefused : (trace_so_far bytes).ending ≡ Done
  -- the events of the lines that ended in them are entered
  pub content_is : follower.content ≡ content_after plan full (trace_so_far bytes).events
  -- as many lines ended as LF bytes stand in them
  pub counted : follower.lines ≡ ended_lines bytes
  -- the last end is that of the last accepted line
  pub last_is : follower.last ≡ last_end None (trace_so_far bytes).events
  -- what stands behind the last LF is kept, and it isn't longer than a line may be
  pub kept_is : follower.kept ≡ unended bytes
  pub within : length follower.kept ≤ line_limit

-- what was taken leads from one text to a longer one: it is what the second one has more
pub record TookOn (before now : Option (List ℕ)) (from to : List ℕ) : Type 0 where
  pub more : List ℕ
  pub longer : to ≡ from ++ more
  pub taken : Took before now more

-- the same, and less than what the second one has more was taken
pub record TookPartOn (before now : Option (List ℕ)) (from to : List ℕ) : Type 0 where
  pub more : List ℕ
  pub longer : to ≡ from ++ more
  pub taken : TookPart before now more

-- what a call took that was handed a part of a trace, where the text `from` was written before and these are the accepted lines with that part: the text of all of them on Ok and at a refusal, less than it at a fault of the output, and that of the first so many where memory was wanted
abbrev pub Writes : {A : Type 0} → Plan → Bool → List ℕ → List Event → Result A FollowEnd
    → (before now : Option (List ℕ)) → Type 0
Writes plan full from events (Ok next) before now =
    TookOn before now from (follow_text plan full events)
Writes plan full from events (Err (follow_end.Trace fault)) before now =
    TookOn before now from (follow_text plan full events)
Writes plan full from events (Err follow_end.WriteFault) before now =
    TookPartOn before now from (follow_text plan full events)
Writes plan full from events (Err follow_end.NoMemory) before now =
    (j : ℕ) × TookOn before now from (follow_text plan full (take j events))

-- a call ends with the end of what it was handed: a refusal is answered exactly where it is the end, unless a write failed or memory was wanted before
abbrev pub EndsBy : {A : Type 0} → Ending → Result A FollowEnd → Type 0
EndsBy ending (Ok next) = ending ≡ Done
EndsBy ending (Err (follow_end.Trace fault)) = trace_fault_of ending ≡ Some fault
EndsBy ending (Err follow_end.WriteFault) = ⊤
EndsBy ending (Err follow_end.NoMemory) = ⊤

-- a piece was handed to a follower that stands for the bytes before it: on Ok what is left stands for them and the piece, and what was taken is the text of the lines that ended in the piece, up to a refusal, a fault or want of memory
pub record Feeds (plan : Plan) (full : Bool) (bytes piece : List ℕ)
    (result : Result Follower FollowEnd) (before now : Option (List ℕ)) : Type 0 where
  pub stands : IfOk result (StandsFor plan full (bytes ++ piece))
  pub ends : EndsBy (trace_so_far (bytes ++ piece)).ending result
  pub writes : Writes plan full (due plan full bytes)
      (trace_so_far (bytes ++ piece)).events result before now

-- a follower at the end of a trace: the events of all accepted lines are entered, all lines are counted, and nothing is kept
pub record StandsAtEndOf (plan : Plan) (full : Bool) (bytes : List ℕ)
    (follower : Follower) : Type 0 where
  pub content_is : follower.content ≡ content_after plan full (trace bytes).events
  pub counted : follower.lines ≡ length (cut bytes)
  pub last_is : follower.last ≡ last_end None (trace bytes).events
  pub kept_is : follower.kept ≡ []

-- a trace ended for a follower that stands for its bytes: what is kept is handled as its last line
pub record Finishes (plan : Plan) (full : Bool) (bytes : List ℕ)
    (result : Result Follower FollowEnd) (before now : Option (List ℕ)) : Type 0 where
  pub stands : IfOk result (StandsAtEndOf plan full bytes)
  pub ends : EndsBy (trace bytes).ending result
  pub writes : Writes plan full (due plan full bytes) (trace bytes).events result before now

-- a piece for which a follower wants no memory: nothing is kept, the piece is empty or ends in LF, and no line in it that is accepted has a name of the plan
pub record NeedsNoMemory (follower : Follower) (piece : List ℕ) : Type 0 where
  pub none_kept : follower.kept ≡ []
  pub ends : unended piece ≡ []
  pub others : All
      (λ (event : Event). position (bytes_eq event.name) follower.content.plan.names ≡ None)
      (trace_from (follower.lines + 1) follower.last Done (cut piece)).events
