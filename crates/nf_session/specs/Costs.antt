-- How many expressions may be evaluated for the lines of a trace: the work of each, from the inputs before it to those after it.
use Rattle.std.specs.Prelude.{ℕ, ◌+◌, ◌≤◌, Bool, List, [], ◌∷◌, ◌++◌, ◌<◌, length, IsTrue}
use Rattle.nf_core.specs.Plan.{Plan}
use Rattle.nf_line.specs.Trace.{Event, trace, trace_limit, trace_so_far}
use Rattle.nf_model.specs.Changes.{Content, no_inputs}
use Rattle.nf_model.specs.Work.{work_between}
use Rattle.nf_session.specs.Follow.{entered}
use Rattle.nf_session.specs.Followers.{Follower, StandsFor}

-- the work of some events, one after the other from a content on: of each that from the content before it to the one with it
unfoldable pub work_from : Content → List Event → ℕ
work_from content [] = 0
work_from content (event ∷ events) =
    work_between content (entered content event) + work_from (entered content event) events

-- the work of some events, one after the other from no inputs on
abbrev pub work_of : Plan → Bool → List Event → ℕ
work_of plan full events = work_from (no_inputs plan full) events

-- a counter rose by at most the work of the events that some events have behind others, which were entered before
abbrev pub KeepsToWork : Plan → Bool → (entered events : List Event) → (before now : ℕ) → Type 0
KeepsToWork plan full entered events before now =
    now + work_of plan full entered ≤ before + work_of plan full events

-- a piece was handed to a follower whose inferer is thrifty, and which stands for the bytes before it: a counter rose by at most the work of the accepted lines that the piece ends
abbrev pub FeedsWithinWork : Follower → (piece : List ℕ) → (before now : ℕ) → Type 0
FeedsWithinWork follower piece before now =
    IsTrue follower.thrifty → (plan : Plan) (full : Bool) (bytes : List ℕ)
    → length bytes + length piece ≤ trace_limit → StandsFor plan full bytes follower
    → KeepsToWork plan full (trace_so_far bytes).events (trace_so_far (bytes ++ piece)).events before now

-- a trace ended for a follower whose inferer is thrifty, and which stands for its bytes: a counter rose by at most the work of its last line
abbrev pub FinishesWithinWork : Follower → (before now : ℕ) → Type 0
FinishesWithinWork follower before now =
    IsTrue follower.thrifty → (plan : Plan) (full : Bool) (bytes : List ℕ)
    → length bytes < trace_limit → StandsFor plan full bytes follower
    → KeepsToWork plan full (trace_so_far bytes).events (trace bytes).events before now
