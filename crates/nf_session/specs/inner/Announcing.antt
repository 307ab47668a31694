-- Handling a trace piece by piece, with the changes of its lines announced or not.
use Rattle.std.specs.Prelude.{◌≡◌, ℕ, ◌+◌, ◌≤◌, Bool, IsTrue, List, [], ◌++◌, length, take, drop, IfOk, Option, Some, Result, Ok}
use Rattle.nf_core.specs.Plan.{Plan}
use Rattle.nf_io.specs.Bytes.{Took}
use Rattle.nf_io.specs.Tells.{ShelfTells, SinkTells}
use Rattle.nf_line.specs.Trace.{Event, trace, trace_limit, trace_so_far}
use Rattle.nf_session.specs.Costs.{work_of}
use Rattle.nf_session.specs.Follow.{due}
use Rattle.nf_session.specs.Followers.{EndsBy, Follower, StandsAtEndOf, StandsFor, Writes}
use Rattle.nf_session.specs.Sessions.{EndsInPiece, HasCauses, Output, at_end, followed}
use Rattle.nf_session.specs.declared.fault.FollowEnd.{FollowEnd}
use Rattle.nf_session.specs.declared.session.Announcing.{Announcing}
use Rattle.nf_session.specs.declared.session.Announcing.TheVariants as announcing

-- what is to be written while a trace is read: the text of each line, or nothing
abbrev pub written_by : Announcing → Plan → Bool → List ℕ → Output
written_by announcing.EachLine plan full bytes = followed plan full bytes
written_by announcing.Nothing plan full bytes = at_end []

-- what a call took that was handed a part of a trace: that of `Writes` where lines are announced, else nothing
abbrev pub WritesBy : {A : Type 0} → Announcing → Plan → Bool → List ℕ → List Event
    → Result A FollowEnd → (before now : Option (List ℕ)) → Type 0
WritesBy announcing.EachLine plan full from events result before now =
    Writes plan full from events result before now
WritesBy announcing.Nothing plan full from events result before now = now ≡ before

-- a piece was handed to a follower that stands for the bytes before it (`Feeds` where lines are announced)
pub record HandlesPiece (how : Announcing) (plan : Plan) (full : Bool) (bytes piece : List ℕ)
    (result : Result Follower FollowEnd) (before now : Option (List ℕ)) : Type 0 where
  pub stands : IfOk result (StandsFor plan full (bytes ++ piece))
  pub ends : EndsBy (trace_so_far (bytes ++ piece)).ending result
  pub writes : WritesBy how plan full (due plan full bytes) (trace_so_far (bytes ++ piece)).events
      result before now

-- a trace ended for a follower that stands for its bytes (`Finishes` where lines are announced)
pub record HandlesLast (how : Announcing) (plan : Plan) (full : Bool) (bytes : List ℕ)
    (result : Result Follower FollowEnd) (before now : Option (List ℕ)) : Type 0 where
  pub stands : IfOk result (StandsAtEndOf plan full bytes)
  pub ends : EndsBy (trace bytes).ending result
  pub writes : WritesBy how plan full (due plan full bytes) (trace bytes).events result before now

-- a session stands behind the first bytes of a trace, which were fed: the others are left, and the text that is due
-- with those that were fed was taken
pub record StandsBehind (output : Output) (bytes fed : List ℕ) (rest before now : Option (List ℕ))
    : Type 0 where
  pub within : length fed ≤ length bytes
  pub fed_is : fed ≡ take (length fed) bytes
  pub rest_is : rest ≡ Some (drop (length fed) bytes)
  pub taken : Took before now (output.due_at (length fed))

-- a session goes on: the bytes that were read were fed to a follower that stands for them, they aren't too many, no
-- fault came, and where the shelf told the trace the session stands behind them; where its inferer is thrifty, a
-- counter rose by at most the work of their accepted lines
pub record GoesOn (how : Announcing) (plan : Plan) (full thrifty : Bool) (read : ℕ)
    (follower : Follower) (shelf shelf_now : ShelfTells) (out out_now : SinkTells)
    (steps steps_now : ℕ) : Type 0 where
  pub fed : List ℕ
  pub read_is : read ≡ length fed
  pub few : read ≤ trace_limit
  pub stands : StandsFor plan full fed follower
  pub behind : (bytes : List ℕ) → shelf.rest ≡ Some bytes
      → StandsBehind (written_by how plan full bytes) bytes fed shelf_now.rest out.taken out_now.taken
  pub causes : HasCauses {A = Unit {0}} (Ok tt) shelf shelf_now out out_now
  pub thrifty_is : follower.thrifty ≡ thrifty
  pub work : IsTrue thrifty → steps_now ≤ steps + work_of plan full (trace_so_far fed).events

-- a follower stands at the end of a trace that was read to its end
pub record StandsBehindAll (plan : Plan) (full : Bool) (bytes : List ℕ) (rest : Option (List ℕ))
    (follower : Follower) : Type 0 where
  pub stands : StandsAtEndOf plan full bytes follower
  pub left : EndsInPiece bytes rest
