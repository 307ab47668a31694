-- The event that the reader of a trace hands on, and what entering it makes of a content.
use Rattle.std.specs.Prelude.{◌≡◌, ◌<◌, ℕ, List, length, false, Option, Some, None}
use Rattle.nf_core.specs.Plan.{Plan, is_wide, keys_of}
use Rattle.nf_core.specs.declared.intervals.Change.{Change}
use Rattle.nf_core.specs.declared.intervals.Named.{Named}
use Rattle.nf_line.specs.Trace.{Trace}
use Rattle.nf_model.specs.Changes.{Content, change, with_input}
use Rattle.nf_session.specs.Followers.{Follower}
use Rattle.nf_session.specs.inner.Ends.{follow_end_of}
use Rattle.nf_session.specs.inner.Progress.{Stops}
use Rattle.nf_session.specs.declared.fault.Halt.{Halt}
use Rattle.nf_session.specs.declared.reader.Reader.{Reader}

-- a follower by its inferer's content and its reader; nothing that is said of reading depends on whether the inferer is thrifty
abbrev pub following : Content → Reader → Follower
following content reader = record {
  content = content;
  lines = reader.place.lines;
  last = reader.place.last;
  kept = reader.liner.kept;
  thrifty = false;
}

-- a content after an event that is to be entered, where there is one
abbrev pub after_event : Content → Option Named → Content
after_event content (Some event) = with_input event.name event.interval content
after_event content None = content

-- the change that entering it makes
abbrev pub change_made : Content → Option Named → Option Change
change_made content (Some event) = Some (change content (with_input event.name event.interval content))
change_made content None = None

-- an event that can be entered under a plan: the plan has its name, which isn't wide, and its row has the name's keys
pub record FitsPlan (plan : Plan) (event : Named) : Type 0 where
  pub within : event.name < length plan.names
  pub narrow : is_wide plan event.name ≡ false
  pub row : length event.interval.row ≡ length (keys_of plan event.name)

-- reading ends so, while nothing is written
abbrev pub StopsAt : Halt → Content → Trace → Type 0
StopsAt halt content trace = (told : Option (List ℕ))
    → Stops (follow_end_of halt) content trace told told
