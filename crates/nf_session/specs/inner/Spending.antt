-- The work of what a follower has still to handle.
use Rattle.std.specs.Prelude.{ℕ, List, Option, Some, None}
use Rattle.nf_core.specs.declared.intervals.Change.{Change}
use Rattle.nf_core.specs.declared.intervals.Named.{Named}
use Rattle.nf_model.specs.Changes.{Content, with_input}
use Rattle.nf_model.specs.Work.{work_between}
use Rattle.nf_session.specs.Costs.{work_from}
use Rattle.nf_session.specs.Followers.{Follower}
use Rattle.nf_session.specs.inner.Progress.{last_read, more_read, standing_of}

-- the work of the events that are read of a piece from where a follower stands
abbrev pub work_left : Follower → List ℕ → ℕ
work_left follower piece = work_from follower.content (more_read (standing_of follower) piece).events

-- the work of what it keeps, as the last line of its trace
abbrev pub last_work : Follower → ℕ
last_work follower = work_from follower.content (last_read (standing_of follower)).events

-- the work of an event that is to be entered, where there is one
abbrev pub event_work : Content → Option Named → ℕ
event_work content (Some event) = work_between content (with_input event.name event.interval content)
event_work content None = 0
