-- What handling a part of a trace cost, from what entering its lines did.
use Rattle.std.proofs.Common.{◌≡◌, ◌≤◌, ◌<◌, ℕ, ◌+◌, Bool, List, [], ◌++◌, length, Option, sym, ◌∙◌, ap, arith}
use Rattle.nf_core.specs.Plan.{Plan}
use Rattle.nf_core.specs.declared.intervals.Change.{Change}
use Rattle.nf_line.specs.Trace.{Event, Done, Trace, trace, trace_limit, trace_so_far}
use Rattle.nf_model.specs.Changes.{no_inputs}
use Rattle.nf_session.specs.Costs.{KeepsToWork, work_from, work_of}
use Rattle.nf_session.specs.Follow.{content_after}
use Rattle.nf_session.specs.Followers.{Follower, StandsFor}
use Rattle.nf_session.specs.inner.Progress.{Takes, TakesLast, last_read, more_read, standing_of, work_made}
use Rattle.nf_session.specs.inner.Spending.{last_work, work_left}
use Rattle.nf_session.proofs.StandingLemmas.{ReadsOn, ReadsToEnd, so_far, whole}
use Rattle.nf_session.proofs.WorkLemmas.{work_from-append}

-- the counter rose by at most the work of what was made of a part of a piece
pub spent_taken : (from : Follower) (piece : List ℕ) (to : Follower) (rest : List ℕ) (made : Option Change) → Takes from piece to rest made → (before now : ℕ)
    → now ≤ before + work_made made from.content to.content → now + work_left to rest ≤ before + work_left from piece
spent_taken from piece to rest made t before now spent =
    let more : List Event = (more_read (standing_of to) rest).events in
    let read : work_left from piece ≡ work_from from.content (t.enters.events ++ more) = ap (λ (all : Trace). work_from from.content all.events) t.enters.goes.reads in
    let left : work_left to rest ≡ work_from _ more = ap (λ content. work_from content more) t.enters.content_is in
    omega (arith, spent, t.worth, read, left, work_from-append from.content t.enters.events more)

-- and of the last line
pub spent_last : (from to : Follower) (made : Option Change) → TakesLast from to made → (before now : ℕ)
    → now ≤ before + work_made made from.content to.content → now ≤ before + last_work from
spent_last from to made t before now spent =
    let read : last_work from ≡ work_from from.content t.enters.events = ap (λ (all : Trace). work_from from.content all.events) t.enters.reads in
    omega (arith, spent, t.worth, read)

module _ (plan : Plan) (full : Bool) (bytes : List ℕ) (from : Follower) (s : StandsFor plan full bytes from) where
  -- the work with more events
  work_more : (events : List Event) → work_of plan full ((trace_so_far bytes).events ++ events) ≡ work_of plan full (trace_so_far bytes).events + work_from from.content events
  unfolding content_after
  work_more events =
      work_from-append (no_inputs plan full) (trace_so_far bytes).events events
      ∙ ap (λ content. work_of plan full (trace_so_far bytes).events + work_from content events) (sym s.content_is)

  -- a piece was handled within its work
  pub fed_within : ReadsOn → (piece : List ℕ) (before now : ℕ) → now ≤ before + work_left from piece
      → KeepsToWork plan full (trace_so_far bytes).events (trace_so_far (bytes ++ piece)).events before now
  fed_within law piece before now spent =
      let all = ap (λ (t : Trace). work_of plan full t.events) (so_far plan full bytes from s law piece) ∙ work_more (more_read (standing_of from) piece).events in
      omega (arith, spent, all)

  -- and the last line
  pub finished_within : ReadsToEnd → length bytes < trace_limit → (before now : ℕ) → now ≤ before + last_work from
      → KeepsToWork plan full (trace_so_far bytes).events (trace bytes).events before now
  finished_within law short before now spent =
      let all = ap (λ (t : Trace). work_of plan full t.events) (whole plan full bytes from s law short) ∙ work_more (last_read (standing_of from)).events in
      omega (arith, spent, all)
