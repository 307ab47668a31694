-- What a follower stands for, after more bytes and at the end of a trace.
use Rattle.std.proofs.Common.{◌≡◌, ◌<◌, ℕ, ◌+◌, ℤ, Bool, List, [], ◌∷◌, ◌++◌, length, map, fold, take, Option, Some, None, refl, sym, ◌∙◌, ap, arith}
use Rattle.std.specs.Prelude.{Ok, Err}
use Rattle.std.proofs.Math.Seq.{take-append-add}
use Rattle.std.proofs.lemmas.List.{append-nil}
use Rattle.std.proofs.lemmas.List.Sums.{fold-append}
use Rattle.nf_core.specs.Plan.{Plan}
use Rattle.nf_io.specs.Bytes.{Took}
use Rattle.nf_line.specs.Lines.{cut, cut_off, unended}
use Rattle.nf_line.specs.Cutting.{CanBeRead, has_feed}
use Rattle.nf_line.specs.Line.{line}
use Rattle.nf_line.specs.Readings.{trace_fault_of}
use Rattle.nf_line.specs.Standing.{Standing, read_on, standing}
use Rattle.nf_line.specs.Trace.{Event, Ending, Done, Trace, after_events, last_end, trace, trace_limit, trace_over, trace_so_far}
use Rattle.nf_model.specs.Changes.{Content, no_inputs}
use Rattle.nf_session.specs.Follow.{content_after, due, entered, follow_text, text_from}
use Rattle.nf_session.specs.Followers.{EndsBy, Feeds, Finishes, Follower, StandsAtEndOf, StandsFor, TookOn, Writes}
use Rattle.nf_session.specs.inner.Progress.{Enters, EntersLast, HasFed, Stops, last_read, more_read, standing_of}
use Rattle.nf_session.specs.declared.fault.FollowEnd.{FollowEnd}
use Rattle.nf_session.specs.declared.fault.FollowEnd.TheVariants as follow_end
use Rattle.nf_session.specs.declared.fault.Halt.{Halt}
use Rattle.nf_session.specs.declared.fault.Halt.TheVariants as halt
use Rattle.nf_session.specs.inner.Ends.{follow_end_of}
use Rattle.nf_session.specs.inner.Events.{StopsAt}
use Rattle.nf_session.proofs.EndedLemmas.{cut_count, ended_more, unended_fed, unended_more}
use Rattle.nf_session.proofs.FollowTextLemmas.{follow_text-is, text_from-append}
use Rattle.nf_session.proofs.StepLemmas.{cut_off_none, unended_none}

-- a trace goes on from where a reader stands
abbrev pub ReadsOn : Type 0
ReadsOn = (bytes more : List ℕ) → (trace_so_far bytes).ending ≡ Done
    → trace_so_far (bytes ++ more) ≡ after_events (trace_so_far bytes).events (read_on (standing bytes) Done (cut_off (unended bytes ++ more)))

abbrev pub ReadsToEnd : Type 0
ReadsToEnd = (bytes more : List ℕ) → length (bytes ++ more) < trace_limit → (trace_so_far bytes).ending ≡ Done
    → trace (bytes ++ more) ≡ after_events (trace_so_far bytes).events (read_on (standing bytes) Done (cut (unended bytes ++ more)))

-- some events before others that end as they do
joined : (events more : List Event) (ending : Ending) → after_events events (record { events = more; ending = ending }) ≡ record { events = events ++ more; ending = ending }
joined events more ending = refl

pub last_end-append : (last : Option ℤ) (events more : List Event) → last_end last (events ++ more) ≡ last_end (last_end last events) more
last_end-append last [] more = refl
last_end-append last (event ∷ events) more = last_end-append (Some event.stop) events more

-- nothing more is read of no bytes
none_read : (from : Standing) → CanBeRead from.rest → more_read from [] ≡ record { events = []; ending = Done }
unfolding trace_over
none_read from valid =
    ap (λ rest. read_on from Done (cut_off rest)) (append-nil from.rest) ∙ ap (λ pieces. read_on from Done pieces) (cut_off_none from.rest valid)

-- all of a piece was read
pub all_read : (from : Follower) (piece : List ℕ) (to : Follower) (e : Enters from piece to []) → CanBeRead from.kept → more_read (standing_of from) piece ≡ record { events = e.events; ending = Done }
all_read from piece to e valid =
    e.goes.reads ∙ ap (after_events e.events) (none_read (standing_of to) (e.goes.valid valid)) ∙ ap (λ events. record { events = events; ending = Done }) (append-nil e.events)

module _ (plan : Plan) (full : Bool) (bytes : List ℕ) (from : Follower) (s : StandsFor plan full bytes from) where
  abbrev before : List Event
  before = (trace_so_far bytes).events

  stands : standing bytes ≡ standing_of from
  stands = λ i. record { ended = sym s.counted i; rest = sym s.kept_is i; last = sym s.last_is i }

  pub valid : CanBeRead from.kept
  valid = record { within = s.within; no_feed = ap has_feed s.kept_is ∙ unended_fed bytes }

  pub so_far : ReadsOn → (piece : List ℕ) → trace_so_far (bytes ++ piece) ≡ after_events before (more_read (standing_of from) piece)
  so_far law piece = law bytes piece s.unrefused ∙ ap (λ (t : Standing). after_events before (more_read t piece)) stands

  pub whole : ReadsToEnd → length bytes < trace_limit → trace bytes ≡ after_events before (last_read (standing_of from))
  whole law short =
      let none : bytes ++ [] ≡ bytes = append-nil bytes in
      ap trace (sym none) ∙ law bytes [] (omega (arith, ap length none)) s.unrefused
      ∙ ap (λ rest. after_events before (read_on (standing bytes) Done (cut rest))) (append-nil (unended bytes))
      ∙ ap (λ (t : Standing). after_events before (last_read t)) stands

  -- the text with more events
  text_more : (events : List Event) → follow_text plan full (before ++ events) ≡ due plan full bytes ++ text_from from.content events
  unfolding content_after
  text_more events =
      follow_text-is plan full (before ++ events) ∙ text_from-append (no_inputs plan full) before events
      ∙ ap (λ text. text ++ text_from (fold entered (no_inputs plan full) before) events) (sym (follow_text-is plan full before))
      ∙ ap (λ content. due plan full bytes ++ text_from content events) (sym s.content_is)

  content_more : (events : List Event) (next : Content) → next ≡ fold entered from.content events → next ≡ content_after plan full (before ++ events)
  unfolding content_after
  content_more events next is = is ∙ ap (λ content. fold entered content events) s.content_is ∙ sym (fold-append entered (no_inputs plan full) before events)

  last_more : (events : List Event) (last : Option ℤ) → last ≡ last_end from.last events → last ≡ last_end None (before ++ events)
  last_more events last is = is ∙ ap (λ l. last_end l events) s.last_is ∙ sym (last_end-append None before events)

  -- what was taken of the text of a trace that goes on
  module _ (read all : Trace) (is : all ≡ after_events before read) (first now : Option (List ℕ)) where
    took : (events : List Event) → (all_events : List Event) → all_events ≡ before ++ events → Took first now (text_from from.content events) → TookOn first now (due plan full bytes) (follow_text plan full all_events)
    took events all_events are taken = record {
      more = text_from from.content events;
      longer = ap (follow_text plan full) are ∙ text_more events;
      taken = taken;
    }

    pub ends_stopped : (end : FollowEnd) → Stops end from.content read first now → EndsBy {A = Follower} all.ending (Err end)
    ends_stopped (follow_end.Trace fault) h = ap (λ (t : Trace). trace_fault_of t.ending) is ∙ h.0
    ends_stopped follow_end.WriteFault h = tt
    ends_stopped follow_end.NoMemory h = tt

    pub writes_stopped : (end : FollowEnd) → Stops end from.content read first now → Writes {A = Follower} plan full (due plan full bytes) all.events (Err end) first now
    writes_stopped (follow_end.Trace fault) h = took read.events all.events (ap (λ (t : Trace). t.events) is) h.1
    writes_stopped follow_end.WriteFault h = record {
      more = text_from from.content read.events;
      longer = ap (λ (t : Trace). follow_text plan full t.events) is ∙ text_more read.events;
      taken = h;
    }
    writes_stopped follow_end.NoMemory h = (
      length before + h.0,
      took (take h.0 read.events) (take (length before + h.0) all.events)
          (ap (λ (t : Trace). take (length before + h.0) t.events) is ∙ take-append-add before read.events h.0) h.1,
    )

  pub stands_on : ReadsOn → (piece : List ℕ) (to : Follower) → Enters from piece to [] → StandsFor plan full (bytes ++ piece) to
  stands_on law piece to e =
      let now : CanBeRead to.kept = e.goes.valid valid in
      let is : trace_so_far (bytes ++ piece) ≡ record { events = before ++ e.events; ending = Done } = so_far law piece ∙ ap (after_events before) (all_read from piece to e valid) in
      let events : (trace_so_far (bytes ++ piece)).events ≡ before ++ e.events = ap (λ (t : Trace). t.events) is in
      record {
        unrefused = ap (λ (t : Trace). t.ending) is;
        content_is = content_more e.events to.content e.content_is ∙ ap (content_after plan full) (sym events);
        counted = omega (arith, e.goes.counted, s.counted, ended_more bytes piece);
        last_is = last_more e.events to.last e.goes.last_is ∙ ap (last_end None) (sym events);
        kept_is =
            sym (unended_none to.kept now.no_feed) ∙ ap unended (sym (append-nil to.kept)) ∙ e.goes.kept_is
            ∙ ap (λ rest. unended (rest ++ piece)) s.kept_is ∙ unended_more bytes piece;
        within = now.within;
      }

  pub fed : ReadsOn → (piece : List ℕ) (to : Follower) (first now : Option (List ℕ)) → HasFed from piece to [] first now → Feeds plan full bytes piece (Ok to) first now
  fed law piece to first now h =
      let is : trace_so_far (bytes ++ piece) ≡ record { events = before ++ h.enters.events; ending = Done } = so_far law piece ∙ ap (after_events before) (all_read from piece to h.enters valid) in
      record {
        stands = stands_on law piece to h.enters;
        ends = ap (λ (t : Trace). t.ending) is;
        writes = took (more_read (standing_of from) piece) (trace_so_far (bytes ++ piece)) (so_far law piece) first now h.enters.events
            (trace_so_far (bytes ++ piece)).events (ap (λ (t : Trace). t.events) is) h.taken;
      }

  pub fed_stopped : ReadsOn → (piece : List ℕ) (end : FollowEnd) (first now : Option (List ℕ)) → Stops end from.content (more_read (standing_of from) piece) first now → Feeds plan full bytes piece (Err end) first now
  fed_stopped law piece end first now h = record {
    stands = tt;
    ends = ends_stopped (more_read (standing_of from) piece) (trace_so_far (bytes ++ piece)) (so_far law piece) first now end h;
    writes = writes_stopped (more_read (standing_of from) piece) (trace_so_far (bytes ++ piece)) (so_far law piece) first now end h;
  }

  pub stands_at_end : ReadsToEnd → length bytes < trace_limit → (to : Follower) → EntersLast from to → StandsAtEndOf plan full bytes to
  stands_at_end law short to e =
      let is : trace bytes ≡ record { events = before ++ e.events; ending = Done } = whole law short ∙ ap (after_events before) e.reads in
      let events : (trace bytes).events ≡ before ++ e.events = ap (λ (t : Trace). t.events) is in
      record {
        content_is = content_more e.events to.content e.content_is ∙ ap (content_after plan full) (sym events);
        counted = omega (arith, e.counted, s.counted, cut_count bytes, ap (λ rest. length (cut rest)) s.kept_is);
        last_is = last_more e.events to.last e.last_is ∙ ap (last_end None) (sym events);
        kept_is = e.kept_is;
      }

  pub ended : ReadsToEnd → length bytes < trace_limit → (to : Follower) → EntersLast from to → EndsBy {A = Follower} (trace bytes).ending (Ok to)
  ended law short to e = ap (λ (t : Trace). t.ending) (whole law short ∙ ap (after_events before) e.reads)

  pub finished : ReadsToEnd → length bytes < trace_limit → (to : Follower) (first now : Option (List ℕ)) (e : EntersLast from to) → Took first now (text_from from.content e.events) → Finishes plan full bytes (Ok to) first now
  finished law short to first now e taken = record {
    stands = stands_at_end law short to e;
    ends = ended law short to e;
    writes = took (last_read (standing_of from)) (trace bytes) (whole law short) first now e.events (trace bytes).events
        (ap (λ (t : Trace). t.events) (whole law short ∙ ap (after_events before) e.reads)) taken;
  }

  pub finish_stopped : ReadsToEnd → length bytes < trace_limit → (end : FollowEnd) (first now : Option (List ℕ)) → Stops end from.content (last_read (standing_of from)) first now → Finishes plan full bytes (Err end) first now
  finish_stopped law short end first now h = record {
    stands = tt;
    ends = ends_stopped (last_read (standing_of from)) (trace bytes) (whole law short) first now end h;
    writes = writes_stopped (last_read (standing_of from)) (trace bytes) (whole law short) first now end h;
  }

-- before the first byte
pub stands_first : (plan : Plan) (full : Bool) (content : Content) (thrifty : Bool) → content ≡ no_inputs plan full → StandsFor plan full [] (record { content = content; lines = 0; last = None; kept = []; thrifty = thrifty })
unfolding content_after trace_over
stands_first plan full content thrifty is =
    let nothing : CanBeRead [] = record { within = omega arith; no_feed = refl } in
    let none : trace_so_far [] ≡ record { events = []; ending = Done } = ap (λ pieces. trace_over 1 None Done (map line pieces)) (cut_off_none [] nothing) in
    record {
      unrefused = ap (λ (t : Trace). t.ending) none;
      content_is = is ∙ sym (ap (λ (t : Trace). content_after plan full t.events) none);
      counted = refl;
      last_is = sym (ap (λ (t : Trace). last_end None t.events) none);
      kept_is = refl;
      within = omega arith;
    }

-- where reading halts while nothing is announced
halted : (why : Halt) (content : Content) (read all : Trace) (before : List Event) → all ≡ after_events before read → StopsAt why content read → EndsBy {A = Follower} all.ending (Err (follow_end_of why))
halted (halt.Refused fault) content read all first is h = ap (λ (t : Trace). trace_fault_of t.ending) is ∙ (h None).0
halted halt.NoMemory content read all first is h = tt

pub end_halted : (plan : Plan) (full : Bool) (bytes : List ℕ) (from : Follower) → StandsFor plan full bytes from → ReadsToEnd → length bytes < trace_limit → (why : Halt) → StopsAt why from.content (last_read (standing_of from))
    → EndsBy {A = Follower} (trace bytes).ending (Err (follow_end_of why))
end_halted plan full bytes from s law short why h = halted why from.content (last_read (standing_of from)) (trace bytes) (trace_so_far bytes).events (whole plan full bytes from s law short) h

pub so_far_ends : (plan : Plan) (full : Bool) (bytes : List ℕ) (from : Follower) → StandsFor plan full bytes from → ReadsOn → (piece : List ℕ) (end : FollowEnd)
    → EndsBy {A = Follower} (more_read (standing_of from) piece).ending (Err end) → EndsBy {A = Follower} (trace_so_far (bytes ++ piece)).ending (Err end)
so_far_ends plan full bytes from s law piece (follow_end.Trace fault) h = ap (λ (t : Trace). trace_fault_of t.ending) (so_far plan full bytes from s law piece) ∙ h
so_far_ends plan full bytes from s law piece follow_end.WriteFault h = tt
so_far_ends plan full bytes from s law piece follow_end.NoMemory h = tt

-- all of a piece was taken, and nothing announced
pub so_far_done : (plan : Plan) (full : Bool) (bytes : List ℕ) (from : Follower) (s : StandsFor plan full bytes from) → ReadsOn → (piece : List ℕ) (to : Follower) → Enters from piece to [] → (trace_so_far (bytes ++ piece)).ending ≡ Done
so_far_done plan full bytes from s law piece to e = (stands_on plan full bytes from s law piece to e).unrefused
