-- A piece that a follower takes line by line.
use Rattle.std.proofs.Common.{◌≡◌, ◌≢◌, ◌<◌, ℕ, ◌+◌, ◌-◌, List, [], ◌∷◌, ◌++◌, length, length-drop, fold, take, drop, Option, refl, sym, ◌∙◌, ap, subst, append_assoc, arith}
use Rattle.std.specs.Prelude.{None, Err}
use Rattle.std.proofs.Math.Seq.{take-append-add, take-length}
use Rattle.std.proofs.lemmas.Bool.{cond_both}
use Rattle.std.proofs.lemmas.List.Sums.{fold-append}
use Rattle.nf_core.specs.Plan.{Plan}
use Rattle.nf_core.specs.declared.intervals.Change.{Change}
use Rattle.nf_io.specs.Bytes.{Took, TookPart}
use Rattle.nf_io.proofs.Public.{Took-none, Took-join, TookPart-after, TookPart-more}
use Rattle.nf_line.specs.Cutting.{before_feed, has_feed, used_of}
use Rattle.nf_line.specs.Readings.{trace_fault_of}
use Rattle.nf_line.specs.Standing.{Standing}
use Rattle.nf_line.specs.Trace.{Event, Trace, after_events, last_end}
use Rattle.nf_model.specs.Changes.{Content}
use Rattle.nf_session.specs.Follow.{entered, text_from}
use Rattle.nf_session.specs.Followers.{EndsBy, Follower}
use Rattle.nf_session.specs.inner.Progress.{Enters, Failed, GoesOn, Halts, HasFed, Stops, Takes, more_read, standing_of, text_of_change}
use Rattle.nf_session.specs.declared.fault.FollowEnd.{FollowEnd}
use Rattle.nf_session.specs.declared.fault.FollowEnd.TheVariants as follow_end
use Rattle.nf_session.specs.declared.fault.Halt.{Halt}
use Rattle.nf_session.specs.declared.fault.Halt.TheVariants as halt
use Rattle.nf_session.specs.inner.Ends.{follow_end_of}
use Rattle.nf_session.proofs.FollowTextLemmas.{text_from-append}
use Rattle.nf_session.proofs.StandingLemmas.{last_end-append}
use Rattle.nf_session.proofs.WorkLemmas.{worth_then}

-- events before others, and then a trace
after_both : (events more : List Event) (trace : Trace) → after_events events (after_events more trace) ≡ after_events (events ++ more) trace
after_both events more trace = ap (λ all. record { events = all; ending = trace.ending }) (sym (append_assoc events more trace.events))

goes_then : (from : Standing) (piece : List ℕ) (events : List Event) (to : Standing) (rest : List ℕ) (more : List Event) (next : Standing) (left : List ℕ)
    → GoesOn from piece events to rest → GoesOn to rest more next left → GoesOn from piece (events ++ more) next left
goes_then from piece events to rest more next left a b = record {
  reads = a.reads ∙ ap (after_events events) b.reads ∙ after_both events more (more_read next left);
  counted = b.counted ∙ a.counted;
  last_is = b.last_is ∙ ap (λ last. last_end last more) a.last_is ∙ sym (last_end-append from.last events more);
  kept_is = b.kept_is ∙ a.kept_is;
  valid = λ v. b.valid (a.valid v);
}

-- nothing was taken yet
pub enters_none : (from : Follower) (piece : List ℕ) → Enters from piece from piece
enters_none from piece = record {
  events = [];
  goes = record { reads = refl; counted = refl; last_is = refl; kept_is = refl; valid = λ v. v };
  content_is = refl;
}

pub enters_then : (from : Follower) (piece : List ℕ) (to : Follower) (rest : List ℕ) (next : Follower) (left : List ℕ) → Enters from piece to rest → Enters to rest next left → Enters from piece next left
enters_then from piece to rest next left a b = record {
  events = a.events ++ b.events;
  goes = goes_then (standing_of from) piece a.events (standing_of to) rest b.events (standing_of next) left a.goes b.goes;
  content_is = b.content_is ∙ ap (λ content. fold entered content b.events) a.content_is ∙ sym (fold-append entered from.content a.events b.events);
}

pub fed_none : (from : Follower) (piece : List ℕ) (told : Option (List ℕ)) → HasFed from piece from piece told told
unfolding text_from enters_none
fed_none from piece told = record { enters = enters_none from piece; taken = Took-none told }

-- the text of what was read so far and of more
text_then : (from : Follower) (piece : List ℕ) (to : Follower) (rest : List ℕ) (a : Enters from piece to rest) (more : List Event) → text_from from.content (a.events ++ more) ≡ text_from from.content a.events ++ text_from to.content more
text_then from piece to rest a more = text_from-append from.content a.events more ∙ ap (λ content. text_from from.content a.events ++ text_from content more) (sym a.content_is)

-- nothing was taken yet, or lines of which nothing is entered
pub takes_none : (from : Follower) (piece : List ℕ) → Takes from piece from piece None
unfolding text_from enters_none
takes_none from piece = record { enters = enters_none from piece; text_is = refl; worth = omega arith }

pub takes_then : (from : Follower) (piece : List ℕ) (to : Follower) (rest : List ℕ) (next : Follower) (left : List ℕ) (made : Option Change) → Takes from piece to rest None → to.content ≡ from.content → Takes to rest next left made → Takes from piece next left made
unfolding enters_then
takes_then from piece to rest next left made a same b = record {
  enters = enters_then from piece to rest next left a.enters b.enters;
  text_is =
      text_then from piece to rest a.enters b.enters.events
      ∙ ap (λ text. text ++ text_from to.content b.enters.events) a.text_is
      ∙ b.text_is ∙ ap (λ (content : Content). text_of_change content.plan made) same;
  worth = worth_then from.content to.content next.content a.enters.events b.enters.events made a.enters.content_is same b.worth;
}

module _ (from : Follower) (piece : List ℕ) (to : Follower) (rest : List ℕ) (first middle now : Option (List ℕ)) (a : HasFed from piece to rest first middle) where
  took : (more : List Event) → Took middle now (text_from to.content more) → Took first now (text_from from.content (a.enters.events ++ more))
  took more taken =
      subst (Took first now) (sym (text_then from piece to rest a.enters more))
      (Took-join first middle now (text_from from.content a.enters.events) (text_from to.content more) a.taken taken)

  pub fed_then : (next : Follower) (left : List ℕ) → HasFed to rest next left middle now → HasFed from piece next left first now
  unfolding enters_then
  fed_then next left b = record {
    enters = enters_then from piece to rest next left a.enters b.enters;
    taken = took b.enters.events b.taken;
  }

  -- it stopped at a later line
  stops_after : (end : FollowEnd) (t : Trace) → Stops end to.content t middle now → Stops end from.content (after_events a.enters.events t) first now
  stops_after (follow_end.Trace fault) t h = (h.0, took t.events h.1)
  stops_after follow_end.WriteFault t h =
      subst (TookPart first now) (sym (text_then from piece to rest a.enters t.events))
      (TookPart-after first middle now (text_from from.content a.enters.events) (text_from to.content t.events) a.taken h)
  stops_after follow_end.NoMemory t h = (
    length a.enters.events + h.0,
    subst (λ events. Took first now (text_from from.content events)) (sym (take-append-add a.enters.events t.events h.0)) (took (take h.0 t.events) h.1),
  )

  pub stops_then : (end : FollowEnd) → Stops end to.content (more_read (standing_of to) rest) middle now → Stops end from.content (more_read (standing_of from) piece) first now
  stops_then end h = subst (λ (t : Trace). Stops end from.content t first now) (sym a.enters.goes.reads) (stops_after end (more_read (standing_of to) rest) h)

-- a follower that announces nothing stopped at a later line
pub ends_then : (from : Follower) (piece : List ℕ) (to : Follower) (rest : List ℕ) (end : FollowEnd) → Enters from piece to rest
    → EndsBy {A = Follower} (more_read (standing_of to) rest).ending (Err end) → EndsBy {A = Follower} (more_read (standing_of from) piece).ending (Err end)
ends_then from piece to rest (follow_end.Trace fault) a h = ap (λ (t : Trace). trace_fault_of t.ending) a.goes.reads ∙ h
ends_then from piece to rest follow_end.WriteFault a h = tt
ends_then from piece to rest follow_end.NoMemory a h = tt

-- a line on which reading halts
pub halt_stops : (why : Halt) (content : Content) (t : Trace) (told : Option (List ℕ)) → Halts why t → Stops (follow_end_of why) content t told told
unfolding text_from
halt_stops (halt.Refused fault) content t told h = (h.1, subst (λ events. Took told told (text_from content events)) (sym h.0) (Took-none told))
halt_stops halt.NoMemory content t told h = (0, Took-none told)

-- a line whose announcements were written, or weren't
module _ (plan : Plan) (from : Follower) (piece : List ℕ) (to : Follower) (rest : List ℕ) (made : Option Change) (first now : Option (List ℕ)) (t : Takes from piece to rest made) (same_plan : plan ≡ from.content.plan) where
  text : text_of_change plan made ≡ text_from from.content t.enters.events
  text = ap (λ p. text_of_change p made) same_plan ∙ sym t.text_is

  pub taken_fed : Took first now (text_of_change plan made) → HasFed from piece to rest first now
  taken_fed taken = record { enters = t.enters; taken = subst (Took first now) text taken }

  pub failed_stops : (end : FollowEnd) → Failed end (text_of_change plan made) first now → Stops end from.content (more_read (standing_of from) piece) first now
  unfolding text_from
  failed_stops follow_end.WriteFault failed =
      let more = (more_read (standing_of to) rest).events in
      subst (TookPart first now) (sym (text_then from piece to rest t.enters more) ∙ ap (λ (trace : Trace). text_from from.content trace.events) (sym t.enters.goes.reads))
      (TookPart-more first now (text_from from.content t.enters.events) (text_from to.content more) (subst (TookPart first now) text failed))
  failed_stops follow_end.NoMemory failed = (0, failed)
  failed_stops (follow_end.Trace fault) failed = absurd failed

-- some bytes of a piece that isn't empty are used
pub some_used : (piece : List ℕ) → piece ≢ [] → 0 < used_of piece
some_used [] some = absurd (some refl)
some_used (byte ∷ piece) some = cond_both (has_feed (byte ∷ piece)) (length (before_feed (byte ∷ piece)) + 1) (length (byte ∷ piece)) (λ n. 0 < n) (λ e. omega arith) (λ e. omega arith)

-- what is left of a list behind its first items
pub left_over : (n : ℕ) (bytes : List ℕ) → take (length bytes - n) (drop n bytes) ≡ drop n bytes
left_over n bytes = ap (λ k. take k (drop n bytes)) (sym (length-drop n bytes)) ∙ take-length (drop n bytes)
