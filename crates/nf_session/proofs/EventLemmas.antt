-- An event that the reader of a trace hands on, and where reading ends.
use Rattle.std.proofs.Common.{[], Bool, ◌≢◌, ◌<◌, false, is_some, length-drop, arith, ◌≡◌, ℕ, ◌+◌, ◌-◌, List, length, take, drop, Option, Some, None, refl, sym, ◌∙◌, ap, subst}
use Rattle.std.specs.Prelude.{Err}
use Rattle.std.proofs.lemmas.List.{drop-drop}
use Rattle.nf_core.specs.declared.intervals.Change.{Change}
use Rattle.nf_core.specs.declared.intervals.Named.{Named}
use Rattle.nf_io.proofs.Public.{Took-none}
use Rattle.nf_line.specs.Cutting.{used_of}
use Rattle.nf_line.specs.Trace.{Trace}
use Rattle.nf_model.specs.Changes.{Content}
use Rattle.nf_session.specs.Followers.{EndsBy, Follower, NeedsNoMemory}
use Rattle.nf_session.specs.inner.Ends.{follow_end_of}
use Rattle.nf_session.specs.inner.Events.{after_event, change_made, following, StopsAt}
use Rattle.nf_session.specs.inner.Progress.{Halts, LeavesChange, Takes, TakesLast, more_read, standing_of}
use Rattle.nf_session.specs.declared.fault.Halt.{Halt}
use Rattle.nf_session.specs.declared.fault.Halt.TheVariants as halt
use Rattle.nf_session.specs.declared.reader.Reader.{Reader}
use Rattle.nf_session.proofs.FeedLemmas.{halt_stops, left_over, stops_then, taken_fed}

-- the change of an event is that between the contents, and the plan stays
pub event_leaves : (content : Content) (event : Option Named) → LeavesChange content (after_event content event) (change_made content event)
event_leaves content None = refl
event_leaves content (Some event) = refl

pub event_plan : (content : Content) (event : Option Named) → (after_event content event).plan ≡ content.plan
event_plan content None = refl
event_plan content (Some event) = refl

-- an event was entered: what changed is that between the contents
pub entered_leaves : (content now : Content) (event : Option Named) (made : Option Change) → now ≡ after_event content event → made ≡ change_made content event → LeavesChange content now made
entered_leaves content now event made entered is =
    subst (λ (after : Content). LeavesChange content after made) (sym entered)
    (subst (λ (change : Option Change). LeavesChange content (after_event content event) change) (sym is) (event_leaves content event))

-- where a line halts, reading stops
pub stops_here : (why : Halt) (content : Content) (trace : Trace) → Halts why trace → StopsAt why content trace
stops_here why content trace h = λ told. halt_stops why content trace told h

-- after lines of which nothing is entered
module _ (from : Follower) (piece : List ℕ) (to : Follower) (rest : List ℕ) (a : Takes from piece to rest None) where
  pub stops_later : (why : Halt) → StopsAt why to.content (more_read (standing_of to) rest) → StopsAt why from.content (more_read (standing_of from) piece)
  stops_later why h = λ told.
      stops_then from piece to rest told told told (taken_fed from.content.plan from piece to rest None told told a refl (Took-none told)) (follow_end_of why) (h told)

-- where it stops a call ends
pub stops_ends : (why : Halt) (content : Content) (trace : Trace) → StopsAt why content trace → EndsBy {A = Follower} trace.ending (Err (follow_end_of why))
stops_ends (halt.Refused fault) content trace h = (h None).0
stops_ends halt.NoMemory content trace h = tt

-- what is left of a piece behind its first bytes, as a slice
abbrev pub behind : List ℕ → ℕ → List ℕ
behind piece used = take (length piece - used) (drop used piece)

pub some_left : (piece : List ℕ) (used : ℕ) → used < length piece → behind piece used ≢ []
some_left piece used within = λ none. omega (arith, within, ap length none, ap length (left_over used piece), length-drop used piece)

-- after more bytes, whatever is said of the bytes before and after them
pub moved : (P : List ℕ → List ℕ → Type 0) (piece : List ℕ) (used more : ℕ) → more ≡ used_of (behind piece used)
    → P (behind piece used) (drop (used_of (behind piece used)) (behind piece used)) → P (drop used piece) (drop (used + more) piece)
moved P piece used more is h =
    let rest = behind piece used in
    let left : drop (used_of rest) rest ≡ drop (used + more) piece = ap (λ n. drop n rest) (sym is) ∙ ap (drop more) (left_over used piece) ∙ drop-drop more used piece in
    subst (λ first. P first (drop (used + more) piece)) (left_over used piece) (subst (λ last. P rest last) left h)

-- an option that isn't there
pub absent : (o : Option Named) → is_some o ≡ false → o ≡ None
absent None none = refl
absent (Some event) none = absurd cc

-- whether an inferer is thrifty changes nothing of what is read and entered
pub quiet_read : (thrifty : Bool) (content : Content) (reader : Reader) (piece : List ℕ) → NeedsNoMemory (record (following content reader) { thrifty = thrifty }) piece → NeedsNoMemory (following content reader) piece
quiet_read thrifty content reader piece quiet = record { none_kept = quiet.none_kept; ends = quiet.ends; others = quiet.others }

pub quiet_follower : (thrifty : Bool) (content : Content) (reader : Reader) (piece : List ℕ) → NeedsNoMemory (following content reader) piece → NeedsNoMemory (record (following content reader) { thrifty = thrifty }) piece
quiet_follower thrifty content reader piece quiet = record { none_kept = quiet.none_kept; ends = quiet.ends; others = quiet.others }

pub follower_takes : (thrifty still : Bool) (content now : Content) (reader next : Reader) (piece rest : List ℕ) (made : Option Change) → Takes (following content reader) piece (following now next) rest made
    → Takes (record (following content reader) { thrifty = thrifty }) piece (record (following now next) { thrifty = still }) rest made
follower_takes thrifty still content now reader next piece rest made t =
    record { enters = record { events = t.enters.events; goes = t.enters.goes; content_is = t.enters.content_is }; text_is = t.text_is; worth = t.worth }

pub follower_takes_last : (thrifty still : Bool) (content now : Content) (reader next : Reader) (made : Option Change) → TakesLast (following content reader) (following now next) made
    → TakesLast (record (following content reader) { thrifty = thrifty }) (record (following now next) { thrifty = still }) made
follower_takes_last thrifty still content now reader next made t = record {
  enters = record {
    events = t.enters.events;
    reads = t.enters.reads;
    counted = t.enters.counted;
    last_is = t.enters.last_is;
    kept_is = t.enters.kept_is;
    content_is = t.enters.content_is;
  };
  text_is = t.text_is;
  worth = t.worth;
}
