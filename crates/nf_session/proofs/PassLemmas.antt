-- One line that a follower takes.
use Rattle.std.proofs.Common.{◌≡◌, ◌≢◌, ◌≤◌, ◌<◌, ℕ, suc, ◌+◌, ℤ, Bool, true, false, cond, not, List, [], ◌∷◌, ◌++◌, length, map, drop, Option, Some, None, refl, sym, ◌∙◌, ap, subst, arith, length-append}
use Rattle.std.specs.Prelude.{All, nat_lt, ◌||◌, ◌↔◌, IsTrue, position, bytes_eq}
use Rattle.std.proofs.lemmas.Bool.{or_parts, false≢true, ltb-true, ltb-false, cond-true, cond-false}
use Rattle.nf_core.specs.Plan.{Plan}
use Rattle.nf_core.specs.declared.intervals.Change.{Change}
use Rattle.nf_line.specs.Lines.{cut, is_empty, line_limit, unended, without_return}
use Rattle.nf_line.specs.Cutting as cutting
use Rattle.nf_line.specs.Cutting.{IsContent, before_feed, content_after, has_feed, is_long, line_of, used_of}
use Rattle.nf_line.specs.Line.{Line, line, line_within}
use Rattle.nf_line.specs.Trace.{Event, Done, Trace, last_end, trace_from, trace_over}
use Rattle.nf_line.specs.declared.fault.TraceFault.TheVariants as trace_fault
use Rattle.nf_model.specs.Changes.{Content}
use Rattle.nf_session.specs.Follow.{text_from}
use Rattle.nf_session.specs.Followers.{Follower, NeedsNoMemory}
use Rattle.nf_session.specs.inner.Progress.{Handles, Halts, HaltsAt, IsForeign, IsRefused, LeadsOn, Takes, more_read, standing_of}
use Rattle.nf_session.specs.declared.fault.Halt.{Halt}
use Rattle.nf_session.specs.declared.fault.Halt.TheVariants as halt
use Rattle.nf_session.specs.declared.reading.Place.{Place}
use Rattle.nf_session.proofs.StepLemmas.{behind_feed, cut_line, feed_goes, feed_halts, long_halts, none_before, none_goes, piece_parts, short_line, unended_line, unended_none, used_at_feed}

-- a follower by what it consists of
abbrev pub follower_at : Content → ℕ → Option ℤ → List ℕ → Follower
follower_at content lines last kept = record { content = content; lines = lines; last = last; kept = kept; thrifty = false }

none_by : (b : Bool) (text : List ℕ) → cond b (Some text) None ≡ None → b ≡ false
none_by true text e = absurd cc
none_by false text e = refl

some_by : (b : Bool) (text handed : List ℕ) → cond b (Some text) None ≡ Some handed → (b ≡ true) × (text ≡ handed)
some_by true text handed e = (refl, cc)
some_by false text handed e = absurd cc

-- all of some items behind others
all_behind : {X : Type 0} (P : X → Type 0) (xs ys : List X) → All P (xs ++ ys) → All P ys
all_behind P [] ys h = h
all_behind P (x ∷ xs) ys h = all_behind P xs ys (λ k d l. h (suc k) d (omega arith))

module _ (content : Content) (place : Place) (liner : cutting.Content) (piece : List ℕ) (valid : IsContent liner) where
  abbrev from : Follower
  from = follower_at content place.lines place.last liner.kept

  abbrev text : List ℕ
  text = liner.kept ++ before_feed piece

  within : is_long liner piece ≡ false → length text ≤ line_limit
  within short =
      let sides = or_parts liner.was_long (nat_lt line_limit (length liner.kept + length (before_feed piece))) short in
      omega (arith, ltb-false line_limit (length liner.kept + length (before_feed piece)) sides.1, length-append liner.kept (before_feed piece))

  beyond : liner.was_long ≡ false → is_long liner piece ≡ true → line_limit < length text
  beyond open_yet long =
      let e : nat_lt line_limit (length liner.kept + length (before_feed piece)) ≡ true = sym (ap (λ b. b || nat_lt line_limit (length liner.kept + length (before_feed piece))) open_yet) ∙ long in
      omega (arith, ltb-true line_limit (length liner.kept + length (before_feed piece)) e, length-append liner.kept (before_feed piece))

  no_feed : line_of liner piece ≡ None → has_feed piece ≡ false
  no_feed none = none_by (has_feed piece) (without_return text) none

  -- no line ends in the piece
  pub none_takes : (left : cutting.Content) → is_long liner piece ≡ false → line_of liner piece ≡ None → left ≡ content_after liner piece
      → Takes from piece (follower_at content place.lines place.last left.kept) (drop (used_of piece) piece) None
  unfolding text_from
  none_takes left short none is =
      let other = no_feed none in
      let kept : left.kept ≡ liner.kept ++ piece = ap (λ (c : cutting.Content). c.kept) is ∙ cond-false (has_feed piece) [] (liner.kept ++ piece) other in
      record {
        enters = record {
          events = [];
          goes = none_goes (standing_of from) piece valid.no_feed (standing_of (follower_at content place.lines place.last left.kept)) other (within short)
              (λ i. record { ended = place.lines; rest = kept i; last = place.last });
          content_is = refl;
        };
        text_is = refl;
        worth = omega arith;
      }

  pub too_long : liner.was_long ≡ false → is_long liner piece ≡ true → Halts (halt.Refused (trace_fault.Long (place.lines + 1))) (more_read (standing_of from) piece)
  too_long open_yet long = long_halts (standing_of from) piece valid.no_feed (beyond open_yet long)

  -- a line that the piece ends
  module _ (handed : List ℕ) (short : is_long liner piece ≡ false) (some : line_of liner piece ≡ Some handed) where
    feed : has_feed piece ≡ true
    feed = (some_by (has_feed piece) (without_return text) handed some).0

    handed_is : handed ≡ without_return text
    handed_is = sym (some_by (has_feed piece) (without_return text) handed some).1

    pub line_takes : (left : cutting.Content) (next : Place) (now : Content) (made : Option Change) → left ≡ content_after liner piece → Handles (line_within handed) place content next now made
        → Takes from piece (follower_at now next.lines next.last left.kept) (drop (used_of piece) piece) made
    line_takes left next now made is h =
        let kept : left.kept ≡ [] = ap (λ (c : cutting.Content). c.kept) is ∙ cond-true (has_feed piece) [] (liner.kept ++ piece) feed in
        record {
          enters = record {
            events = h.events;
            goes = feed_goes (standing_of from) piece valid.no_feed h.events (standing_of (follower_at now next.lines next.last left.kept)) feed (within short)
                (subst (λ l. LeadsOn (place.lines + 1) place.last (line_within l) h.events) handed_is h.leads)
                (λ i. record { ended = h.counted i; rest = kept i; last = h.last_is i });
            content_is = h.content_is;
          };
          text_is = h.text_is;
          worth = h.worth;
        }

    pub line_halts : (end : Halt) → HaltsAt (place.lines + 1) place.last (line_within handed) end → Halts end (more_read (standing_of from) piece)
    line_halts (halt.Refused fault) h =
        feed_halts (standing_of from) piece valid.no_feed fault feed (within short) (subst (λ l. IsRefused (place.lines + 1) place.last (line_within l) fault) handed_is h)
    line_halts halt.NoMemory h = tt

    -- the lines behind it
    abbrev pub lines_behind : List Line
    lines_behind = map line (cut (behind_feed piece))

    pub foreign_events : NeedsNoMemory from piece → All (IsForeign content) (trace_over (place.lines + 1) place.last Done (line_within handed ∷ lines_behind)).events
    foreign_events quiet =
        let pieces : cut piece ≡ before_feed piece ∷ cut (behind_feed piece) =
        ap cut (piece_parts piece feed) ∙ cut_line (λ field. not (is_empty field)) (before_feed piece) (behind_feed piece) (none_before piece) in
        let whole : before_feed piece ≡ text = ap (λ kept. kept ++ before_feed piece) (sym quiet.none_kept) in
        let first : line (before_feed piece) ≡ line_within handed = ap line whole ∙ short_line text (within short) ∙ ap line_within (sym handed_is) in
        let lines : map line (cut piece) ≡ line_within handed ∷ lines_behind = ap (map line) pieces ∙ ap (λ l. l ∷ lines_behind) first in
        subst (λ ls. All (IsForeign content) (trace_over (place.lines + 1) place.last Done ls).events) lines quiet.others

    pub still_quiet : (left : cutting.Content) (next : Place) (now : Content) (made : Option Change) → left ≡ content_after liner piece → Handles (line_within handed) place content next now made → now.plan ≡ content.plan
        → NeedsNoMemory from piece → NeedsNoMemory (follower_at now next.lines next.last left.kept) (drop (used_of piece) piece)
    still_quiet left next now made is h same_plan quiet =
        let behind = behind_feed piece in
        let rest : behind ≡ drop (used_of piece) piece = ap (λ n. drop n piece) (sym (used_at_feed piece feed)) in
        let later : Trace = trace_over (place.lines + 1 + 1) (last_end place.last h.events) Done lines_behind in
        let others : All (IsForeign content) (h.events ++ later.events) =
        subst (λ (t : Trace). All (IsForeign content) t.events) (h.leads Done lines_behind) (foreign_events quiet) in
        let here : All (IsForeign content) later.events = all_behind (IsForeign content) h.events later.events others in
        let names : Plan → Type 0 = λ p. All (λ (event : Event). position (bytes_eq event.name) p.names ≡ None) later.events in
        let moved : names now.plan = subst names (sym same_plan) here in
        let counted : place.lines + 1 + 1 ≡ next.lines + 1 = ap (λ n. n + 1) (sym h.counted) in
        record {
          none_kept = ap (λ (c : cutting.Content). c.kept) is ∙ cond-true (has_feed piece) [] (liner.kept ++ piece) feed;
          ends = ap unended (sym rest) ∙ sym (unended_line (before_feed piece) behind (none_before piece)) ∙ ap unended (sym (piece_parts piece feed)) ∙ quiet.ends;
          others = subst (λ bytes. All (IsForeign now) (trace_from (next.lines + 1) next.last Done (cut bytes)).events) rest
              (subst (λ n. All (IsForeign now) (trace_over n next.last Done lines_behind).events) counted
              (subst (λ (l : Option ℤ). All (IsForeign now) (trace_over (place.lines + 1 + 1) l Done lines_behind).events) (sym h.last_is) moved));
        }

-- a piece that wants no memory has an LF, unless it is empty
pub quiet_feed : (from : Follower) (piece : List ℕ) → NeedsNoMemory from piece → piece ≢ [] → has_feed piece ≡ true
quiet_feed from piece quiet some = by (has_feed piece) refl
  where
    by : (b : Bool) → has_feed piece ≡ b → has_feed piece ≡ true
    by true e = e
    by false e = absurd (some (sym (unended_none piece e) ∙ quiet.ends))

-- and so it ends a line
pub quiet_line : (from : Follower) (piece : List ℕ) → NeedsNoMemory from piece → piece ≢ [] → (liner : cutting.Content) → line_of liner piece ≡ None → ⊥
quiet_line from piece quiet some liner none = false≢true (sym (none_by (has_feed piece) (without_return (liner.kept ++ before_feed piece)) none) ∙ quiet_feed from piece quiet some)

-- a test that isn't met is false
pub not_met : {A : Type 0} (b : Bool) → (A ↔ IsTrue b) → (A → ⊥) → b ≡ false
not_met true iff never = absurd (never (iff.1 refl))
not_met false iff never = refl

pub is_met : {A : Type 0} (b : Bool) → (A ↔ IsTrue b) → A → b ≡ true
is_met b iff a = iff.0 a
