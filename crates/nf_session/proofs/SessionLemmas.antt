-- How a session over a trace ends, from where it stood before its last piece.
use Rattle.std.proofs.Common.{◌≡◌, ◌≢◌, ℕ, ◌+◌, ◌<◌, ◌≤◌, Bool, IsTrue, List, [], ◌++◌, length, take, drop, option_map, min, refl, sym, ap, ◌∙◌, subst, arith, Option, Some, IfSome, Ok, Err, ◌⊎◌, inl, inr, length-append}
use Rattle.std.proofs.lemmas.List.{take-append-drop, drop_all}
use Rattle.nf_core.specs.Plan.{Plan}
use Rattle.nf_io.specs.Bytes.{Took, TookAtLeast, Gives}
use Rattle.nf_io.specs.Tells.{ShelfTells, SinkTells}
use Rattle.nf_io.proofs.Public.{Took-none}
use Rattle.nf_line.specs.Readings.{trace_fault_of}
use Rattle.nf_line.specs.Lines.{with_last}
use Rattle.nf_line.specs.Trace.{Done, TooLong, Trace, trace, trace_over, trace_so_far, trace_limit}
use Rattle.nf_line.specs.declared.fault.TraceFault.{TraceFault}
use Rattle.nf_line.specs.declared.fault.TraceFault.TheVariants as trace_fault
use Rattle.nf_session.specs.Costs.{KeepsToWork}
use Rattle.nf_session.specs.Follow.{follow_text, follow_text_by, due}
use Rattle.nf_session.specs.Followers.{EndsBy, Follower, StandsAtEndOf, StandsFor}
use Rattle.nf_session.specs.Sessions.{Ends, EndsInPiece, LeftOfTrace, LeftRefused, Output, piece_limit}
use Rattle.nf_session.specs.inner.Announcing.{GoesOn, StandsBehind, StandsBehindAll, HandlesPiece, WritesBy, written_by}
use Rattle.nf_session.specs.inner.Reads.{ReadsPiece}
use Rattle.nf_session.specs.inner.Ends.{session_end_of}
use Rattle.nf_session.specs.declared.session.Announcing.{Announcing}
use Rattle.nf_session.specs.declared.session.Announcing.TheVariants as announcing
use Rattle.nf_session.specs.declared.fault.FollowEnd.{FollowEnd}
use Rattle.nf_session.specs.declared.fault.FollowEnd.TheVariants as follow_end
use Rattle.nf_session.specs.declared.fault.SessionEnd.TheVariants as session
use Rattle.nf_session.proofs.PieceReadLemmas.{IsFed, IsFedWhole, causes_first, causes_more, fed_more, fed_whole}
use Rattle.nf_session.proofs.SessionTextLemmas.{text_more, Took-on, TookPart-on, TookAtLeast-on, take_first, RefusalsStay, EventsStay, NeverTooLong, LeadsOn, leads_on, leads_itself}

-- the limit as a number
pub limit_is : trace_limit ≡ 9223372036854775807
unfolding trace_limit
limit_is = refl

is_fed : (output : Output) (bytes fed : List ℕ) (rest first now : Option (List ℕ)) → StandsBehind output bytes fed rest first now → IsFed bytes fed rest
is_fed output bytes fed rest first now behind = record { within = behind.within; fed_is = behind.fed_is; rest_is = behind.rest_is }

-- what is left where a line is refused
left_refused : (A : Type 0) (bytes : List ℕ) (rest : Option (List ℕ)) (fault : TraceFault) → fault ≢ trace_fault.TooLong → LeftRefused bytes rest → LeftOfTrace {A = A} (Err (session.Trace fault)) bytes rest
left_refused A bytes rest (trace_fault.Long number) never left = left
left_refused A bytes rest (trace_fault.Line number fault) never left = left
left_refused A bytes rest (trace_fault.Order number kept found) never left = left
left_refused A bytes rest trace_fault.TooLong never left = absurd (never refl)

-- a trace of so many bytes is too long
abbrev pub EndsAtLimit : Type 0
EndsAtLimit = (bytes more : List ℕ) → length bytes ≡ trace_limit → (trace_so_far bytes).ending ≡ Done → trace (bytes ++ more) ≡ record { events = (trace_so_far bytes).events; ending = TooLong }

module _ (plan : Plan) (full : Bool) (bytes : List ℕ) where
  abbrev pub output : Announcing → Output
  output how = written_by how plan full bytes

  -- before the first byte nothing is due
  taken_first : (how : Announcing) (told : Option (List ℕ)) → Took told told ((output how).due_at 0)
  unfolding follow_text_by trace_over with_last
  taken_first announcing.EachLine told = Took-none told
  taken_first announcing.Nothing told = Took-none told

  stands_first : (how : Announcing) (rest told : Option (List ℕ)) → rest ≡ Some bytes → StandsBehind (output how) bytes [] rest told told
  stands_first how rest told is = record { within = omega arith; fed_is = refl; rest_is = is; taken = taken_first how told }

  none_refused : (trace_so_far []).ending ≡ Done
  unfolding trace_over with_last
  none_refused = refl

  -- memory was wanted before the first byte
  wanted_text : (how : Announcing) (told : Option (List ℕ)) → Took told told ((output how).after 0)
  unfolding follow_text_by
  wanted_text announcing.EachLine told = Took-none told
  wanted_text announcing.Nothing told = Took-none told

  pub ends_first : {A : Type 0} (how : Announcing) (rest told : Option (List ℕ)) → rest ≡ Some bytes → Ends {A = A} (output how) bytes (Err session.NoMemory) rest told told
  ends_first how rest told is = record {
    ends = tt;
    writes = (0, wanted_text how told);
    left = record {
      read = 0;
      within = (omega arith, omega arith);
      rest_is = is;
      earlier = 0;
      one_piece = (omega arith, omega arith);
      goes_on = omega (arith, limit_is);
      unrefused = none_refused;
    };
  }

  -- a read of the trace failed
  pub ends_unread : {A : Type 0} (how : Announcing) (fed : List ℕ) (rest next_rest first now : Option (List ℕ)) → StandsBehind (output how) bytes fed rest first now
      → (trace_so_far fed).ending ≡ Done → length fed < trace_limit → next_rest ≡ rest → Ends {A = A} (output how) bytes (Err session.ReadFault) next_rest first now
  ends_unread how fed rest next_rest first now behind unrefused more same = record {
    ends = tt;
    writes = record { read = length fed; was_read = inr (behind.within, same ∙ behind.rest_is); taken = behind.taken };
    left = record {
      read = length fed;
      within = behind.within;
      rest_is = same ∙ behind.rest_is;
      goes_on = more;
      unrefused = subst (λ bs. (trace_so_far bs).ending ≡ Done) behind.fed_is unrefused;
    };
  }

  -- a piece more
  taken_more : {A : Type 0} (how : Announcing) (fed piece : List ℕ) (next : A) (first now next_now : Option (List ℕ)) → fed ≡ take (length fed) bytes → fed ++ piece ≡ take (length (fed ++ piece)) bytes
      → Took first now ((output how).due_at (length fed)) → WritesBy how plan full (due plan full fed) (trace_so_far (fed ++ piece)).events (Ok next) now next_now
      → Took first next_now ((output how).due_at (length (fed ++ piece)))
  taken_more announcing.EachLine fed piece next first now next_now is next_is taken writes =
      let here : Took first now (due plan full fed) = subst (λ bs. Took first now (due plan full bs)) (sym is) taken in
      subst (λ bs. Took first next_now (due plan full bs)) next_is (Took-on first now next_now (due plan full fed) (due plan full (fed ++ piece)) here writes)
  taken_more announcing.Nothing fed piece next first now next_now is next_is taken writes = subst (λ told. Took first told []) (sym writes) taken

  behind_more : {A : Type 0} (how : Announcing) (fed buffer : List ℕ) (count : ℕ) (next : A) (rest next_rest first now next_now : Option (List ℕ)) → StandsBehind (output how) bytes fed rest first now
      → length (take count buffer) ≡ count → IfSome rest (Gives buffer count) → next_rest ≡ option_map (drop count) rest
      → WritesBy how plan full (due plan full fed) (trace_so_far (fed ++ take count buffer)).events (Ok next) now next_now
      → StandsBehind (output how) bytes (fed ++ take count buffer) next_rest first next_now
  behind_more how fed buffer count next rest next_rest first now next_now behind size gives left writes =
      let grown = fed_more bytes fed buffer count rest next_rest (is_fed (output how) bytes fed rest first now behind) size gives left in
      record {
        within = grown.within;
        fed_is = grown.fed_is;
        rest_is = grown.rest_is;
        taken = taken_more how fed (take count buffer) next first now next_now behind.fed_is grown.fed_is behind.taken writes;
      }

  -- handling stopped in a part of the trace that leads on to the whole
  ends_stopped : {A : Type 0} (how : Announcing) (s : FollowEnd) (fed : List ℕ) (part : Trace) (rest first now next_now : Option (List ℕ)) (left : EndsInPiece bytes rest)
      → left.earlier ≡ length fed → fed ≡ take (length fed) bytes → Took first now ((output how).due_at (length fed)) → LeadsOn part (trace bytes)
      → ((fault : TraceFault) → trace_fault_of part.ending ≡ Some fault → ((trace_so_far (take left.read bytes)).ending ≡ (trace bytes).ending) ⊎ (rest ≡ Some []))
      → (how ≡ announcing.Nothing → s ≢ follow_end.WriteFault) → s ≢ follow_end.Trace trace_fault.TooLong
      → EndsBy {A = Follower} part.ending (Err s) → WritesBy {A = Follower} how plan full (due plan full fed) part.events (Err s) now next_now
      → Ends {A = A} (output how) bytes (Err (session_end_of s)) rest first next_now
  ends_stopped {A} announcing.EachLine (follow_end.Trace fault) fed part rest first now next_now left at is taken leads known silent never ends writes =
      let here : Took first now (due plan full fed) = subst (λ bs. Took first now (due plan full bs)) (sym is) taken in
      record {
        ends = ap (λ t. trace_fault_of t.ending) (leads.refused fault ends) ∙ ends;
        writes = subst (λ t. Took first next_now (follow_text plan full t.events)) (sym (leads.refused fault ends)) (Took-on first now next_now (due plan full fed) (follow_text plan full part.events) here writes);
        left = left_refused A bytes rest fault (λ e. never (ap follow_end.Trace e)) (record { ends = left; known = known fault ends });
      }
  ends_stopped {A} announcing.EachLine follow_end.WriteFault fed part rest first now next_now left at is taken leads known silent never ends writes =
      let here : Took first now (due plan full fed) = subst (λ bs. Took first now (due plan full bs)) (sym is) taken in
      let more = text_more plan full part.events leads.more in
      record {
        ends = tt;
        writes = record {
          read = left.read;
          was_read = inr (left.within.0, left.rest_is);
          earlier = left.earlier;
          one_piece = left.one_piece;
          due_is_written = subst (λ bs. TookAtLeast first next_now (due plan full bs)) (is ∙ ap (λ n. take n bytes) (sym at)) (TookAtLeast-on first now next_now (due plan full fed) (follow_text plan full part.events) here writes);
          part = TookPart-on first now next_now (due plan full fed) (follow_text plan full part.events) (follow_text plan full (trace bytes).events) more.0 here writes (ap (λ events. follow_text plan full events) leads.longer ∙ more.1);
        };
        left = left;
      }
  ends_stopped {A} announcing.EachLine follow_end.NoMemory fed part rest first now next_now left at is taken leads known silent never ends writes =
      let here : Took first now (due plan full fed) = subst (λ bs. Took first now (due plan full bs)) (sym is) taken in
      let count : ℕ = min writes.0 (length part.events) in
      let events : take writes.0 part.events ≡ take count (trace bytes).events = sym (take_first writes.0 part.events leads.more) ∙ ap (λ es. take count es) (sym leads.longer) in
      record {
        ends = tt;
        writes = (count, subst (λ es. Took first next_now (follow_text plan full es)) events (Took-on first now next_now (due plan full fed) (follow_text plan full (take writes.0 part.events)) here writes.1));
        left = left;
      }
  ends_stopped {A} announcing.Nothing (follow_end.Trace fault) fed part rest first now next_now left at is taken leads known silent never ends writes = record {
    ends = ap (λ t. trace_fault_of t.ending) (leads.refused fault ends) ∙ ends;
    writes = subst (λ told. Took first told []) (sym writes) taken;
    left = left_refused A bytes rest fault (λ e. never (ap follow_end.Trace e)) (record { ends = left; known = known fault ends });
  }
  ends_stopped {A} announcing.Nothing follow_end.WriteFault fed part rest first now next_now left at is taken leads known silent never ends writes = absurd (silent refl refl)
  ends_stopped {A} announcing.Nothing follow_end.NoMemory fed part rest first now next_now left at is taken leads known silent never ends writes =
      record { ends = tt; writes = (0, subst (λ told. Took first told []) (sym writes) taken); left = left }

  -- handling stopped in a piece
  pub ends_in_piece : {A : Type 0} → RefusalsStay → EventsStay → NeverTooLong → (how : Announcing) (s : FollowEnd) (fed buffer : List ℕ) (count : ℕ) (rest next_rest first now next_now : Option (List ℕ))
      → StandsBehind (output how) bytes fed rest first now → (trace_so_far fed).ending ≡ Done → length fed < trace_limit → length fed + count ≤ trace_limit → count ≤ piece_limit
      → length (take count buffer) ≡ count → IfSome rest (Gives buffer count) → next_rest ≡ option_map (drop count) rest
      → (how ≡ announcing.Nothing → s ≢ follow_end.WriteFault) → s ≢ follow_end.Trace trace_fault.TooLong
      → EndsBy {A = Follower} (trace_so_far (fed ++ take count buffer)).ending (Err s) → WritesBy {A = Follower} how plan full (due plan full fed) (trace_so_far (fed ++ take count buffer)).events (Err s) now next_now
      → Ends {A = A} (output how) bytes (Err (session_end_of s)) next_rest first next_now
  ends_in_piece refusals events_stay too_long how s fed buffer count rest next_rest first now next_now behind unrefused more few one_piece size gives left silent never ends writes =
      let grown = fed_more bytes fed buffer count rest next_rest (is_fed (output how) bytes fed rest first now behind) size gives left in
      let read : List ℕ = fed ++ take count buffer in
      let total : length read ≡ length fed + count = length-append fed (take count buffer) ∙ ap (λ n. length fed + n) size in
      let whole : read ++ drop (length read) bytes ≡ bytes = ap (λ first. first ++ drop (length read) bytes) grown.fed_is ∙ take-append-drop (length read) bytes in
      let leads : LeadsOn (trace_so_far read) (trace bytes) = subst (λ bs. LeadsOn (trace_so_far read) (trace bs)) whole (leads_on refusals events_stay too_long read (drop (length read) bytes) (omega arith)) in
      ends_stopped how s fed (trace_so_far read) next_rest first now next_now
      (record {
        read = length read;
        within = (grown.within, omega arith);
        rest_is = grown.rest_is;
        earlier = length fed;
        one_piece = (omega arith, omega arith);
        goes_on = more;
        unrefused = subst (λ bs. (trace_so_far bs).ending ≡ Done) behind.fed_is unrefused;
      })
      refl behind.fed_is behind.taken leads
      (λ fault is. inl (ap (λ bs. (trace_so_far bs).ending) (sym grown.fed_is) ∙ ap (λ t. t.ending) (sym (leads.refused fault is)))) silent never ends writes

  -- the trace was read to its end
  module _ (how : Announcing) (fed buffer : List ℕ) (count : ℕ) (rest next_rest first now next_now : Option (List ℕ)) (behind : StandsBehind (output how) bytes fed rest first now) (unrefused : (trace_so_far fed).ending ≡ Done)
      (more : length fed < trace_limit) (gives : IfSome rest (Gives buffer count)) (left : next_rest ≡ option_map (drop count) rest) (none : count ≡ 0) where
    whole : IsFedWhole bytes fed next_rest
    whole = fed_whole bytes fed buffer count rest next_rest (is_fed (output how) bytes fed rest first now behind) gives left none

    abbrev behind_all : EndsInPiece bytes next_rest
    behind_all = record {
      read = length fed;
      within = (behind.within, omega arith);
      rest_is = whole.rest_is ∙ ap Some (sym (drop_all (length fed) bytes (omega (arith, ap length whole.fed_is))));
      earlier = length fed;
      one_piece = (omega arith, omega arith);
      goes_on = more;
      unrefused = subst (λ bs. (trace_so_far bs).ending ≡ Done) behind.fed_is unrefused;
    }

    pub ends_in_last : {A : Type 0} (s : FollowEnd) → (how ≡ announcing.Nothing → s ≢ follow_end.WriteFault) → s ≢ follow_end.Trace trace_fault.TooLong
        → EndsBy {A = Follower} (trace fed).ending (Err s) → WritesBy {A = Follower} how plan full (due plan full fed) (trace fed).events (Err s) now next_now
        → Ends {A = A} (output how) bytes (Err (session_end_of s)) next_rest first next_now
    ends_in_last s silent never ends writes =
        ends_stopped how s fed (trace fed) next_rest first now next_now behind_all refl behind.fed_is behind.taken
        (subst (λ bs. LeadsOn (trace fed) (trace bs)) whole.fed_is (leads_itself (trace fed))) (λ fault is. inr whole.rest_is) silent never ends writes

    taken_all : {A : Type 0} (how : Announcing) (next : A) → Took first now ((output how).due_at (length fed)) → WritesBy how plan full (due plan full fed) (trace fed).events (Ok next) now next_now
        → Took first next_now (output how).text
    taken_all announcing.EachLine next taken writes =
        let here : Took first now (due plan full fed) = subst (λ bs. Took first now (due plan full bs)) (sym behind.fed_is) taken in
        subst (λ bs. Took first next_now (follow_text plan full (trace bs).events)) whole.fed_is (Took-on first now next_now (due plan full fed) (follow_text plan full (trace fed).events) here writes)
    taken_all announcing.Nothing next taken writes = subst (λ told. Took first told []) (sym writes) taken

    pub ends_done : {A : Type 0} (next : A) → EndsBy (trace fed).ending (Ok next) → WritesBy how plan full (due plan full fed) (trace fed).events (Ok next) now next_now
        → Ends (output how) bytes (Ok next) next_rest first next_now
    ends_done next ends writes = record {
      ends = subst (λ bs. (trace bs).ending ≡ Done) whole.fed_is ends;
      writes = taken_all how next behind.taken writes;
      left = whole.rest_is;
    }

    pub stands_done : (next : Follower) → StandsAtEndOf plan full fed next → StandsBehindAll plan full bytes next_rest next
    stands_done next stands = record { stands = subst (λ bs. StandsAtEndOf plan full bs next) whole.fed_is stands; left = behind_all }

  -- so many bytes were read that the trace is too long
  limit_text : (how : Announcing) (fed : List ℕ) (first now : Option (List ℕ)) → fed ≡ take (length fed) bytes → (trace bytes).events ≡ (trace_so_far fed).events
      → Took first now ((output how).due_at (length fed)) → Took first now (output how).text
  limit_text announcing.EachLine fed first now is same taken =
      subst (λ events. Took first now (follow_text plan full events)) (sym same) (subst (λ bs. Took first now (due plan full bs)) (sym is) taken)
  limit_text announcing.Nothing fed first now is same taken = taken

  pub ends_at_limit : {A : Type 0} → EndsAtLimit → (how : Announcing) (fed : List ℕ) (rest first now : Option (List ℕ)) → StandsBehind (output how) bytes fed rest first now
      → (trace_so_far fed).ending ≡ Done → length fed ≡ trace_limit → Ends {A = A} (output how) bytes (Err (session.Trace trace_fault.TooLong)) rest first now
  ends_at_limit at_limit how fed rest first now behind unrefused all =
      let whole : fed ++ drop (length fed) bytes ≡ bytes = ap (λ front. front ++ drop (length fed) bytes) behind.fed_is ∙ take-append-drop (length fed) bytes in
      let same = ap trace (sym whole) ∙ at_limit fed (drop (length fed) bytes) all unrefused in
      record {
        ends = ap (λ t. trace_fault_of t.ending) same;
        writes = limit_text how fed first now behind.fed_is (ap (λ t. t.events) same) behind.taken;
        left = record { enough = omega (arith, behind.within); rest_is = behind.rest_is ∙ ap (λ n. Some (drop n bytes)) all };
      }

-- a session goes on from before the first byte
pub goes_first : (how : Announcing) (plan : Plan) (full thrifty : Bool) (follower : Follower) (shelf : ShelfTells) (out : SinkTells) (steps : ℕ) → StandsFor plan full [] follower → follower.thrifty ≡ thrifty
    → GoesOn how plan full thrifty 0 follower shelf shelf out out steps steps
goes_first how plan full thrifty follower shelf out steps stands is = record {
  fed = [];
  read_is = refl;
  few = omega arith;
  stands = stands;
  behind = λ bytes told. stands_first plan full bytes how shelf.rest out.taken told;
  causes = causes_first shelf out;
  thrifty_is = is;
  work = λ t. omega arith;
}

-- and with each piece
pub goes_more : (how : Announcing) (plan : Plan) (full thrifty : Bool) (buffer : List ℕ) (read count : ℕ) (follower next : Follower) (shelf shelf_now shelf_next : ShelfTells) (out out_now out_next : SinkTells)
    (steps steps_now steps_next : ℕ) → (was : GoesOn how plan full thrifty read follower shelf shelf_now out out_now steps steps_now) → read + count ≤ trace_limit → length (take count buffer) ≡ count → IfSome shelf_now.rest (Gives buffer count)
    → (filled : List ℕ) (most : ℕ) → ReadsPiece filled most (Ok count) shelf_now shelf_next → HandlesPiece how plan full was.fed (take count buffer) (Ok next) out_now.taken out_next.taken → out_now.faults ≤ out_next.faults
    → next.thrifty ≡ follower.thrifty → (IsTrue thrifty → KeepsToWork plan full (trace_so_far was.fed).events (trace_so_far (was.fed ++ take count buffer)).events steps_now steps_next)
    → GoesOn how plan full thrifty (read + count) next shelf shelf_next out out_next steps steps_next
goes_more how plan full thrifty buffer read count follower next shelf shelf_now shelf_next out out_now out_next steps steps_now steps_next was few size gives filled most reads took later still kept = record {
  fed = was.fed ++ take count buffer;
  read_is = omega (arith, length-append was.fed (take count buffer), size, was.read_is);
  few = few;
  stands = took.stands;
  behind = λ bytes told.
      behind_more plan full bytes how was.fed buffer count next shelf_now.rest shelf_next.rest out.taken out_now.taken out_next.taken (was.behind bytes told) size gives reads.rest took.writes;
  causes = causes_more filled most count shelf shelf_now shelf_next out out_now out_next was.causes reads later;
  thrifty_is = still ∙ was.thrifty_is;
  work = λ t. omega (arith, was.work t, kept t);
}
