-- How a session ends that writes once all is read, from how reading ended.
use Rattle.std.proofs.Common.{◌≡◌, ◌≢◌, Bool, List, [], ℕ, sym, ap, ◌∙◌, subst, Option, Some, Ok, Err, refl, inr}
use Rattle.nf_core.specs.Plan.{Plan}
use Rattle.nf_io.specs.Bytes.{Took, TookPart}
use Rattle.nf_io.proofs.Public.{Took-join, TookPart-after}
use Rattle.nf_line.specs.Readings.{trace_fault_of}
use Rattle.nf_line.specs.Trace.{Event, Ending, Done, Refused, TooLong, trace}
use Rattle.nf_line.specs.declared.fault.TraceFault.{TraceFault}
use Rattle.nf_line.specs.declared.fault.TraceFault.TheVariants as trace_fault
use Rattle.nf_model.specs.Changes.{Content}
use Rattle.nf_announce.specs.Announcements.{held_text}
use Rattle.nf_session.specs.Follow.{content_after}
use Rattle.nf_session.specs.Sessions.{Ends, EndsInPiece, LeftOfTrace, at_end, held_at, inferred, inferred_text}
use Rattle.nf_session.specs.declared.fault.SessionEnd.{SessionEnd}
use Rattle.nf_session.specs.declared.fault.SessionEnd.TheVariants as session
use Rattle.nf_session.proofs.SessionTextLemmas.{begins}

-- what is left of a trace, whatever an answer would hand out
left_of_any : (A B : Type 0) (bytes : List ℕ) (rest : Option (List ℕ)) (fault : TraceFault) → LeftOfTrace {A = A} (Err (session.Trace fault)) bytes rest → LeftOfTrace {A = B} (Err (session.Trace fault)) bytes rest
left_of_any A B bytes rest (trace_fault.Long number) left = left
left_of_any A B bytes rest (trace_fault.Line number fault) left = left
left_of_any A B bytes rest (trace_fault.Order number kept found) left = left
left_of_any A B bytes rest trace_fault.TooLong left = left

module _ (plan : Plan) (full : Bool) where
  -- nothing is written of a refused trace
  refused_text : (events : List Event) (ending : Ending) (fault : TraceFault) → trace_fault_of ending ≡ Some fault → [] ≡ held_at plan full events ending
  refused_text events Done fault is = absurd cc
  refused_text events (Refused number refusal) fault is = refl
  refused_text events TooLong fault is = refl

  module _ (bytes : List ℕ) (rest first now : Option (List ℕ)) where
    -- reading ended early, and nothing was written
    pub ends_early : (A B : Type 0) (end : SessionEnd) → end ≢ session.WriteFault → Ends {A = A} (at_end []) bytes (Err end) rest first now → Ends {A = B} (inferred plan full bytes) bytes (Err end) rest first now
    ends_early A B (session.Trace fault) never was = record {
      ends = was.ends;
      writes = subst (λ text. Took first now text) (refused_text (trace bytes).events (trace bytes).ending fault was.ends) was.writes;
      left = left_of_any A B bytes rest fault was.left;
    }
    ends_early A B session.ReadFault never was =
        record { ends = tt; writes = record { read = was.writes.read; was_read = was.writes.was_read; taken = was.writes.taken }; left = was.left }
    ends_early A B session.WriteFault never was = absurd (never refl)
    ends_early A B session.NoMemory never was = record { ends = tt; writes = was.writes; left = was.left }

    module _ (middle : Option (List ℕ)) (content : Content) (lines slice : List ℕ) (done : (trace bytes).ending ≡ Done) (silent : Took first middle []) (made : lines ≡ held_text content) (handed : slice ≡ lines)
        (stands : content ≡ content_after plan full (trace bytes).events) where
      text_is : slice ≡ inferred_text plan full (trace bytes)
      text_is = handed ∙ made ∙ ap held_text stands ∙ sym (ap (held_at plan full (trace bytes).events) done)

      -- all was read, and all was written
      pub ends_written : Took middle now slice → rest ≡ Some [] → Ends {A = Unit {0}} (inferred plan full bytes) bytes (Ok tt) rest first now
      ends_written taken all =
          record { ends = done; writes = subst (λ text. Took first now text) text_is (Took-join first middle now [] slice silent taken); left = all }

      -- all was read, and less than all was written
      pub ends_unwritten : TookPart middle now slice → EndsInPiece bytes rest → Ends {A = Unit {0}} (inferred plan full bytes) bytes (Err session.WriteFault) rest first now
      ends_unwritten part left = record {
        ends = tt;
        writes = record {
          read = left.read;
          was_read = inr (left.within.0, left.rest_is);
          earlier = left.earlier;
          one_piece = left.one_piece;
          due_is_written = begins first middle now [] slice silent part;
          part = subst (λ text. TookPart first now text) text_is (TookPart-after first middle now [] slice silent part);
        };
        left = left;
      }
