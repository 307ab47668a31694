-- The last line that a follower takes.
use Rattle.std.proofs.Common.{◌≡◌, ◌<◌, ℕ, suc, ◌+◌, ◌^◌, ℤ, Bool, eqb, true, cond, not, List, [], ◌∷◌, length, Option, Some, None, refl, sym, ◌∙◌, ap, subst, arith}
use Rattle.std.proofs.lemmas.Bool.Decides.{nat_tests}
use Rattle.std.proofs.lemmas.List.{append-nil}
use Rattle.std.proofs.lemmas.List.Sums.{count_by-le-length}
use Rattle.nf_core.specs.Plan.{Plan}
use Rattle.nf_core.specs.declared.intervals.Change.{Change}
use Rattle.nf_io.specs.Bytes.{Took, TookPart}
use Rattle.nf_line.specs.Lines.{cut, is_empty, without_return}
use Rattle.nf_line.specs.Cutting as cutting
use Rattle.nf_line.specs.Cutting.{IsContent, last_line}
use Rattle.nf_line.specs.Line.{line_within}
use Rattle.nf_line.specs.Readings.{trace_fault_of}
use Rattle.nf_line.specs.Standing.{read_on}
use Rattle.nf_line.specs.Trace.{Done, Trace, after_events, last_end, refused, trace_limit, trace_over}
use Rattle.nf_model.specs.Changes.{Content}
use Rattle.nf_session.specs.Follow.{text_from}
use Rattle.nf_session.specs.Followers.{Follower, StandsFor}
use Rattle.nf_session.specs.inner.Progress.{Failed, Handles, Halts, HaltsAt, Stops, TakesLast, last_read, standing_of, text_of_change}
use Rattle.nf_session.specs.declared.fault.FollowEnd.{FollowEnd}
use Rattle.nf_session.specs.declared.fault.FollowEnd.TheVariants as follow_end
use Rattle.nf_session.specs.declared.fault.Halt.{Halt}
use Rattle.nf_session.specs.declared.fault.Halt.TheVariants as halt
use Rattle.nf_session.specs.declared.reading.Place.{Place}
use Rattle.nf_session.proofs.PassLemmas.{follower_at}
use Rattle.nf_session.proofs.StepLemmas.{cut_alone, short_line}

-- whether a piece counts as the last one
abbrev counts : List ℕ → Bool
counts piece = not (is_empty piece)

-- what is handed out of the kept bytes
none_kept : (kept : List ℕ) → last_line kept ≡ None → kept ≡ []
none_kept [] e = refl
none_kept (byte ∷ kept) e = absurd cc

some_kept : (kept handed : List ℕ) → last_line kept ≡ Some handed → (handed ≡ without_return kept) × (counts kept ≡ true)
some_kept [] handed e = absurd cc
some_kept (byte ∷ kept) handed e = (cc, counted (length kept) (length (byte ∷ kept)) refl)
  where
    counted : (n m : ℕ) → m ≡ suc n → not (eqb m 0) ≡ true
    counted n m is = grind (arith, nat_tests)

no_lines : (number : ℕ) (last : Option ℤ) → trace_over number last Done [] ≡ record { events = []; ending = Done }
unfolding trace_over
no_lines number last = refl

module _ (content : Content) (place : Place) (liner : cutting.Content) (valid : IsContent liner) where
  abbrev from : Follower
  from = follower_at content place.lines place.last liner.kept

  -- nothing is kept
  pub none_taken : (left : cutting.Content) → last_line liner.kept ≡ None → left ≡ record liner { kept = [] } → TakesLast from (follower_at content place.lines place.last left.kept) None
  unfolding text_from
  none_taken left none is =
      let no_pieces : cut liner.kept ≡ [] = ap cut (none_kept liner.kept none) ∙ cut_alone counts [] refl in
      record {
        enters = record {
          events = [];
          reads = ap (λ pieces. read_on (standing_of from) Done pieces) no_pieces ∙ no_lines (place.lines + 1) place.last;
          counted = omega (arith, ap length no_pieces);
          last_is = refl;
          kept_is = ap (λ (c : cutting.Content). c.kept) is;
          content_is = refl;
        };
        text_is = refl;
        worth = omega arith;
      }

  -- a last line
  module _ (handed : List ℕ) (some : last_line liner.kept ≡ Some handed) where
    pieces : cut liner.kept ≡ liner.kept ∷ []
    pieces = cut_alone counts liner.kept valid.no_feed ∙ ap (λ b. cond b (liner.kept ∷ []) []) (some_kept liner.kept handed some).1

    read_is : last_read (standing_of from) ≡ trace_over (place.lines + 1) place.last Done (line_within handed ∷ [])
    read_is =
        ap (λ all. read_on (standing_of from) Done all) pieces
        ∙ ap (λ l. trace_over (place.lines + 1) place.last Done (l ∷ [])) (short_line liner.kept valid.within ∙ ap line_within (sym (some_kept liner.kept handed some).0))

    pub some_taken : (left : cutting.Content) (next : Place) (now : Content) (made : Option Change) → left ≡ record liner { kept = [] } → Handles (line_within handed) place content next now made
        → TakesLast from (follower_at now next.lines next.last left.kept) made
    some_taken left next now made is h = record {
      enters = record {
        events = h.events;
        reads =
            read_is ∙ h.leads Done [] ∙ ap (after_events h.events) (no_lines (place.lines + 1 + 1) (last_end place.last h.events))
            ∙ ap (λ events. record { events = events; ending = Done }) (append-nil h.events);
        counted = omega (arith, h.counted, ap length pieces);
        last_is = h.last_is;
        kept_is = ap (λ (c : cutting.Content). c.kept) is;
        content_is = h.content_is;
      };
      text_is = h.text_is;
      worth = h.worth;
    }

    pub last_halts : (end : Halt) → HaltsAt (place.lines + 1) place.last (line_within handed) end → Halts end (last_read (standing_of from))
    last_halts (halt.Refused fault) h =
        let all : last_read (standing_of from) ≡ refused (place.lines + 1) h.why = read_is ∙ h.refuses Done [] in
        (ap (λ (t : Trace). t.events) all, ap (λ (t : Trace). trace_fault_of t.ending) all ∙ h.named)
    last_halts halt.NoMemory h = tt

-- the announcements of the last line were written, or weren't
module _ (plan : Plan) (from to : Follower) (made : Option Change) (first now : Option (List ℕ)) (t : TakesLast from to made) (same_plan : plan ≡ from.content.plan) where
  text : text_of_change plan made ≡ text_from from.content t.enters.events
  text = ap (λ p. text_of_change p made) same_plan ∙ sym t.text_is

  pub last_taken : Took first now (text_of_change plan made) → Took first now (text_from from.content t.enters.events)
  last_taken taken = subst (Took first now) text taken

  pub last_failed : (end : FollowEnd) → Failed end (text_of_change plan made) first now → Stops end from.content (last_read (standing_of from)) first now
  unfolding text_from
  last_failed follow_end.WriteFault failed = subst (TookPart first now) (text ∙ ap (λ (trace : Trace). text_from from.content trace.events) (sym t.enters.reads)) failed
  last_failed follow_end.NoMemory failed = (0, failed)
  last_failed (follow_end.Trace fault) failed = absurd failed

-- the lines of a trace that isn't too long can be counted
pub limit_is : trace_limit ≡ 9223372036854775807
unfolding trace_limit
limit_is = refl

pub few_lines : (plan : Plan) (full : Bool) (bytes : List ℕ) (from : Follower) → StandsFor plan full bytes from → length bytes < trace_limit → from.lines + 1 < 2 ^ 64
few_lines plan full bytes from s short = omega (arith, s.counted, count_by-le-length (λ byte. eqb byte 10) bytes, limit_is)
