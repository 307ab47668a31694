-- A trace read on from where a reader stands.
use Rattle.std.proofs.Common.{◌≡◌, ◌≢◌, ◌≤◌, ◌<◌, ◌-◌, ◌+◌, ℕ, ℤ, Bool, eqb, List, [], ◌∷◌, ◌++◌, length, map, take, Option, None, refl, sym, ap, ◌∙◌, subst, arith, length-append, ⊎_elim}
use Rattle.std.proofs.lemmas.Bool.{lt-leb, le-leb, cases_lt}
use Rattle.std.proofs.lemmas.List.{map-append, length-map}
use Rattle.std.proofs.lemmas.List.Splits.{length-slice_split}
use Rattle.nf_line.specs.Lines.{cut, cut_off, line_limit, is_too_long, with_last, last_of, ended_lines, unended}
use Rattle.nf_line.specs.Line.{Line, Faulty, Long, line, line_within}
use Rattle.nf_line.specs.Cutting.{HasCut}
use Rattle.nf_line.specs.Trace.{Event, InNoForm, Ending, Done, Refused, TooLong, Trace, after_events, last_end, trace_over, trace, trace_limit, trace_so_far}
use Rattle.nf_line.specs.Standing.{Standing, standing, read_on}
use Rattle.nf_line.proofs.CutLemmas.{parts_of, is_some, IsSome, some, some_part, last-append, long_last-append, goes_on}
use Rattle.nf_line.proofs.CutLineLemmas.{meaning_beyond, meanings_broken_off}
use Rattle.nf_line.proofs.EndedLineLemmas.{HasLast, last_part, long_alone}
use Rattle.nf_line.proofs.TraceLemmas as trace_lemmas
use Rattle.nf_line.proofs.TraceLemmas.{done_isnt_refused, done_before, ending_of, first_bytes}

-- the last of some pieces
last_of-append : (pieces : List (List ℕ)) (kept : List ℕ) → last_of (pieces ++ kept ∷ []) ≡ kept
last_of-append [] kept = refl
last_of-append (piece ∷ []) kept = refl
last_of-append (piece ∷ next ∷ pieces) kept = last_of-append (next ∷ pieces) kept

-- how many lines ended and what stands behind them, by the pieces
module _ (bytes : List ℕ) (pieces : List (List ℕ)) (kept : List ℕ) (are : parts_of bytes ≡ pieces ++ kept ∷ []) where
  unended_is : unended bytes ≡ kept
  unended_is = ap last_of are ∙ last_of-append pieces kept

  ended_are : ended_lines bytes ≡ length pieces
  ended_are =
      let parts : length (pieces ++ kept ∷ []) ≡ ended_lines bytes + 1 = ap length (sym are) ∙ length-slice_split (λ byte. eqb byte 10) bytes in
      omega (arith, parts, length-append pieces (kept ∷ []))

  -- the pieces of more bytes
  more_pieces : (counts : List ℕ → Bool) (more : List ℕ) → with_last counts (parts_of (bytes ++ more)) ≡ pieces ++ with_last counts (parts_of (kept ++ more))
  more_pieces counts more = ap (with_last counts) (goes_on more bytes pieces kept are) ∙ behind (parts_of (kept ++ more)) (some_part (kept ++ more))
    where
      behind : (parts : List (List ℕ)) → IsSome parts → with_last counts (pieces ++ parts) ≡ pieces ++ with_last counts parts
      behind _ (some part parts) = last-append counts pieces part parts

pub cut_standing : (bytes : List ℕ) (lines : List (List ℕ)) (kept : List ℕ) → HasCut bytes lines kept → (ended_lines bytes ≡ length lines) × (unended bytes ≡ kept)
cut_standing bytes lines kept so_far = (
  ended_are bytes so_far.pieces kept so_far.bytes_are ∙ sym (ap length so_far.lines_are ∙ length-map so_far.pieces _),
  unended_is bytes so_far.pieces kept so_far.bytes_are,
)

-- where no line so far is refused, what is kept isn't too long
faulty_ends : (number : ℕ) (last : Option ℤ) → (trace_over number last Done (Faulty Long ∷ [])).ending ≡ Refused number (InNoForm Long)
unfolding trace_over
faulty_ends number last = refl

long_isnt_done : (lines : List Line) → (trace_over 1 None Done (lines ++ Faulty Long ∷ [])).ending ≢ Done
long_isnt_done lines done =
    let before = done_before lines (Faulty Long ∷ []) 1 None done in
    let number = 1 + length lines in
    let last = last_end None (trace_over 1 None Done lines).events in
    done_isnt_refused number (InNoForm Long) (sym done ∙ ap ending_of (trace_lemmas.goes_on lines 1 None before Done (Faulty Long ∷ [])) ∙ faulty_ends number last)

kept_within : (bytes : List ℕ) (pieces : List (List ℕ)) (kept : List ℕ) → parts_of bytes ≡ pieces ++ kept ∷ [] → (trace_so_far bytes).ending ≡ Done → length kept ≤ line_limit
kept_within bytes pieces kept are done = ⊎_elim
    (λ beyond.
    let pieces_are : cut_off bytes ≡ pieces ++ kept ∷ [] = ap (with_last is_too_long) are ∙ last-append is_too_long pieces kept [] ∙ ap (λ parts. pieces ++ parts) (long_alone kept beyond) in
    let lines_are : map line (cut_off bytes) ≡ map line pieces ++ Faulty Long ∷ [] =
    ap (map line) pieces_are ∙ map-append line pieces (kept ∷ []) ∙ ap {B = List Line} (λ l. map line pieces ++ l ∷ []) (meaning_beyond kept beyond) in
    absurd (long_isnt_done (map line pieces) (sym (ap (λ lines. ending_of (trace_over 1 None Done lines)) lines_are) ∙ done)))
    (λ within. within)
    (cases_lt line_limit (length kept))

-- the trace of the bytes by their last part
module _ (bytes : List ℕ) (h : HasLast (parts_of bytes)) (done : (trace_so_far bytes).ending ≡ Done) where
  abbrev stand : Standing
  stand = standing bytes

  abbrev events : List Event
  events = (trace_so_far bytes).events

  within : length h.kept ≤ line_limit
  within = kept_within bytes h.pieces h.kept h.are done

  so_far : cut_off bytes ≡ h.pieces
  so_far = ap (with_last is_too_long) h.are ∙ long_last-append h.pieces h.kept within

  alone : trace_so_far bytes ≡ trace_over 1 None Done (map line h.pieces)
  alone = ap (λ pieces. trace_over 1 None Done (map line pieces)) so_far

  lines_on : (ending : Ending) (rest : List Line) → trace_over 1 None ending (map line h.pieces ++ rest) ≡ after_events events (trace_over (stand.ended + 1) stand.last ending rest)
  lines_on ending rest =
      let number : 1 + length (map line h.pieces) ≡ stand.ended + 1 = omega (arith, ended_are bytes h.pieces h.kept h.are, length-map h.pieces line) in
      trace_lemmas.goes_on (map line h.pieces) 1 None (sym (ap ending_of alone) ∙ done) ending rest
      ∙ ap (λ (t : Trace). after_events t.events (trace_over (1 + length (map line h.pieces)) (last_end None t.events) ending rest)) (sym alone)
      ∙ ap (λ n. after_events events (trace_over n stand.last ending rest)) number

  pieces_on : (counts : List ℕ → Bool) (ending : Ending) (more : List ℕ) → trace_over 1 None ending (map line (with_last counts (parts_of (bytes ++ more)))) ≡ after_events events (read_on stand ending (with_last counts (parts_of (stand.rest ++ more))))
  pieces_on counts ending more =
      let rest = with_last counts (parts_of (h.kept ++ more)) in
      ap (λ pieces. trace_over 1 None ending (map line pieces)) (more_pieces bytes h.pieces h.kept h.are counts more)
      ∙ ap (trace_over 1 None ending) (map-append line h.pieces rest) ∙ lines_on ending (map line rest)
      ∙ ap (λ kept. after_events events (read_on stand ending (with_last counts (parts_of (kept ++ more))))) (sym (unended_is bytes h.pieces h.kept h.are))

pub rest_within : (bytes : List ℕ) → (trace_so_far bytes).ending ≡ Done → length (unended bytes) ≤ line_limit
rest_within bytes done =
    let h = last_part bytes in
    subst (λ kept. length kept ≤ line_limit) (sym (unended_is bytes h.pieces h.kept h.are)) (within bytes h done)

pub whole : (bytes more : List ℕ) → length (bytes ++ more) < trace_limit → (trace_so_far bytes).ending ≡ Done
    → trace (bytes ++ more) ≡ after_events (trace_so_far bytes).events (read_on (standing bytes) Done (cut (unended bytes ++ more)))
unfolding trace
whole bytes more short done = let e = lt-leb trace_limit (length (bytes ++ more)) short in rw e (pieces_on bytes (last_part bytes) done is_some Done more)

pub broken_off : (bytes more : List ℕ) → (trace_so_far bytes).ending ≡ Done
    → trace_so_far (bytes ++ more) ≡ after_events (trace_so_far bytes).events (read_on (standing bytes) Done (cut_off (unended bytes ++ more)))
broken_off bytes more done = pieces_on bytes (last_part bytes) done is_too_long Done more

pub too_long : (bytes more : List ℕ) → length bytes ≤ trace_limit → trace_limit ≤ length (bytes ++ more) → (trace_so_far bytes).ending ≡ Done
    → trace (bytes ++ more) ≡ after_events (trace_so_far bytes).events (read_on (standing bytes) TooLong (cut_off (unended bytes ++ take (trace_limit - length bytes) more)))
unfolding trace
too_long bytes more within long done =
    let e = le-leb trace_limit (length (bytes ++ more)) long in
    rw e (ap (λ first. trace_over 1 None TooLong (map line (cut_off first))) (first_bytes bytes more within)
    ∙ pieces_on bytes (last_part bytes) done is_too_long TooLong (take (trace_limit - length bytes) more))

-- the lines that were handed out, read on
pub handed_out : (bytes : List ℕ) (lines : List (List ℕ)) (kept : List ℕ) → HasCut bytes lines kept → length kept ≤ line_limit → (trace_so_far bytes).ending ≡ Done → (ending : Ending) (rest : List Line)
    → trace_over 1 None ending (map line_within lines ++ rest) ≡ after_events (trace_so_far bytes).events (trace_over (ended_lines bytes + 1) (last_end None (trace_so_far bytes).events) ending rest)
handed_out bytes lines kept cut within done ending rest =
    let h : HasLast (parts_of bytes) = record { pieces = cut.pieces; kept = kept; are = cut.bytes_are } in
    let lines_are : map line_within lines ≡ map line cut.pieces = sym (meanings_broken_off bytes lines kept cut within) ∙ ap (map line) (so_far bytes h done) in
    ap (λ ls. trace_over 1 None ending (ls ++ rest)) lines_are ∙ lines_on bytes h done ending rest
