-- The lines that are handed out are those of the cut.
use Rattle.std.proofs.Common.{◌≡◌, ℕ, zero, suc, ◌+◌, ◌<◌, ◌≤◌, Bool, true, false, cond, eqb, ltb, List, [], ◌∷◌, ◌++◌, length, map, take, drop, get_or, refl, sym, ap, ◌∙◌, subst, arith, ⊎_elim, append_assoc, length-append, option_to_list}
use Rattle.std.specs.List.{All, after_first, position_or_len, fold}
use Rattle.std.proofs.lemmas.Bool.{or_parts, or_from, ltb-true, ltb-false, lt-ltb, le-ltb, eqb-true, ne_eqb, or_cases, cases_Bool, cond_both, true≢false}
use Rattle.std.proofs.lemmas.List.{append-nil, map-append, take-append-drop}
use Rattle.std.proofs.Math.Seq.{take-length, take-append-add}
use Rattle.std.proofs.lemmas.List.Elements.{All-push, All-nil}
use Rattle.std.proofs.lemmas.List.Folds.{list_any-append}
use Rattle.std.proofs.lemmas.List.Sums.{split_at_first, passes_at_first}
use Rattle.std.proofs.lemmas.List.Splits.{slice_split_at, slice_split_none}
use Rattle.nf_line.specs.Lines.{cut, cut_off, line_limit, is_too_long, without_return, with_last}
use Rattle.nf_line.specs.Line.{Line, line, line_within, Faulty, Long}
use Rattle.nf_line.specs.Cutting.{Content, Run, start, after_call, after_long, has_feed, before_feed, is_long, used_of, line_of, content_after, last_line, IsContent, HasCut, IsLongBehind}
use Rattle.nf_line.proofs.LineFeedLemmas.{none_before, place_found, all_before}
use Rattle.nf_line.proofs.CutLemmas.{parts_of, is_some, last_piece, last-append, some_last-append, long_last-append, counts_stays, long_counts, long_is_some, goes_on, kept_no_feed, first_part}

-- before the first call
pub at_start : HasCut [] [] []
at_start = record { pieces = []; bytes_are = refl; lines_are = refl; within = λ k d h. absurd (omega arith) }

none_at : (bytes : List ℕ) → has_feed bytes ≡ false → All (λ byte. eqb byte 10 ≡ false) bytes
none_at [] h k d below = absurd (omega arith)
none_at (byte ∷ bytes) h zero d below = (or_parts (eqb byte 10) (has_feed bytes) h).0
none_at (byte ∷ bytes) h (suc k) d below = none_at bytes (or_parts (eqb byte 10) (has_feed bytes) h).1 k d (omega arith)

-- bytes without LF are one part, also before an LF
one_part : (bytes : List ℕ) → has_feed bytes ≡ false → parts_of bytes ≡ bytes ∷ []
one_part bytes h = slice_split_none (λ byte. eqb byte 10) bytes (none_at bytes h)

ended_part : (bytes : List ℕ) → has_feed bytes ≡ false → parts_of (bytes ++ 10 ∷ []) ≡ bytes ∷ [] ∷ []
ended_part bytes h = slice_split_at (λ byte. eqb byte 10) bytes 10 [] (none_at bytes h) refl

-- a piece without LF
whole_piece : (bytes : List ℕ) (lines : List (List ℕ)) (kept piece : List ℕ) → HasCut bytes lines kept → has_feed piece ≡ false → HasCut (bytes ++ piece) lines (kept ++ piece)
whole_piece bytes lines kept piece so_far none =
    let kept_none = kept_no_feed bytes so_far.pieces kept so_far.bytes_are in
    let both_none : has_feed (kept ++ piece) ≡ false = list_any-append (λ byte. eqb byte 10) kept piece ∙ or_from _ _ kept_none none in
    record {
      pieces = so_far.pieces;
      bytes_are = goes_on piece bytes so_far.pieces kept so_far.bytes_are ∙ ap (λ parts. so_far.pieces ++ parts) (one_part (kept ++ piece) both_none);
      lines_are = so_far.lines_are;
      within = so_far.within;
    }

-- a piece up to its first LF, after which nothing is kept
ended_piece : (bytes : List ℕ) (lines : List (List ℕ)) (kept before : List ℕ) → HasCut bytes lines kept → has_feed before ≡ false → length kept + length before ≤ line_limit
    → HasCut (bytes ++ (before ++ 10 ∷ [])) (lines ++ without_return (kept ++ before) ∷ []) []
ended_piece bytes lines kept before so_far none fits =
    let kept_none = kept_no_feed bytes so_far.pieces kept so_far.bytes_are in
    let both_none : has_feed (kept ++ before) ≡ false = list_any-append (λ byte. eqb byte 10) kept before ∙ or_from _ _ kept_none none in
    record {
      pieces = so_far.pieces ++ (kept ++ before) ∷ [];
      bytes_are =
          goes_on (before ++ 10 ∷ []) bytes so_far.pieces kept so_far.bytes_are
          ∙ ap (λ text. so_far.pieces ++ parts_of text) (sym (append_assoc kept before (10 ∷ [])))
          ∙ ap (λ parts. so_far.pieces ++ parts) (ended_part (kept ++ before) both_none)
          ∙ sym (append_assoc so_far.pieces ((kept ++ before) ∷ []) ([] ∷ []));
      lines_are = ap (λ handed. handed ++ without_return (kept ++ before) ∷ []) so_far.lines_are ∙ sym (map-append without_return so_far.pieces ((kept ++ before) ∷ []));
      within = All-push (λ piece. length piece ≤ line_limit) so_far.pieces (kept ++ before) so_far.within (omega (arith, length-append kept before));
    }

-- what a piece with an LF has up to that
up_to_feed : (piece : List ℕ) → has_feed piece ≡ true → take (length (before_feed piece) + 1) piece ≡ before_feed piece ++ 10 ∷ []
up_to_feed piece h =
    let place = position_or_len (λ byte. eqb byte 10) piece in
    let found = place_found (λ byte. eqb byte 10) piece h in
    let is = eqb-true (get_or piece place 0) 10 (passes_at_first (λ byte. eqb byte 10) piece 0 found) in
    ap (take (length (before_feed piece) + 1)) (split_at_first (λ byte. eqb byte 10) piece 0 found)
    ∙ take-append-add (before_feed piece) (get_or piece place 0 ∷ after_first (λ byte. eqb byte 10) piece) 1
    ∙ ap {B = List ℕ} (λ byte. before_feed piece ++ byte ∷ []) is

-- one call that isn't too long
pub next_call : (bytes : List ℕ) (lines : List (List ℕ)) (content : Content) (piece : List ℕ) → HasCut bytes lines content.kept → is_long content piece ≡ false
    → HasCut (bytes ++ take (used_of piece) piece) (lines ++ option_to_list (line_of content piece)) (content_after content piece).kept
next_call bytes lines content piece so_far short =
    let sides = or_parts content.was_long (ltb line_limit (length content.kept + length (before_feed piece))) short in
    let fits = ltb-false _ _ sides.1 in
    ⊎_elim
    (λ h.
    let ended = ended_piece bytes lines content.kept (before_feed piece) so_far (none_before (λ byte. eqb byte 10) piece) fits in
    let used = subst (λ taken. HasCut (bytes ++ taken) (lines ++ without_return (content.kept ++ before_feed piece) ∷ []) []) (sym (up_to_feed piece h)) ended in
    rw h used)
    (λ h.
    let whole = whole_piece bytes lines content.kept piece so_far h in
    let used = subst (λ taken. HasCut (bytes ++ taken) lines (content.kept ++ piece)) (sym (take-length piece)) whole in
    let handed = subst (λ given. HasCut (bytes ++ take (length piece) piece) given (content.kept ++ piece)) (sym (append-nil lines)) used in
    rw h handed)
    (cases_Bool (has_feed piece))

-- what it leaves can be kept
kept_by : (b : Bool) (content : Content) (piece : List ℕ) → has_feed piece ≡ b → IsContent content → content.was_long ≡ false → length content.kept + length (before_feed piece) ≤ line_limit
    → IsContent (record content { kept = cond b [] (content.kept ++ piece) })
kept_by true content piece h valid short fits = record { within = omega arith; no_feed = refl; none_after_long = λ e. absurd (true≢false (sym e ∙ short)) }
kept_by false content piece h valid short fits = record {
  within = omega (arith, length-append content.kept piece, all_before (λ byte. eqb byte 10) piece h);
  no_feed = list_any-append (λ byte. eqb byte 10) content.kept piece ∙ or_from _ _ valid.no_feed h;
  none_after_long = λ e. absurd (true≢false (sym e ∙ short));
}

pub next_content : (content : Content) (piece : List ℕ) → IsContent content → is_long content piece ≡ false → IsContent (content_after content piece)
next_content content piece valid short =
    let sides = or_parts content.was_long (ltb line_limit (length content.kept + length (before_feed piece))) short in
    kept_by (has_feed piece) content piece refl valid sides.0 (ltb-false _ _ sides.1)

-- any calls, one after the other, as long as none was too long
HasRun : Run → Type 0
HasRun run = run.content.was_long ≡ false → HasCut run.bytes run.lines run.content.kept

after_one : (run : Run) (piece : List ℕ) → HasRun run → HasRun (after_call run piece)
unfolding HasRun
after_one run piece before = here (is_long run.content piece) refl
  where
    here : (b : Bool) → is_long run.content piece ≡ b → HasRun (cond b (record run { content = after_long })
        (record { bytes = run.bytes ++ take (used_of piece) piece; lines = run.lines ++ option_to_list (line_of run.content piece); content = content_after run.content piece }))
    here true e h = absurd (true≢false h)
    here false e h = next_call run.bytes run.lines run.content piece (before (or_parts run.content.was_long _ e).0) e

after_all : (pieces : List (List ℕ)) (run : Run) → HasRun run → HasRun (fold after_call run pieces)
after_all [] run h = h
after_all (piece ∷ pieces) run h = after_all pieces (after_call run piece) (after_one run piece h)

pub whole_run : (pieces : List (List ℕ)) → (fold after_call start pieces).content.was_long ≡ false → HasCut (fold after_call start pieces).bytes (fold after_call start pieces).lines (fold after_call start pieces).content.kept
unfolding HasRun
whole_run pieces = after_all pieces start (λ h. at_start)

-- the cut of all bytes is the pieces handed out and then the kept bytes, where any are kept
pub cut_so_far : (bytes : List ℕ) (lines : List (List ℕ)) (kept : List ℕ) (so_far : HasCut bytes lines kept) → cut bytes ≡ so_far.pieces ++ last_piece kept
cut_so_far bytes lines kept so_far = ap (with_last is_some) so_far.bytes_are ∙ some_last-append so_far.pieces kept

last_handed : (kept : List ℕ) → map without_return (last_piece kept) ≡ option_to_list (last_line kept)
last_handed [] = refl
last_handed (byte ∷ bytes) = let e = ne_eqb (length (byte ∷ bytes)) 0 (λ e. absurd (omega arith)) in rw e refl

pub lines_of_cut : (bytes : List ℕ) (lines : List (List ℕ)) (kept : List ℕ) → HasCut bytes lines kept → map without_return (cut bytes) ≡ lines ++ option_to_list (last_line kept)
lines_of_cut bytes lines kept so_far =
    ap (map without_return) (cut_so_far bytes lines kept so_far) ∙ map-append without_return so_far.pieces (last_piece kept)
    ∙ ap (λ handed. map without_return so_far.pieces ++ handed) (last_handed kept)
    ∙ ap (λ handed. handed ++ option_to_list (last_line kept)) (sym so_far.lines_are)

-- a line within the limit has the meaning of its piece
pub meaning_within : (piece : List ℕ) → length piece ≤ line_limit → line piece ≡ line_within (without_return piece)
unfolding line
meaning_within piece h = let e = le-ltb line_limit (length piece) h in rw e refl

-- a piece beyond the limit is too long
pub meaning_beyond : (piece : List ℕ) → line_limit < length piece → line piece ≡ Faulty Long
unfolding line
meaning_beyond piece h =
    let e = lt-ltb line_limit (length piece) h in rw e refl

meanings_within : (pieces : List (List ℕ)) → All (λ piece. length piece ≤ line_limit) pieces → map line pieces ≡ map line_within (map without_return pieces)
meanings_within [] h = refl
meanings_within (piece ∷ pieces) h =
    let first = meaning_within piece (h 0 piece (omega arith)) in
    let others = meanings_within pieces (λ k d below. h (suc k) d (omega arith)) in cc

last_within : (kept : List ℕ) → length kept ≤ line_limit → All (λ piece. length piece ≤ line_limit) (last_piece kept)
last_within kept h =
    let Within : List ℕ → Type 0 = λ piece. length piece ≤ line_limit in
    cond_both (is_some kept) (kept ∷ []) [] (All Within) (λ e. All-push Within [] kept (All-nil Within) h) (λ e. All-nil Within)

pub meanings_so_far : (bytes : List ℕ) (lines : List (List ℕ)) (kept : List ℕ) → HasCut bytes lines kept → length kept ≤ line_limit → map line (cut bytes) ≡ map line_within (lines ++ option_to_list (last_line kept))
meanings_so_far bytes lines kept so_far h =
    ap (map line) (cut_so_far bytes lines kept so_far) ∙ map-append line so_far.pieces (last_piece kept)
    ∙ ap (λ ls. ls ++ map line (last_piece kept)) (meanings_within so_far.pieces so_far.within)
    ∙ ap (λ ls. map line_within (map without_return so_far.pieces) ++ ls) (meanings_within (last_piece kept) (last_within kept h))
    ∙ sym (map-append line_within (map without_return so_far.pieces) (map without_return (last_piece kept)))
    ∙ ap (map line_within) (ap (λ handed. map without_return so_far.pieces ++ handed) (last_handed kept) ∙ ap (λ handed. handed ++ option_to_list (last_line kept)) (sym so_far.lines_are))

pub meanings_broken_off : (bytes : List ℕ) (lines : List (List ℕ)) (kept : List ℕ) → HasCut bytes lines kept → length kept ≤ line_limit → map line (cut_off bytes) ≡ map line_within lines
meanings_broken_off bytes lines kept so_far h =
    ap (map line) (ap (with_last is_too_long) so_far.bytes_are ∙ long_last-append so_far.pieces kept h)
    ∙ meanings_within so_far.pieces so_far.within ∙ ap (map line_within) (sym so_far.lines_are)

-- a line that is too long is a piece that is too long, whatever comes behind
-- the parts of all bytes, where the kept bytes and a piece make a line too long
record HasLongPart (pieces parts : List (List ℕ)) : Type 0 where
  first : List ℕ
  others : List (List ℕ)
  beyond : line_limit < length first
  are : parts ≡ pieces ++ first ∷ others

long_part : (bytes : List ℕ) (lines : List (List ℕ)) (content : Content) (piece more : List ℕ) (so_far : HasCut bytes lines content.kept) → content.was_long ≡ false → is_long content piece ≡ true
    → HasLongPart so_far.pieces (parts_of (bytes ++ piece ++ more))
long_part bytes lines content piece more so_far short long =
    let before = before_feed piece in
    let rest = drop (position_or_len (λ byte. eqb byte 10) piece) piece in
    let kept_none = kept_no_feed bytes so_far.pieces content.kept so_far.bytes_are in
    let both_none : has_feed (content.kept ++ before) ≡ false = list_any-append (λ byte. eqb byte 10) content.kept before ∙ or_from _ _ kept_none (none_before (λ byte. eqb byte 10) piece) in
    let beyond : line_limit < length content.kept + length before =
    ⊎_elim (λ e. absurd (true≢false (sym e ∙ short))) (λ e. ltb-true _ _ e) (or_cases content.was_long (ltb line_limit (length content.kept + length before)) long) in
    let text : content.kept ++ (piece ++ more) ≡ (content.kept ++ before) ++ (rest ++ more) =
    ap (λ given. content.kept ++ (given ++ more)) (sym (take-append-drop (position_or_len (λ byte. eqb byte 10) piece) piece))
    ∙ ap (λ given. content.kept ++ given) (append_assoc before rest more) ∙ sym (append_assoc content.kept before (rest ++ more)) in
    let first = first_part (content.kept ++ before) (rest ++ more) both_none in
    record {
      first = first.first;
      others = first.others;
      beyond = omega (arith, first.longer, length-append content.kept before);
      are =
          ap parts_of (append_assoc bytes piece more)
          ∙ goes_on (piece ++ more) bytes so_far.pieces content.kept so_far.bytes_are ∙ ap (λ parts. so_far.pieces ++ parts) (ap parts_of text ∙ first.are);
    }

pub long_piece : (bytes : List ℕ) (lines : List (List ℕ)) (content : Content) (piece more : List ℕ) (so_far : HasCut bytes lines content.kept) → content.was_long ≡ false → is_long content piece ≡ true
    → IsLongBehind so_far.pieces (cut (bytes ++ piece ++ more))
long_piece bytes lines content piece more so_far short long =
    let part = long_part bytes lines content piece more so_far short long in
    let behind = counts_stays is_some part.first part.others (long_is_some part.first part.beyond) in
    record {
      piece = part.first;
      others = behind.0;
      beyond = part.beyond;
      all_are = ap (with_last is_some) part.are ∙ last-append is_some so_far.pieces part.first part.others ∙ ap (λ parts. so_far.pieces ++ parts) behind.1;
    }

pub long_piece_broken_off : (bytes : List ℕ) (lines : List (List ℕ)) (content : Content) (piece more : List ℕ) (so_far : HasCut bytes lines content.kept) → content.was_long ≡ false → is_long content piece ≡ true
    → IsLongBehind so_far.pieces (cut_off (bytes ++ piece ++ more))
long_piece_broken_off bytes lines content piece more so_far short long =
    let part = long_part bytes lines content piece more so_far short long in
    let behind = counts_stays is_too_long part.first part.others (long_counts part.first part.beyond) in
    record {
      piece = part.first;
      others = behind.0;
      beyond = part.beyond;
      all_are = ap (with_last is_too_long) part.are ∙ last-append is_too_long so_far.pieces part.first part.others ∙ ap (λ parts. so_far.pieces ++ parts) behind.1;
    }

-- and its line is too long
pub long_meaning : (bytes : List ℕ) (lines : List (List ℕ)) (content : Content) (piece : List ℕ) → HasCut bytes lines content.kept → content.was_long ≡ false → is_long content piece ≡ true
    → (rest : List Line) × (map line (cut_off (bytes ++ piece)) ≡ map line_within lines ++ Faulty Long ∷ rest)
long_meaning bytes lines content piece so_far short long =
    let behind = long_piece_broken_off bytes lines content piece [] so_far short long in
    let first : map line so_far.pieces ≡ map line_within lines = meanings_within so_far.pieces so_far.within ∙ ap (map line_within) (sym so_far.lines_are) in
    let too_long = meaning_beyond behind.piece behind.beyond in (
      map line behind.others,
      ap (λ text. map line (cut_off text)) (sym (append-nil (bytes ++ piece))) ∙ ap (map line) behind.all_are ∙ map-append line so_far.pieces (behind.piece ∷ behind.others)
          ∙ ap (λ ls. ls ++ line behind.piece ∷ map line behind.others) first ∙ ap (λ l. map line_within lines ++ l ∷ map line behind.others) too_long,
    )
