-- One step in a piece: the line that it ends, and what is read on from there.
use Rattle.std.proofs.Common.{◌≡◌, ◌≤◌, ◌<◌, ℕ, ◌+◌, Bool, true, false, cond, eqb, List, [], ◌∷◌, ◌++◌, length, map, drop, get_or, refl, sym, ◌∙◌, ap, subst, append_assoc, arith, length-take, length-take-le, get_or-take, ⊎_elim}
use Rattle.std.specs.Prelude.{◌||◌}
use Rattle.std.specs.List.{onto_first, position_or_len}
use Rattle.std.proofs.Math.Seq.{drop-length}
use Rattle.std.proofs.lemmas.Bool.{or_parts, false≢true, cases_lt, le-ltb, lt-ltb, eqb-true, cond-true, cond-false}
use Rattle.std.proofs.lemmas.List.{append-nil, take_all}
use Rattle.std.proofs.lemmas.List.Folds.{list_any_none, list_any_at, list_any-append}
use Rattle.std.proofs.lemmas.List.Splits.{length-slice_split}
use Rattle.std.proofs.lemmas.List.Sums.{fails_before_first, passes_at_first, split_at_first, sum_by-append, sum_by-cons}
use Rattle.nf_text.specs.Fields.{fields_of}
use Rattle.nf_line.specs.Lines.{cut_off, ended_lines, is_too_long, last_of, line_limit, unended, with_last, without_return}
use Rattle.nf_line.specs.Cutting.{CanBeRead, before_feed, has_feed, used_of}
use Rattle.nf_line.specs.Line.{Line, Faulty, Long, line, line_within}
use Rattle.nf_line.specs.Readings.{trace_fault_of}
use Rattle.nf_line.specs.Standing.{Standing, read_on}
use Rattle.nf_line.specs.Trace.{Event, Done, Trace, last_end, refused, trace_over}
use Rattle.nf_line.specs.declared.fault.TraceFault.{TraceFault}
use Rattle.nf_line.specs.declared.fault.TraceFault.TheVariants as trace_fault
use Rattle.nf_session.specs.inner.Progress.{GoesOn, Halts, IsRefused, LeadsOn, more_read}
use Rattle.nf_session.specs.declared.fault.Halt.TheVariants as halt
use Rattle.nf_session.proofs.ReadLineLemmas.{long_refused}

abbrev is_feed : ℕ → Bool
is_feed byte = eqb byte 10

-- a piece by its first LF
feed_within : (piece : List ℕ) → has_feed piece ≡ true → position_or_len is_feed piece < length piece
feed_within piece h = ⊎_elim (λ below. below)
    (λ past. absurd (false≢true (sym (list_any_none is_feed piece (λ k d below. fails_before_first is_feed piece k d (omega arith))) ∙ h)))
    (cases_lt (position_or_len is_feed piece) (length piece))

feed_past : (piece : List ℕ) → has_feed piece ≡ false → length piece ≤ position_or_len is_feed piece
feed_past piece h = ⊎_elim
    (λ below. absurd (false≢true (sym h ∙ list_any_at is_feed piece (position_or_len is_feed piece) 0 below (passes_at_first is_feed piece 0 below))))
    (λ past. past)
    (cases_lt (position_or_len is_feed piece) (length piece))

pub none_before : (piece : List ℕ) → has_feed (before_feed piece) ≡ false
none_before piece = list_any_none is_feed (before_feed piece) (λ k d h.
    let below : k < position_or_len is_feed piece = omega (arith, length-take (position_or_len is_feed piece) piece) in
    rw (get_or-take (position_or_len is_feed piece) piece k d below) (fails_before_first is_feed piece k d below))

-- what stands behind the first LF
abbrev pub behind_feed : List ℕ → List ℕ
behind_feed piece = drop (length (before_feed piece) + 1) piece

pub piece_parts : (piece : List ℕ) → has_feed piece ≡ true → piece ≡ before_feed piece ++ 10 ∷ behind_feed piece
piece_parts piece h =
    let place = position_or_len is_feed piece in
    let within : place < length piece = feed_within piece h in
    let low : place ≤ length piece = omega arith in
    let long : length (before_feed piece) ≡ place = length-take-le place piece low in
    let feed : get_or piece place 0 ≡ 10 = eqb-true (get_or piece place 0) 10 (passes_at_first is_feed piece 0 within) in
    split_at_first is_feed piece 0 within ∙ ap (λ byte. before_feed piece ++ (byte ∷ drop (place + 1) piece)) feed
    ∙ ap (λ n. before_feed piece ++ (10 ∷ drop (n + 1) piece)) (sym long)

before_all : (piece : List ℕ) → has_feed piece ≡ false → before_feed piece ≡ piece
before_all piece h = take_all (position_or_len is_feed piece) piece (feed_past piece h)

-- the fields of bytes whose first field is known
pub fields_line : (text rest : List ℕ) → has_feed text ≡ false → fields_of 10 (text ++ 10 ∷ rest) ≡ text ∷ fields_of 10 rest
fields_line [] rest none = refl
fields_line (byte ∷ text) rest none =
    let sides = or_parts (eqb byte 10) (has_feed text) none in
    let other : eqb byte 10 ≡ false = sides.0 in
    rw other (ap (onto_first byte) (fields_line text rest sides.1))

pub fields_alone : (text : List ℕ) → has_feed text ≡ false → fields_of 10 text ≡ text ∷ []
fields_alone [] none = refl
fields_alone (byte ∷ text) none =
    let sides = or_parts (eqb byte 10) (has_feed text) none in
    let other : eqb byte 10 ≡ false = sides.0 in
    rw other (ap (onto_first byte) (fields_alone text sides.1))

pub some_fields : (bytes : List ℕ) → 0 < length (fields_of 10 bytes)
some_fields bytes = omega (arith, length-slice_split is_feed bytes)

-- how many lines ended
pub ended_none : (text : List ℕ) → has_feed text ≡ false → ended_lines text ≡ 0
ended_none [] none = refl
ended_none (byte ∷ text) none =
    let sides = or_parts (eqb byte 10) (has_feed text) none in
    let feeds : ℕ → ℕ = λ b. cond (eqb b 10) 1 0 in
    let here : ended_lines (byte ∷ text) ≡ cond (eqb byte 10) 1 0 + ended_lines text = sum_by-cons feeds byte text in
    let counts : Bool → ℕ = λ b. cond b 1 0 in
    let other : counts (eqb byte 10) ≡ counts false = ap counts sides.0 in
    omega (arith, here, other, ended_none text sides.1)

pub ended_line : (text rest : List ℕ) → has_feed text ≡ false → ended_lines (text ++ 10 ∷ rest) ≡ ended_lines rest + 1
ended_line text rest none =
    let feeds : ℕ → ℕ = λ b. cond (eqb b 10) 1 0 in
    let parts : ended_lines (text ++ 10 ∷ rest) ≡ ended_lines text + ended_lines (10 ∷ rest) = sum_by-append feeds text (10 ∷ rest) in
    let first : ended_lines (10 ∷ rest) ≡ 1 + ended_lines rest = sum_by-cons feeds 10 rest in
    omega (arith, parts, first, ended_none text none)

-- what stands behind the last LF
pub last_more : (text : List ℕ) (fields : List (List ℕ)) → 0 < length fields → last_of (text ∷ fields) ≡ last_of fields
last_more text [] h = absurd (omega arith)
last_more text (field ∷ fields) h = refl

pub unended_none : (text : List ℕ) → has_feed text ≡ false → unended text ≡ text
unended_none text none = ap last_of (fields_alone text none)

pub unended_line : (text rest : List ℕ) → has_feed text ≡ false → unended (text ++ 10 ∷ rest) ≡ unended rest
unended_line text rest none = ap last_of (fields_line text rest none) ∙ last_more text (fields_of 10 rest) (some_fields rest)

-- the pieces of a cut, whatever test counts the last one
counts_more : (counts : List ℕ → Bool) (text : List ℕ) (fields : List (List ℕ)) → 0 < length fields → with_last counts (text ∷ fields) ≡ text ∷ with_last counts fields
unfolding with_last
counts_more counts text [] h = absurd (omega arith)
counts_more counts text (field ∷ fields) h = refl

pub cut_line : (counts : List ℕ → Bool) (text rest : List ℕ) → has_feed text ≡ false → with_last counts (fields_of 10 (text ++ 10 ∷ rest)) ≡ text ∷ with_last counts (fields_of 10 rest)
cut_line counts text rest none = ap (with_last counts) (fields_line text rest none) ∙ counts_more counts text (fields_of 10 rest) (some_fields rest)

counts_alone : (counts : List ℕ → Bool) (text : List ℕ) → with_last counts (text ∷ []) ≡ cond (counts text) (text ∷ []) []
unfolding with_last
counts_alone counts text = refl

pub cut_alone : (counts : List ℕ → Bool) (text : List ℕ) → has_feed text ≡ false → with_last counts (fields_of 10 text) ≡ cond (counts text) (text ∷ []) []
cut_alone counts text none = ap (with_last counts) (fields_alone text none) ∙ counts_alone counts text

pub cut_off_none : (text : List ℕ) → CanBeRead text → cut_off text ≡ []
cut_off_none text valid = cut_alone is_too_long text valid.no_feed ∙ ap (λ b. cond b (text ∷ []) []) (le-ltb line_limit (length text) valid.within)

-- what a piece of the cut is
pub short_line : (text : List ℕ) → length text ≤ line_limit → line text ≡ line_within (without_return text)
unfolding line
short_line text within = let e = le-ltb line_limit (length text) within in rw e refl

long_line : (text : List ℕ) → line_limit < length text → Faulty Long ≡ line text
unfolding line
long_line text beyond = let e = lt-ltb line_limit (length text) beyond in rw e refl

-- the kept bytes and a piece
none_in : (kept piece : List ℕ) → has_feed kept ≡ false → has_feed piece ≡ false → has_feed (kept ++ piece) ≡ false
none_in kept piece none other = list_any-append is_feed kept piece ∙ ap (λ b. b || has_feed piece) none ∙ other

whole_text : (kept piece : List ℕ) → has_feed piece ≡ true → kept ++ piece ≡ (kept ++ before_feed piece) ++ 10 ∷ behind_feed piece
whole_text kept piece feed = ap (λ bytes. kept ++ bytes) (piece_parts piece feed) ∙ sym (append_assoc kept (before_feed piece) (10 ∷ behind_feed piece))

pub used_at_feed : (piece : List ℕ) → has_feed piece ≡ true → used_of piece ≡ length (before_feed piece) + 1
used_at_feed piece feed = cond-true (has_feed piece) (length (before_feed piece) + 1) (length piece) feed

used_of_all : (piece : List ℕ) → has_feed piece ≡ false → used_of piece ≡ length piece
used_of_all piece none = cond-false (has_feed piece) (length (before_feed piece) + 1) (length piece) none

-- a step in a piece from where a reader stands, whose kept bytes have no LF
module _ (from : Standing) (piece : List ℕ) (none : has_feed from.rest ≡ false) where
  abbrev text : List ℕ
  text = from.rest ++ before_feed piece

  text_none : has_feed text ≡ false
  text_none = none_in from.rest (before_feed piece) none (none_before piece)

  -- the lines that are read where the piece has an LF
  lines_at_feed : has_feed piece ≡ true → map line (cut_off (from.rest ++ piece)) ≡ line text ∷ map line (cut_off (behind_feed piece))
  lines_at_feed feed = ap (λ bytes. map line (cut_off bytes)) (whole_text from.rest piece feed) ∙ ap (map line) (cut_line is_too_long text (behind_feed piece) text_none)

  read_at_feed : has_feed piece ≡ true → length text ≤ line_limit
      → more_read from piece ≡ trace_over (from.ended + 1) from.last Done (line_within (without_return text) ∷ map line (cut_off (behind_feed piece)))
  read_at_feed feed short = ap (trace_over (from.ended + 1) from.last Done) (lines_at_feed feed ∙ ap (λ l. l ∷ map line (cut_off (behind_feed piece))) (short_line text short))

  -- a line that is read
  pub feed_goes : (events : List Event) (to : Standing) → has_feed piece ≡ true → length text ≤ line_limit → LeadsOn (from.ended + 1) from.last (line_within (without_return text)) events
      → to ≡ record { ended = from.ended + 1; rest = []; last = last_end from.last events } → GoesOn from piece events to (drop (used_of piece) piece)
  feed_goes events to feed short leads is =
      let next : Standing = record { ended = from.ended + 1; rest = []; last = last_end from.last events } in
      let behind = behind_feed piece in
      let count : ended_lines piece ≡ ended_lines behind + 1 = ap ended_lines (piece_parts piece feed) ∙ ended_line (before_feed piece) behind (none_before piece) in
      let goes : GoesOn from piece events next behind = record {
        reads = read_at_feed feed short ∙ leads Done (map line (cut_off behind));
        counted = omega (arith, count);
        last_is = refl;
        kept_is = sym (ap unended (whole_text from.rest piece feed) ∙ unended_line text behind text_none);
        valid = λ v. record { within = omega arith; no_feed = refl };
      } in
      subst (λ (t : Standing). GoesOn from piece events t (drop (used_of piece) piece)) (sym is)
      (subst (λ n. GoesOn from piece events next (drop n piece)) (sym (used_at_feed piece feed)) goes)

  -- a line that is refused
  refused_halts : (l : Line) (rest : List Line) (fault : TraceFault) → more_read from piece ≡ trace_over (from.ended + 1) from.last Done (l ∷ rest) → IsRefused (from.ended + 1) from.last l fault → Halts (halt.Refused fault) (more_read from piece)
  refused_halts l rest fault is refusal =
      let all : more_read from piece ≡ refused (from.ended + 1) refusal.why = is ∙ refusal.refuses Done rest in
      (ap (λ (t : Trace). t.events) all, ap (λ (t : Trace). trace_fault_of t.ending) all ∙ refusal.named)

  pub feed_halts : (fault : TraceFault) → has_feed piece ≡ true → length text ≤ line_limit → IsRefused (from.ended + 1) from.last (line_within (without_return text)) fault → Halts (halt.Refused fault) (more_read from piece)
  feed_halts fault feed short refusal = refused_halts (line_within (without_return text)) (map line (cut_off (behind_feed piece))) fault (read_at_feed feed short) refusal

  -- a line that is too long
  lines_long : line_limit < length text → (b : Bool) → has_feed piece ≡ b → (rest : List Line) × (map line (cut_off (from.rest ++ piece)) ≡ line text ∷ rest)
  lines_long beyond true feed = (map line (cut_off (behind_feed piece)), lines_at_feed feed)
  lines_long beyond false other =
      let all : from.rest ++ piece ≡ text = ap (λ bytes. from.rest ++ bytes) (sym (before_all piece other)) in
      ([], ap (λ bytes. map line (cut_off bytes)) all ∙ ap (map line) (cut_alone is_too_long text text_none ∙ ap (λ b. cond b (text ∷ []) []) (lt-ltb line_limit (length text) beyond)))

  pub long_halts : line_limit < length text → Halts (halt.Refused (trace_fault.Long (from.ended + 1))) (more_read from piece)
  long_halts beyond =
      let lines = lines_long beyond (has_feed piece) refl in
      refused_halts (line text) lines.0 (trace_fault.Long (from.ended + 1)) (ap (trace_over (from.ended + 1) from.last Done) lines.1)
      (long_refused (from.ended + 1) from.last (line text) (long_line text beyond))

  -- a piece without LF is kept
  pub none_goes : (to : Standing) → has_feed piece ≡ false → length text ≤ line_limit → to ≡ record { ended = from.ended; rest = from.rest ++ piece; last = from.last } → GoesOn from piece [] to (drop (used_of piece) piece)
  none_goes to other short is =
      let next : Standing = record { ended = from.ended; rest = from.rest ++ piece; last = from.last } in
      let all : from.rest ++ piece ≡ text = ap (λ bytes. from.rest ++ bytes) (sym (before_all piece other)) in
      let goes : GoesOn from piece [] next [] = record {
        reads = ap (λ bytes. read_on from Done (cut_off bytes)) (sym (append-nil (from.rest ++ piece)));
        counted = omega (arith, ended_none piece other);
        last_is = refl;
        kept_is = ap unended (append-nil (from.rest ++ piece));
        valid = λ v. record { within = omega (arith, ap length all); no_feed = none_in from.rest piece none other };
      } in
      subst (λ (t : Standing). GoesOn from piece [] t (drop (used_of piece) piece)) (sym is)
      (subst (λ bytes. GoesOn from piece [] next bytes) (sym (ap (λ n. drop n piece) (used_of_all piece other) ∙ drop-length piece)) goes)
