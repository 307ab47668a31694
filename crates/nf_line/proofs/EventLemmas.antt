-- The values of a trace's events are plain, and its numbers are ones that a value may have.
use Rattle.std.proofs.Common.{◌≡◌, ℕ, ◌+◌, ◌≤◌, ◌^◌, ℤ, ◌≤ℤ◌, pos, negsuc, Bool, true, false, cond, not, ◌&&◌, eqb, leb, ltb, int_lt, List, [], ◌∷◌, length, map, take, All, ◌↔◌, Option, Some, None, refl, sym, ap, subst, rules, tests, arith}
use Rattle.std.specs.List.{list_any, list_all, AllByRecursion}
use Rattle.std.specs.Int.{w64}
use Rattle.std.specs.Int.RustNames.{FitsSigned}
use Rattle.std.specs.Str.Parse.{digits_value}
use Rattle.std.specs.Char.{is_ascii_digit}
use Rattle.std.proofs.lemmas.Bool.{and_parts, and_from, not-true, not-false}
use Rattle.std.proofs.lemmas.Bool.Decides.{nat_tests}
use Rattle.std.proofs.lemmas.List.Elements.{All-nil, All-cons, All-from_recursion}
use Rattle.nf_core.specs.Texts.{IsI64, IsPlain, IsPlainByte}
use Rattle.nf_core.specs.declared.values.Value.{Value}
use Rattle.nf_core.specs.declared.values.Value.TheVariants as v
use Rattle.nf_core.proofs.Public.NumberLemmas.{i64_fits}
use Rattle.nf_text.specs.Fields.{fields_of}
use Rattle.nf_text.specs.Time.{is_time}
use Rattle.nf_text.specs.Value.{Spelling, Truth, Whole, Words, spelling_of, is_words, is_separator}
use Rattle.nf_line.specs.Lines.{is_empty, is_too_long, cut, cut_off, line_limit, without_return, with_last}
use Rattle.nf_line.specs.Line.{Line, Empty, Accepted, Faulty, Fault, Long, NotText, Parts, holds_bar, parts_of, line, line_within, value_of, spelled, is_text, keys_in, values_in, texts_in, time_in, faults_in, first_fault, judged, formed, accepted}
use Rattle.nf_line.specs.Cutting.{has_feed}
use Rattle.nf_line.specs.ProperEvents.{IsProperValue, IsProperEvent}
use Rattle.nf_line.specs.Trace.{Refusal, Ending, Done, TooLong, fallen, judged_event, trace_over, trace, trace_limit}
use Rattle.nf_line.proofs.PlainTextLemmas.{is_bare, parts_lack_mark, unbarred, unmarked, values_bare, zip_bare}
use Rattle.nf_line.proofs.CarriageReturnLemmas.{can_be_read}
use Rattle.nf_line.proofs.CutLemmas as cut_lemmas

-- what is known of spellings
pub record AreSpelled : Type 0 where
  pub bytes : (text : List ℕ) → (list_any is_separator text ≡ false) ↔ All IsPlainByte text
  pub words : (text : List ℕ) → All IsPlainByte text → is_words (spelling_of text) ≡ true → IsPlain text
  pub within : (text : List ℕ) (n : ℤ) → spelling_of text ≡ Whole n → FitsSigned w64 n
  pub given : (text found : List ℕ) → spelling_of text ≡ Words found → found ≡ text

int_back : (x : Value) → ℤ → ℤ
int_back (v.Int n) d = n
int_back (v.Bool b) d = d
int_back (v.Text t) d = d

is_int : Value → Bool
is_int (v.Int n) = true
is_int (v.Bool b) = false
is_int (v.Text t) = false

module _ (known : AreSpelled) where
  value_read : (text : List ℕ) → is_bare text ≡ true → (given : Spelling) → spelling_of text ≡ given → IsProperValue (value_of given)
  unfolding is_int int_back
  value_read text bare (Truth b) e = record { plain = tt; number = λ n is. let s : false ≡ true = ap is_int is in absurd cc }
  value_read text bare (Whole m) e = record { plain = tt; number = λ n is. subst IsI64 (ap (λ x. int_back x m) is) (i64_fits m (known.within text m e)) }
  value_read text bare (Words found) e =
      let same : found ≡ text = known.given text found e in
      record {
        plain = subst IsPlain (sym same) (known.words text ((known.bytes text).0 (not-true _ bare)) (ap is_words e));
        number = λ n is. let s : false ≡ true = ap is_int is in absurd cc;
      }

  pairs_read : (texts : List (List ℕ × List ℕ)) → list_all (λ (pair : List ℕ × List ℕ). is_bare pair.1) texts ≡ true → AllByRecursion (λ (pair : List ℕ × Value). IsProperValue pair.1) (map spelled texts)
  pairs_read [] h = tt
  pairs_read (pair ∷ texts) h =
      let both = and_parts (is_bare pair.1) (list_all (λ (pair : List ℕ × List ℕ). is_bare pair.1) texts) h in
      (value_read pair.1 both.0 (spelling_of pair.1) refl, pairs_read texts both.1)

  -- a line is right where it isn't accepted, or an event can be made of it
  IsRightLine : Line → Type 0
  IsRightLine Empty = Unit {0}
  IsRightLine (Faulty fault) = Unit {0}
  IsRightLine (Accepted name start stop pairs) = IsI64 start × IsI64 stop × (start ≤ℤ stop) × AllByRecursion (λ (pair : List ℕ × Value). IsProperValue pair.1) pairs × (holds_bar name ≡ false)

  time_right : (n : ℕ) → ltb n (2 ^ 63) ≡ true → IsI64 (pos n)
  time_right n h = record { low = search (rules, tests); high = search (rules, tests, h) }

  time_of_field : (text : List ℕ) → is_time text ≡ true → IsI64 (time_in text)
  time_of_field text h =
      let parts = and_parts (list_all is_ascii_digit text && leb 1 (length text) && leb (length text) 19) (ltb (digits_value 10 text) (2 ^ 63)) h in
      time_right (digits_value 10 text) parts.1

  none_first : (rows : List (Fault × Bool)) → first_fault rows ≡ None → AllByRecursion (λ (row : Fault × Bool). row.1 ≡ false) rows
  none_first [] h = tt
  none_first (row ∷ rows) h = at row.1 refl (none_first rows)
    where
      at : (b : Bool) → row.1 ≡ b → (first_fault rows ≡ None → AllByRecursion (λ (row : Fault × Bool). row.1 ≡ false) rows) → AllByRecursion (λ (row : Fault × Bool). row.1 ≡ false) (row ∷ rows)
      at true e later = let s = subst (λ c. cond c (Some row.0) (first_fault rows) ≡ None) e h in absurd cc
      at false e later = (e, later (subst (λ c. cond c (Some row.0) (first_fault rows) ≡ None) e h))

  no_later : (start stop : ℤ) → int_lt stop start ≡ false → start ≤ℤ stop
  no_later start stop e = search (rules, tests, e)

  accepted_right : (text : List ℕ) (parts : Parts) → has_feed text ≡ false → not (is_text text) ≡ false → parts_of (fields_of 124 text) ≡ Some parts → not (is_time parts.start && is_time parts.stop) ≡ false
      → int_lt (time_in parts.stop) (time_in parts.start) ≡ false → IsRightLine (accepted parts)
  unfolding IsRightLine
  accepted_right text parts feed texts is time span =
      let times = and_parts (is_time parts.start) (is_time parts.stop) (not-false _ time) in (
        time_of_field parts.start times.0,
        time_of_field parts.stop times.1,
        no_later (time_in parts.start) (time_in parts.stop) span,
        pairs_read (texts_in parts.keys parts.values) (zip_bare (keys_in parts.keys) (values_in parts.keys parts.values) (values_bare parts.keys parts.values (unmarked text parts texts feed is))),
        unbarred text parts is,
      )

  judged_right : (text : List ℕ) (parts : Parts) (o : Option Fault) → has_feed text ≡ false → not (is_text text) ≡ false → parts_of (fields_of 124 text) ≡ Some parts → first_fault (faults_in parts) ≡ o
      → IsRightLine (judged parts o)
  unfolding IsRightLine
  judged_right text parts None feed texts is e = let rows = none_first (faults_in parts) e in accepted_right text parts feed texts is rows.1.0 rows.1.1.0
  judged_right text parts (Some fault) feed texts is e = tt

  formed_right : (text : List ℕ) (parts : Option Parts) → has_feed text ≡ false → not (is_text text) ≡ false → parts_of (fields_of 124 text) ≡ parts → IsRightLine (formed parts)
  unfolding IsRightLine
  formed_right text None feed texts is = tt
  formed_right text (Some parts) feed texts is = judged_right text parts (first_fault (faults_in parts)) feed texts is refl

  within_right : (text : List ℕ) → has_feed text ≡ false → IsRightLine (line_within text)
  unfolding line_within IsRightLine
  within_right text feed = at (is_empty text) (is_text text) refl
    where
      at : (b t : Bool) → is_text text ≡ t → IsRightLine (cond b Empty (cond t (formed (parts_of (fields_of 124 text))) (Faulty NotText)))
      at true t e = tt
      at false true e = formed_right text (parts_of (fields_of 124 text)) feed (ap not e) refl
      at false false e = tt

  fits_line : (n : ℕ) → ltb line_limit n ≡ false → n ≤ line_limit
  fits_line n h = grind (arith, nat_tests)

  line_right : (piece : List ℕ) → has_feed piece ≡ false → IsRightLine (line piece)
  unfolding line IsRightLine
  line_right piece feed = at (is_too_long piece) refl
    where
      at : (b : Bool) → is_too_long piece ≡ b → IsRightLine (cond b (Faulty Long) (line_within (without_return piece)))
      at true e = tt
      at false e = within_right (without_return piece) (can_be_read piece (fits_line (length piece) e) feed).no_feed

  lines_right : (pieces : List (List ℕ)) → list_all (λ piece. not (has_feed piece)) pieces ≡ true → AllByRecursion IsRightLine (map line pieces)
  lines_right [] h = tt
  lines_right (piece ∷ pieces) h =
      let both = and_parts (not (has_feed piece)) (list_all (λ piece. not (has_feed piece)) pieces) h in (line_right piece (not-true _ both.0), lines_right pieces both.1)

  over_right : (number : ℕ) (last : Option ℤ) (ending : Ending) (lines : List Line) → AllByRecursion IsRightLine lines → All IsProperEvent (trace_over number last ending lines).events
  unfolding trace_over IsRightLine
  over_right number last ending [] h = All-nil IsProperEvent
  over_right number last ending (Empty ∷ lines) h = over_right (number + 1) last ending lines h.1
  over_right number last ending (Faulty fault ∷ lines) h = All-nil IsProperEvent
  over_right number last ending (Accepted name start stop pairs ∷ lines) h = at (fallen last stop) (over_right (number + 1) (Some stop) ending lines h.1)
    where
      at : (o : Option Refusal) → All IsProperEvent (trace_over (number + 1) (Some stop) ending lines).events
          → All IsProperEvent (judged_event (record { number = number; name = name; start = start; stop = stop; pairs = pairs }) o (λ kept. trace_over (number + 1) kept ending lines)).events
      at None later =
          All-cons IsProperEvent (record { number = number; name = name; start = start; stop = stop; pairs = pairs }) (trace_over (number + 1) (Some stop) ending lines).events
          (record { name = h.0.4; start = h.0.0; stop = h.0.1; within = h.0.2; pairs = All-from_recursion (λ (pair : List ℕ × Value). IsProperValue pair.1) pairs h.0.3 })
          later
      at (Some refusal) later = All-nil IsProperEvent

  -- the pieces of a cut have no LF
  parts_without : (bytes : List ℕ) → list_all (λ piece. not (has_feed piece)) (cut_lemmas.parts_of bytes) ≡ true
  parts_without = parts_lack_mark (λ byte. eqb byte 10)

  last_kept : (test counts : List ℕ → Bool) (parts : List (List ℕ)) → list_all test parts ≡ true → list_all test (with_last counts parts) ≡ true
  unfolding with_last
  last_kept test counts [] h = refl
  last_kept test counts (part ∷ []) h = at (counts part)
    where
      at : (b : Bool) → list_all test (cond b (part ∷ []) []) ≡ true
      at true = h
      at false = refl
  last_kept test counts (part ∷ next ∷ parts) h =
      let both = and_parts (test part) (list_all test (next ∷ parts)) h in and_from _ _ both.0 (last_kept test counts (next ∷ parts) both.1)

  from_right : (ending : Ending) (pieces : List (List ℕ)) → list_all (λ piece. not (has_feed piece)) pieces ≡ true → All IsProperEvent (trace_over 1 None ending (map line pieces)).events
  from_right ending pieces h = over_right 1 None ending (map line pieces) (lines_right pieces h)

  pub trace_right : (bytes : List ℕ) → All IsProperEvent (trace bytes).events
  unfolding trace
  trace_right bytes = at (leb trace_limit (length bytes))
    where
      whole : list_all (λ piece. not (has_feed piece)) (cut bytes) ≡ true
      whole = last_kept (λ piece. not (has_feed piece)) (λ piece. not (is_empty piece)) (cut_lemmas.parts_of bytes) (parts_without bytes)

      first : list_all (λ piece. not (has_feed piece)) (cut_off (take trace_limit bytes)) ≡ true
      first = last_kept (λ piece. not (has_feed piece)) is_too_long (cut_lemmas.parts_of (take trace_limit bytes)) (parts_without (take trace_limit bytes))

      at : (b : Bool) → All IsProperEvent (cond b (trace_over 1 None TooLong (map line (cut_off (take trace_limit bytes)))) (trace_over 1 None Done (map line (cut bytes)))).events
      at true = from_right TooLong (cut_off (take trace_limit bytes)) first
      at false = from_right Done (cut bytes) whole
