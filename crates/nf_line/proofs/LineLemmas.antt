-- A line by its faults, one after the other.
use Rattle.std.proofs.Common.{◌≡◌, ◌≢◌, ℕ, true, false, not, ◌&&◌, List, [], ◌∷◌, length, Option, Some, None, refl, ◌∙◌, eqb, int_lt, arith}
use Rattle.std.specs.List.{list_any}
use Rattle.std.proofs.lemmas.Bool.{ne_eqb, not-true, not-false}
use Rattle.nf_text.specs.Fields.{fields_of}
use Rattle.nf_text.specs.Time.{is_time}
use Rattle.nf_line.specs.Lines.{is_empty}
use Rattle.nf_line.specs.Line.{Parts, parts_of, line_within, is_text, time_in, keys_in, values_in, accepted, formed, Faulty, NotText, Fields, Time, Span, Key, Counts}
use Rattle.nf_line.specs.inner.FieldTexts.{lacks_fields}

some_bytes : (line : List ℕ) → line ≢ [] → is_empty line ≡ false
some_bytes [] h = absurd (h refl)
some_bytes (byte ∷ line) h = ne_eqb (length (byte ∷ line)) 0 (λ e. absurd (omega arith))

module _ (line : List ℕ) (some : line ≢ []) where
  pub not_text_read : not (is_text line) ≡ true → line_within line ≡ Faulty NotText
  unfolding line_within
  not_text_read a = rw (some_bytes line some, not-true _ a) refl

  -- a line that is text is what its parts make it
  by_parts : (parts : Option Parts) → not (is_text line) ≡ false → parts_of (fields_of 124 line) ≡ parts → line_within line ≡ formed parts
  unfolding line_within
  by_parts parts a is = rw (some_bytes line some, not-false _ a, is) refl

  none_formed : (parts : Option Parts) → lacks_fields parts ≡ true → formed parts ≡ Faulty Fields
  none_formed None b = refl
  none_formed (Some parts) b = rw b refl

  pub fields_read : not (is_text line) ≡ false → lacks_fields (parts_of (fields_of 124 line)) ≡ true → line_within line ≡ Faulty Fields
  fields_read a b = by_parts (parts_of (fields_of 124 line)) a refl ∙ none_formed (parts_of (fields_of 124 line)) b

  module _ (name start stop keys values : List ℕ) (a : not (is_text line) ≡ false)
      (is : parts_of (fields_of 124 line) ≡ Some (record { name = name; start = start; stop = stop; keys = keys; values = values }))
      (b : lacks_fields (parts_of (fields_of 124 line)) ≡ false) where
    abbrev parts : Parts
    parts = record { name = name; start = start; stop = stop; keys = keys; values = values }

    named : is_empty name ≡ false
    named = rw is at b

    pub time_read : not (is_time start && is_time stop) ≡ true → line_within line ≡ Faulty Time
    time_read c = by_parts (Some parts) a is ∙ rw (named, c) refl

    pub span_read : not (is_time start && is_time stop) ≡ false → int_lt (time_in stop) (time_in start) ≡ true → line_within line ≡ Faulty Span
    span_read c s = by_parts (Some parts) a is ∙ rw (named, c, s) refl

    pub key_read : not (is_time start && is_time stop) ≡ false → int_lt (time_in stop) (time_in start) ≡ false → list_any is_empty (keys_in keys) ≡ true → line_within line ≡ Faulty Key
    key_read c s d = by_parts (Some parts) a is ∙ rw (named, c, s, d) refl

    pub counts_read : not (is_time start && is_time stop) ≡ false → int_lt (time_in stop) (time_in start) ≡ false → list_any is_empty (keys_in keys) ≡ false
        → not (eqb (length (values_in keys values)) (length (keys_in keys))) ≡ true → line_within line ≡ Faulty Counts
    counts_read c s d e = by_parts (Some parts) a is ∙ rw (named, c, s, d, e) refl

    pub accepted_read : not (is_time start && is_time stop) ≡ false → int_lt (time_in stop) (time_in start) ≡ false → list_any is_empty (keys_in keys) ≡ false
        → not (eqb (length (values_in keys values)) (length (keys_in keys))) ≡ false → line_within line ≡ accepted parts
    accepted_read c s d e = by_parts (Some parts) a is ∙ rw (named, c, s, d, e) refl

-- a line by the first of its tests that fails, or by all of them
pub ruleset reading = (not_text_read, fields_read, time_read, span_read, key_read, counts_read, accepted_read)
