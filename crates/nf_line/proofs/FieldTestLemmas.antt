-- The tests of a line's fields.
use Rattle.std.proofs.Common.{◌≡◌, ℕ, ◌+◌, Bool, true, false, cond, not, List, [], length, refl, sym, ◌∙◌, eqb, arith, ℤ, pos, Some, None, ⊎_elim}
use Rattle.std.specs.List.{list_any, count_by}
use Rattle.std.specs.Option.{ok_or}
use Rattle.std.specs.Result.{IfOk}
use Rattle.std.specs.Str.{IsUtf8, is_utf8}
use Rattle.std.specs.Str.Parse.{digits_value}
use Rattle.std.proofs.lemmas.Str.{IsUtf8-from_is_utf8, is_utf8-from_IsUtf8}
use Rattle.std.proofs.lemmas.Bool.{and_from, and_left, not_from_false, false_from_ne_true, cases_eq, eq-eqb, ne_eqb}
use Rattle.std.proofs.lemmas.List.Splits.{length-slice_split}
use Rattle.nf_text.specs.Time.{is_time, time_of}
use Rattle.nf_text.specs.Fields.{fields_of}
use Rattle.nf_line.specs.Line.{is_text, keys_in, values_in, time_in}
use Rattle.nf_line.specs.inner.Stages.{Tests}
use Rattle.nf_line.specs.declared.fault.LineFault.TheVariants as fault

-- UTF-8 without CR is text
pub text_tested : (line : List ℕ) → list_any (λ byte. eqb byte 13) line ≡ false → IsUtf8 line → is_text line ≡ true
text_tested line h u = and_from (is_utf8 line) _ (is_utf8-from_IsUtf8 line u) (not_from_false _ h)

-- bytes that aren't UTF-8 are none
pub no_text_tested : (line : List ℕ) → (IsUtf8 line → ⊥) → is_text line ≡ false
no_text_tested line h = and_left (is_utf8 line) _ (false_from_ne_true (is_utf8 line) (λ e. h (IsUtf8-from_is_utf8 line e)))

-- the test of a time
tested : (b : Bool) (time : ℤ) → Tests fault.Time (not b) (ok_or (cond b (Some time) None) fault.Time)
tested true time = refl
tested false time = (refl, refl)

pub time_tested : (text : List ℕ) → Tests fault.Time (not (is_time text)) (ok_or (time_of text) fault.Time)
unfolding time_of
time_tested text = tested (is_time text) (pos (digits_value 10 text))

read : (b : Bool) (time : ℤ) → IfOk (ok_or (cond b (Some time) None) fault.Time) (λ found. found ≡ time)
read true time = refl
read false time = record {}

pub time_read : (text : List ℕ) → IfOk (ok_or (time_of text) fault.Time) (λ found. found ≡ time_in text)
unfolding time_of
time_read text = read (is_time text) (pos (digits_value 10 text))

-- one more on both sides
next_eqb : (a b : ℕ) → eqb a b ≡ eqb (a + 1) (b + 1)
next_eqb a b = ⊎_elim
    (λ e. eq-eqb a b e ∙ sym (eq-eqb (a + 1) (b + 1) (omega arith)))
    (λ n. ne_eqb a b n ∙ sym (ne_eqb (a + 1) (b + 1) (λ e. n (omega arith))))
    (cases_eq a b)

parts : (text : List ℕ) → length (fields_of 59 text) ≡ count_by (λ byte. eqb byte 59) text + 1
parts text = length-slice_split (λ byte. eqb byte 59) text

-- without keys there are as many values where there are none
pub no_keys : (keys values : List ℕ) → eqb (length keys) 0 ≡ true → eqb (length values) 0 ≡ eqb (length (values_in keys values)) (length (keys_in keys))
no_keys keys values h = rw h (chosen (eqb (length values) 0))
  where
    chosen : (none : Bool) → none ≡ eqb (length (cond none [] (fields_of 59 values))) 0
    chosen true = refl
    chosen false = sym (ne_eqb (length (fields_of 59 values)) 0 (λ e. absurd (omega (arith, parts values))))

-- with keys there is one more of either than there are marks
pub some_keys : (keys values : List ℕ) → eqb (length keys) 0 ≡ false
    → eqb (count_by (λ byte. eqb byte 59) values) (count_by (λ byte. eqb byte 59) keys) ≡ eqb (length (values_in keys values)) (length (keys_in keys))
some_keys keys values h = rw (h, parts keys, parts values) (next_eqb _ _)
