-- The word that gives the number of lines, against what std reads of it.
use Rattle.std.proofs.Common.{◌≡◌, ℕ, suc, ◌<◌, ◌≤◌, Bool, true, false, ◌&&◌, List, refl, sym, ◌∙◌, ap, subst, arith, Option, Some, None, Result, Ok, Err}
use Rattle.std.specs.Prelude.{bytes_eq, decimal, nat_lt, if◌then◌else◌, ◌^◌}
use Rattle.std.specs.Result.{result_ok}
use Rattle.std.specs.Str.Parse.{ParsesUnsigned, digits_value}
use Rattle.std.proofs.lemmas.Bool.{lt-ltb, ltb-true}
use Rattle.std.proofs.lemmas.Fmt.{decimal_is_IsNumeral, parse-decimal}
use Rattle.std.proofs.lemmas.Slice.Eq.{bytes_eq-Decides}
use Rattle.nf_lemmas.proofs.BoolLemmas.{both}
use Rattle.nfer_cli.specs.Words.{most_drill_lines}
use Rattle.nfer_cli.specs.inner.Commands.{count_of, is_count_word}

-- the limit as a number
pub most_is : most_drill_lines ≡ 1000000
most_is = refl

-- a word is the decimal of a number within the limits
pub record IsCount (word : List ℕ) (lines : ℕ) : Type 0 where
  pub some : 1 ≤ lines
  pub few : lines ≤ most_drill_lines
  pub spelled : word ≡ decimal lines

pub count_word : (word : List ℕ) (lines : ℕ) → is_count_word word lines ≡ true → IsCount word lines
count_word word lines is =
    let parts = both (nat_lt 0 lines && nat_lt lines (suc most_drill_lines)) (bytes_eq (decimal lines) word) is in
    let within = both (nat_lt 0 lines) (nat_lt lines (suc most_drill_lines)) parts.0 in
    record {
      some = omega (arith, ltb-true 0 lines within.0);
      few = omega (arith, ltb-true lines (suc most_drill_lines) within.1);
      spelled = sym ((bytes_eq-Decides (decimal lines) word).0 parts.1);
    }

pub count_is : (word : List ℕ) (lines : ℕ) → IsCount word lines → is_count_word word lines ≡ true
count_is word lines is =
    let some : nat_lt 0 lines ≡ true = lt-ltb 0 lines (omega (arith, is.some)) in
    let few : nat_lt lines (suc most_drill_lines) ≡ true = lt-ltb lines (suc most_drill_lines) (omega (arith, is.few)) in
    let same : bytes_eq (decimal lines) word ≡ true = (bytes_eq-Decides (decimal lines) word).1 (sym is.spelled) in
    rw (some, few, same) refl

-- the digits of a decimal stand for its number
value_of : (word : List ℕ) (lines : ℕ) → IsCount word lines → digits_value 10 word ≡ lines
value_of word lines is = ap (digits_value 10) is.spelled ∙ (decimal_is_IsNumeral lines (omega (arith, is.few, most_is))).1

chosen : (b : Bool) (lines n : ℕ) → (if b then Some lines else None) ≡ Some n → (b ≡ true) × (lines ≡ n)
chosen true lines n is = (refl, cc)
chosen false lines n is = absurd cc

-- a word gives the number that it is the decimal of
pub count_read : (word : List ℕ) (lines : ℕ) → IsCount word lines → count_of word ≡ Some lines
count_read word lines is =
    let value = value_of word lines is in
    let word_is : is_count_word word (digits_value 10 word) ≡ true = subst (λ n. is_count_word word n ≡ true) (sym value) (count_is word lines is) in
    let read : count_of word ≡ Some (digits_value 10 word) = rw word_is refl in
    read ∙ ap Some value

pub count_back : (word : List ℕ) (lines : ℕ) → count_of word ≡ Some lines → IsCount word lines
count_back word lines is =
    let found = chosen (is_count_word word (digits_value 10 word)) (digits_value 10 word) lines is in
    subst (λ n. IsCount word n) found.1 (count_word word (digits_value 10 word) found.0)

-- and std reads that number of it
count_parsed : {E : Type 0} (word : List ℕ) (lines : ℕ) (read : Result ℕ E) → ParsesUnsigned 32 10 word read → IsCount word lines → read ≡ Ok lines
count_parsed word lines read parses is =
    parse-decimal 32 lines word read (omega (arith, is.few, most_is)) (omega (arith, is.few, most_is)) is.spelled parses

-- a word gives none where std reads none of it, or one that it isn't the decimal of
pub count_none : {E : Type 0} (word : List ℕ) (read : Result ℕ E) → ParsesUnsigned 32 10 word read → ((lines : ℕ) → result_ok read ≡ Some lines → IsCount word lines → ⊥) → count_of word ≡ None
count_none word read parses never = by (count_of word) refl
  where
    by : (found : Option ℕ) → count_of word ≡ found → found ≡ None
    by None is = refl
    by (Some lines) is = let count = count_back word lines is in absurd (never lines (ap result_ok (count_parsed word lines read parses count)) count)
