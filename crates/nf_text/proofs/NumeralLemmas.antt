-- Numerals, and what std's reader of numbers says of them.
use Rattle.std.proofs.Common.{◌≡◌, ℕ, ◌^◌, ◌<◌, ◌≤◌, true, false, ◌&&◌, ◌||◌, List, [], ◌∷◌, length, drop, get_or, ltb, sym, ap, arith, rules, ℤ, pos, negsuc, tests, ◌⊎◌, inl, inr, Some, Result, Ok, Err, subst, ⊎_elim, ◌==◌, bytes_eq, codes}
use Rattle.std.specs.List.{list_all}
use Rattle.std.specs.Char.{is_ascii_digit}
use Rattle.std.specs.Result.{result_ok}
use Rattle.std.specs.Str.Parse.{digits_value, signed_digits_value, IsNumeral, without_leading_sign, without_leading_plus, starts_with_minus, ParsesSigned}
use Rattle.std.specs.Int.{w64}
use Rattle.std.specs.Int.RustNames.{FitsSigned}
use Rattle.std.proofs.Math.Nat.{pow-le-pow_right}
use borrow.Author.Tests.{eqb-true, ltb-true, ne_eqb, lt-ltb, le-leb}
use Rattle.std.proofs.lemmas.Bool.{and_parts, and_from, or_cases, false_from_ne_true}
use Rattle.std.proofs.lemmas.Slice.Eq.{bytes_eq-Decides}
use Rattle.nf_core.specs.Texts.{is_i64}
use Rattle.nf_text.specs.Value.{is_positive, is_numeral, whole_of}
use Rattle.nf_text.specs.Time.{is_time, time_of}
use Rattle.nf_lemmas.proofs.BoolLemmas.{choose_first}
use Rattle.nf_lemmas.proofs.DigitLemmas.{digits_model}

-- a number of at most 18 digits
pub within_digits : (n i : ℕ) → i ≤ 18 → n < 10 ^ i → n < 10 ^ 18
within_digits n i short below = let most : 10 ^ i ≤ 10 ^ 18 = pow-le-pow_right (omega arith) short in omega (arith, most, below)

-- a positive numeral is not empty, and begins above `0`
pub positive_digits : (ds : List ℕ) → is_positive ds ≡ true → (list_all is_ascii_digit ds ≡ true) × (48 < get_or ds 0 0)
positive_digits ds h = let p = and_parts (list_all is_ascii_digit ds) (ltb 48 (get_or ds 0 0)) h in (p.0, ltb-true 48 (get_or ds 0 0) p.1)

-- the three kinds of numerals
pub data Numeral : List ℕ → Type 0 where
  nought : Numeral (48 ∷ [])
  positive : {ds : List ℕ} → is_positive ds ≡ true → Numeral ds
  negative : {ds : List ℕ} → is_positive ds ≡ true → Numeral (45 ∷ ds)

pub numeral_kinds : (text : List ℕ) → is_numeral text ≡ true → Numeral text
numeral_kinds text h = kinds text (or_cases _ (get_or text 0 0 == 45 && is_positive (drop 1 text)) h)
  where
    nil_or : (text : List ℕ) → (get_or text 0 0 == 45) ≡ true → is_positive (drop 1 text) ≡ true → Numeral text
    nil_or [] e p = cc
    nil_or (b ∷ ds) e p = subst (λ c. Numeral (c ∷ ds)) (sym (eqb-true b 45 e)) (negative p)

    kinds : (text : List ℕ) → ((bytes_eq text (codes "0") || is_positive text) ≡ true) ⊎ ((get_or text 0 0 == 45 && is_positive (drop 1 text)) ≡ true) → Numeral text
    kinds text (inr h) = let p = and_parts (get_or text 0 0 == 45) (is_positive (drop 1 text)) h in nil_or text p.0 p.1
    kinds text (inl h) = ⊎_elim
        (λ e. subst Numeral (sym ((bytes_eq-Decides text (codes "0")).0 e)) nought)
        (λ e. positive e)
        (or_cases (bytes_eq text (codes "0")) (is_positive text) h)

-- a number is within i64 exactly where it fits 64 bits
pub within_fits : (n : ℤ) → FitsSigned w64 n → is_i64 n ≡ true
within_fits (pos n) h = search (rules, tests, h.sfits)
within_fits (negsuc n) h = search (rules, tests, h.sfits)

pub fits_within : (n : ℤ) → is_i64 n ≡ true → FitsSigned w64 n
fits_within (pos n) h = record { sfits = search (rules, tests) }
fits_within (negsuc n) h = record { sfits = search (rules, tests) }

-- a list that begins above `0` is not empty, and has no sign
pub nonempty : (ds : List ℕ) → 48 < get_or ds 0 0 → 0 < length ds
nonempty [] h = absurd (omega arith)
nonempty (d ∷ ds) h = omega arith

pub no_minus : (ds : List ℕ) → 48 < get_or ds 0 0 → starts_with_minus ds ≡ false
no_minus ds h = ne_eqb (get_or ds 0 0) 45 (λ e. omega arith)

pub no_plus : (ds : List ℕ) → 48 < get_or ds 0 0 → without_leading_plus ds ≡ ds
no_plus ds h = let e = ne_eqb (get_or ds 0 0) 43 (λ e. omega arith) in rw e

no_sign : (ds : List ℕ) → 48 < get_or ds 0 0 → without_leading_sign ds ≡ ds
no_sign ds h = rw (no_minus ds h) (no_plus ds h)

-- std reads each numeral
pub numeral_read : (text : List ℕ) → Numeral text → IsNumeral 10 (without_leading_sign text)
numeral_read _ nought = (omega arith, (omega arith, tt))
numeral_read _ (positive {ds} p) =
    let h = positive_digits ds p in rw (no_sign ds h.1) (nonempty ds h.1, digits_model.to ds h.0)
numeral_read _ (negative {ds} p) =
    let h = positive_digits ds p in (nonempty ds h.1, digits_model.to ds h.0)

-- what std reads of a numeral is its whole number, or none past i64
pub whole_read : {E : Type 0} (text : List ℕ) (r : Result ℤ E) → is_numeral text ≡ true → ParsesSigned w64 10 text r → result_ok r ≡ whole_of text
unfolding whole_of
whole_read text (Ok n) h p =
    let w = within_fits (signed_digits_value 10 text) p.0.1 in rw (h, w) (ap Some p.1)
whole_read text (Err e) h p =
    let k = numeral_read text (numeral_kinds text h) in
    let w = false_from_ne_true (is_i64 (signed_digits_value 10 text)) (λ q. p (k, fits_within (signed_digits_value 10 text) q)) in rw (h, w)

-- a time is the value of its digits
pub time_is : (text : List ℕ) → list_all is_ascii_digit text ≡ true → 0 < length text → length text ≤ 19 → digits_value 10 text < 2 ^ 63 → time_of text ≡ Some (pos (digits_value 10 text))
unfolding time_of
time_is text h n l v =
    choose_first (is_time text) _ _
    (and_from _ _ (and_from _ _ (and_from _ _ h (le-leb 1 (length text) n)) (le-leb (length text) 19 l)) (lt-ltb (digits_value 10 text) (2 ^ 63) v))
