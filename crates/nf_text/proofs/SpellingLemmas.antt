-- Numbers and their canonical decimals, and what else texts spell.
use Rattle.std.proofs.Common.{◌≡◌, ℕ, zero, suc, ◌^◌, ◌<◌, Bool, true, false, ◌&&◌, ◌||◌, cond, List, ◌∷◌, get_or, refl, sym, ap, ◌∙◌, subst, arith, ℤ, pos, negsuc, neg_ℤ, ⊎_elim, Some, None, Option, decimal, bytes_eq, codes}
use Rattle.std.specs.Fmt.{signed_decimal}
use Rattle.std.specs.Option.{option_map_or}
use Rattle.std.specs.Str.Parse.{digits_value, signed_digits_value}
use Rattle.std.specs.Int.{w64}
use Rattle.std.specs.Int.RustNames.{FitsSigned}
use Rattle.std.proofs.lemmas.Fmt.{decimal-digits_value, decimal_digit, digits_decimal, digits_value-decimal, first_decimal}
use Rattle.std.proofs.lemmas.Bool.{and_parts, and_from, or_cases, or_left, or_right, false_from_ne_true, cases_lt}
use Rattle.std.proofs.lemmas.Slice.Eq.{bytes_eq-Decides}
use borrow.Author.Tests.{lt-ltb}
use Rattle.nf_core.specs.Texts.{is_i64}
use Rattle.nf_text.specs.Value.{Spelling, Truth, Whole, Words, is_positive, is_numeral, is_truth, whole_of, spelling_of, is_words, is_plain}
use Rattle.nf_text.proofs.NumeralLemmas.{Numeral, nought, positive, negative, positive_digits, no_minus, no_plus, nonempty, numeral_kinds, within_fits, fits_within}
use Rattle.nf_lemmas.proofs.DigitLemmas.{digits_model}

-- the value of digits without a sign
unsigned_value : (ds : List ℕ) → 48 < get_or ds 0 0 → signed_digits_value 10 ds ≡ pos (digits_value 10 ds)
unsigned_value ds h = rw (no_minus ds h, no_plus ds h)

-- digits without a leading zero are the decimal of their value
same_digits : (ds : List ℕ) → is_positive ds ≡ true → digits_value 10 ds < 2 ^ 64 → decimal (digits_value 10 ds) ≡ ds
same_digits ds p v =
    let h = positive_digits ds p in
    decimal-digits_value digits_model ds h.0 (nonempty ds h.1) (λ e. absurd (omega arith)) v

-- and their value is not 0
positive_value : (ds : List ℕ) → is_positive ds ≡ true → 0 < digits_value 10 ds
positive_value ds p = ⊎_elim (λ h. h) (λ h.
    let zero_value : digits_value 10 ds ≡ 0 = omega arith in
    let e = same_digits ds p (omega arith) in
    let first = ap (λ xs. get_or xs 0 0) (sym (decimal_digit 0 (omega arith)) ∙ sym (ap decimal zero_value) ∙ e) in
    absurd (omega (arith, (positive_digits ds p).1))) (cases_lt 0 (digits_value 10 ds))

negative_decimal : (d : ℕ) → 0 < d → signed_decimal (neg_ℤ (pos d)) ≡ 45 ∷ decimal d
negative_decimal zero h = absurd (omega arith)
negative_decimal (suc d) h = refl

negative_fits : (d : ℕ) → FitsSigned w64 (neg_ℤ (pos d)) → d < 2 ^ 64
negative_fits zero h = omega arith
negative_fits (suc d) h = omega (arith, h.sfits)

-- a numeral within i64 is the canonical decimal of its value
canonical_numeral : (text : List ℕ) → Numeral text → FitsSigned w64 (signed_digits_value 10 text) → text ≡ signed_decimal (signed_digits_value 10 text)
canonical_numeral _ nought w = sym (decimal_digit 0 (omega arith))
canonical_numeral _ (positive {ds} p) w =
    let e = unsigned_value ds (positive_digits ds p).1 in
    let fits = subst (FitsSigned w64) e w in
    sym (ap signed_decimal e ∙ same_digits ds p (omega (arith, fits.sfits)))
canonical_numeral _ (negative {ds} p) w =
    sym (negative_decimal (digits_value 10 ds) (positive_value ds p) ∙ ap {B = List ℕ} (λ xs. 45 ∷ xs) (same_digits ds p (negative_fits (digits_value 10 ds) w)))

-- the decimal of a number above 0 has no leading zero
printed_positive : (n : ℕ) → 0 < n → n < 2 ^ 64 → is_positive (decimal n) ≡ true
printed_positive n h l = and_from _ _ (digits_decimal digits_model n l) (lt-ltb 48 (get_or (decimal n) 0 0) (first_decimal n h l))

-- a printed number is a numeral of its value
pub record IsPrinted (text : List ℕ) (n : ℤ) : Type 0 where
  pub numeral : is_numeral text ≡ true
  pub value : signed_digits_value 10 text ≡ n

printed : (n : ℤ) → FitsSigned w64 n → IsPrinted (signed_decimal n) n
printed (pos zero) h = subst (λ t. IsPrinted t (pos 0)) (sym (decimal_digit 0 (omega arith))) (record { numeral = refl; value = refl })
printed (pos (suc n)) h =
    let l : suc n < 2 ^ 64 = omega (arith, h.sfits) in
    let p = printed_positive (suc n) (omega arith) l in
    record {
      numeral = or_left _ _ (or_right _ _ p);
      value = unsigned_value (decimal (suc n)) (positive_digits (decimal (suc n)) p).1 ∙ ap pos (digits_value-decimal digits_model (suc n) l);
    }
printed (negsuc n) h =
    let l : suc n < 2 ^ 64 = omega (arith, h.sfits) in
    let p = printed_positive (suc n) (omega arith) l in
    record {
      numeral = or_right (bytes_eq (45 ∷ decimal (suc n)) (codes "0") || is_positive (45 ∷ decimal (suc n))) _ p;
      value = ap (λ d. neg_ℤ (pos d)) (digits_value-decimal digits_model (suc n) l);
    }

-- a whole number is a numeral of its value within i64
whole_parts : (a w : Bool) (v n : ℤ) → cond (a && w) (Some v) None ≡ Some n → (a ≡ true) × (w ≡ true) × (v ≡ n)
whole_parts true true v n e = (refl, refl, cc)
whole_parts true false v n e = absurd cc
whole_parts false w v n e = absurd cc

pub whole_canonical : (text : List ℕ) (n : ℤ) → whole_of text ≡ Some n → (text ≡ signed_decimal n) × FitsSigned w64 n
unfolding whole_of
whole_canonical text n e =
    let p = whole_parts (is_numeral text) (is_i64 (signed_digits_value 10 text)) (signed_digits_value 10 text) n e in
    let fits = fits_within (signed_digits_value 10 text) p.1 in
    (subst (λ v. text ≡ signed_decimal v) p.2 (canonical_numeral text (numeral_kinds text p.0) fits), subst (FitsSigned w64) p.2 fits)

pub whole_printed : (n : ℤ) → FitsSigned w64 n → whole_of (signed_decimal n) ≡ Some n
unfolding whole_of
whole_printed n h =
    let p = printed n h in
    let w = ap is_i64 p.value ∙ within_fits n h in
    rw (p.numeral, w) (ap Some p.value)

-- a truth value is no whole number
pub truth_apart : (text : List ℕ) → is_truth text ≡ true → whole_of text ≡ None
unfolding whole_of
truth_apart text h = ⊎_elim
    (λ e. subst (λ t. whole_of t ≡ None) (sym ((bytes_eq-Decides text (codes "true")).0 e)) refl)
    (λ e. subst (λ t. whole_of t ≡ None) (sym ((bytes_eq-Decides text (codes "false")).0 e)) refl)
    (or_cases (bytes_eq text (codes "true")) (bytes_eq text (codes "false")) h)

module _ (text : List ℕ) where
  -- the choice that a spelling is
  chosen : Bool → Bool → Option ℤ → Spelling
  chosen b t o = cond b (Truth t) (option_map_or Whole o (Words text))

  whole_chosen : (b t : Bool) (o : Option ℤ) (n : ℤ) → chosen b t o ≡ Whole n → o ≡ Some n
  unfolding chosen
  whole_chosen true t o n e = absurd cc
  whole_chosen false t None n e = absurd cc
  whole_chosen false t (Some m) n e = cc

  truth_chosen : (b t : Bool) (o : Option ℤ) (v : Bool) → chosen b t o ≡ Truth v → (b ≡ true) × (t ≡ v)
  unfolding chosen
  truth_chosen true t o v e = (refl, cc)
  truth_chosen false t None v e = absurd cc
  truth_chosen false t (Some m) v e = absurd cc

  words_chosen : (b t : Bool) (o : Option ℤ) (given : List ℕ) → chosen b t o ≡ Words given → given ≡ text
  unfolding chosen
  words_chosen true t o given e = absurd cc
  words_chosen false t None given e = cc
  words_chosen false t (Some m) given e = absurd cc

pub spelled_whole : (text : List ℕ) (n : ℤ) → spelling_of text ≡ Whole n → whole_of text ≡ Some n
unfolding spelling_of chosen
spelled_whole text n e = whole_chosen text (is_truth text) (bytes_eq text (codes "true")) (whole_of text) n e

pub spelled_truth : (text : List ℕ) (v : Bool) → spelling_of text ≡ Truth v → (is_truth text ≡ true) × (bytes_eq text (codes "true") ≡ v)
unfolding spelling_of chosen
spelled_truth text v e = truth_chosen text (is_truth text) (bytes_eq text (codes "true")) (whole_of text) v e

pub spelled_words : (text given : List ℕ) → spelling_of text ≡ Words given → given ≡ text
unfolding spelling_of chosen
spelled_words text given e = words_chosen text (is_truth text) (bytes_eq text (codes "true")) (whole_of text) given e

pub printed_spelling : (n : ℤ) → FitsSigned w64 n → spelling_of (signed_decimal n) ≡ Whole n
unfolding spelling_of
printed_spelling n h =
    let whole = whole_printed n h in
    let no_truth = false_from_ne_true (is_truth (signed_decimal n)) (λ t. let none = truth_apart (signed_decimal n) t in cc) in
    rw (no_truth, whole)

pub spelled_false : (text : List ℕ) → spelling_of text ≡ Truth false → text ≡ codes "false"
spelled_false text e =
    let p = spelled_truth text false e in
    ⊎_elim (λ t. absurd cc) (λ f. (bytes_eq-Decides text (codes "false")).0 f)
    (or_cases (bytes_eq text (codes "true")) (bytes_eq text (codes "false")) p.0)

-- a spelling that is just bytes is those of the text
just_words : (text : List ℕ) (given : Spelling) → spelling_of text ≡ given → is_words given ≡ true → given ≡ Words text
just_words text (Truth b) e w = absurd cc
just_words text (Whole n) e w = absurd cc
just_words text (Words given) e w = ap Words (spelled_words text given e)

pub plain_words : (text : List ℕ) → is_plain text ≡ true → spelling_of text ≡ Words text
unfolding is_plain
plain_words text h = just_words text (spelling_of text) refl (and_parts _ (is_words (spelling_of text)) h).1
