-- The bytes of names, numbers and values are plain.
use Rattle.std.proofs.Common.{◌≡◌, ℕ, suc, ◌<◌, ◌^◌, ℤ, pos, negsuc, Bool, true, false, ◌||◌, List, [], ◌∷◌, codes, refl, sym, ap, subst, arith, rules, tests}
use Rattle.std.specs.Prelude.{Some}
use Rattle.std.specs.List.{list_all, AllByRecursion}
use Rattle.std.specs.Char.{is_ascii_digit}
use Rattle.std.specs.Fmt.{decimal, signed_decimal}
use Rattle.std.proofs.lemmas.Bool.Decides.{nat_tests}
use Rattle.std.proofs.lemmas.Bool.{and_parts}
use Rattle.std.proofs.lemmas.Fmt.{digits_decimal, signed_decimal_injective}
use Rattle.std.proofs.lemmas.List.Elements.{recursion_from_All}
use lib.Signed.{mag}
use Rattle.nf_core.specs.Texts.{IsI64, IsPlainByte, IsPlain}
use Rattle.nf_core.specs.Identifiers.{is_letter, is_digit, has_name_form, is_identifier}
use Rattle.nf_core.specs.declared.values.Value.{Value}
use Rattle.nf_core.specs.declared.values.Value.TheVariants as v
use Rattle.nf_model.specs.ProperRows.{IsProperCell}
use Rattle.nf_announce.specs.Announcements.{text_of_value}
use Rattle.nf_lemmas.proofs.BoolLemmas.{both}
use Rattle.nf_announce.proofs.Public.DistinctItemLemmas.{each_weaker}
use Rattle.nf_lemmas.proofs.DigitLemmas.{digits_model}

-- a text whose bytes are plain
abbrev pub HasPlainBytes : List ℕ → Type 0
HasPlainBytes text = AllByRecursion IsPlainByte text

-- a text whose bytes are ASCII
abbrev pub HasAsciiBytes : List ℕ → Type 0
HasAsciiBytes text = AllByRecursion (λ byte. byte < 128) text

-- a text that isn't empty
abbrev pub IsFilled : List ℕ → Type 0
IsFilled [] = ⊥
IsFilled (byte ∷ text) = Unit {0}

-- a byte of a numeral: `-` or a digit
record IsNumeralByte (byte : ℕ) : Type 0 where
  low : 44 < byte
  high : byte < 58

digit_byte : (byte : ℕ) → is_ascii_digit byte ≡ true → IsNumeralByte byte
digit_byte byte h = record { low = grind (arith, nat_tests); high = grind (arith, nat_tests) }

digit_bytes : (text : List ℕ) → list_all is_ascii_digit text ≡ true → AllByRecursion IsNumeralByte text
digit_bytes [] h = tt
digit_bytes (byte ∷ text) h = let parts = and_parts (is_ascii_digit byte) (list_all is_ascii_digit text) h in (digit_byte byte parts.0, digit_bytes text parts.1)

pub small : (n : ℤ) → IsI64 n → mag n < 2 ^ 63
small (pos n) h = search (rules, tests, h.high)
small (negsuc n) h = search (rules, tests, h.low)

numeral_bytes : (n : ℤ) → IsI64 n → AllByRecursion IsNumeralByte (signed_decimal n)
numeral_bytes (pos n) h = let e = small (pos n) h in digit_bytes (decimal n) (digits_decimal digits_model n (omega arith))
numeral_bytes (negsuc n) h = let e = small (negsuc n) h in (record { low = omega arith; high = omega arith }, digit_bytes (decimal (suc n)) (digits_decimal digits_model (suc n) (omega arith)))

numeral_plain : (byte : ℕ) → IsNumeralByte byte → IsPlainByte byte
numeral_plain byte h = record { no_bar = λ e. omega (arith, h.high); no_semicolon = λ e. omega (arith, h.high); no_return = λ e. omega (arith, h.low); no_feed = λ e. omega (arith, h.low) }

-- a number's decimal
pub number_plain : (n : ℤ) → IsI64 n → HasPlainBytes (signed_decimal n)
number_plain n h = each_weaker IsNumeralByte IsPlainByte numeral_plain (signed_decimal n) (numeral_bytes n h)

pub numeral_ascii : (n : ℤ) → IsI64 n → HasAsciiBytes (signed_decimal n)
numeral_ascii n h = each_weaker IsNumeralByte (λ byte. byte < 128) (λ byte k. omega (arith, k.high)) (signed_decimal n) (numeral_bytes n h)

-- a name
name_byte : (byte : ℕ) → (is_letter byte || is_digit byte) ≡ true → IsPlainByte byte
name_byte byte h = record {
  no_bar = λ e. let s : false ≡ true = subst (λ b. (is_letter b || is_digit b) ≡ true) e h in absurd cc;
  no_semicolon = λ e. let s : false ≡ true = subst (λ b. (is_letter b || is_digit b) ≡ true) e h in absurd cc;
  no_return = λ e. let s : false ≡ true = subst (λ b. (is_letter b || is_digit b) ≡ true) e h in absurd cc;
  no_feed = λ e. let s : false ≡ true = subst (λ b. (is_letter b || is_digit b) ≡ true) e h in absurd cc;
}

ascii_byte : (byte : ℕ) → (is_letter byte || is_digit byte) ≡ true → byte < 128
ascii_byte byte h = grind (arith, nat_tests)

ascii_bytes : (text : List ℕ) → list_all (λ b. is_letter b || is_digit b) text ≡ true → HasAsciiBytes text
ascii_bytes [] h = tt
ascii_bytes (byte ∷ text) h = let parts = both (is_letter byte || is_digit byte) (list_all (λ b. is_letter b || is_digit b) text) h in (ascii_byte byte parts.0, ascii_bytes text parts.1)

or_true : (a b : Bool) → a ≡ true → (a || b) ≡ true
or_true true b h = refl
or_true false b h = absurd cc

name_bytes : (text : List ℕ) → list_all (λ b. is_letter b || is_digit b) text ≡ true → HasPlainBytes text
name_bytes [] h = tt
name_bytes (byte ∷ text) h = let parts = both (is_letter byte || is_digit byte) (list_all (λ b. is_letter b || is_digit b) text) h in (name_byte byte parts.0, name_bytes text parts.1)

-- an identifier isn't empty, and its bytes are plain and ASCII
pub record IsName (text : List ℕ) : Type 0 where
  pub plain : HasPlainBytes text
  pub ascii : HasAsciiBytes text
  pub filled : IsFilled text

form_name : (text : List ℕ) → has_name_form text ≡ true → IsName text
unfolding has_name_form
form_name [] h = absurd cc
form_name (byte ∷ text) h =
    let parts = both (is_letter byte) (list_all (λ b. is_letter b || is_digit b) text) h in
    let first = or_true (is_letter byte) (is_digit byte) parts.0 in
    record { plain = (name_byte byte first, name_bytes text parts.1); ascii = (ascii_byte byte first, ascii_bytes text parts.1); filled = tt }

pub identifier_name : (text : List ℕ) → is_identifier text ≡ true → IsName text
unfolding is_identifier
identifier_name text h = form_name text (both (has_name_form text) _ h).0

-- a value's text
pub value_plain : (x : Value) → IsProperCell (Some x) → HasPlainBytes (text_of_value x)
value_plain (v.Bool true) h = recursion_from_All IsPlainByte (codes "true") (λ k d within. search rules)
value_plain (v.Bool false) h = recursion_from_All IsPlainByte (codes "false") (λ k d within. search rules)
value_plain (v.Int n) h = number_plain n h
value_plain (v.Text text) h = recursion_from_All IsPlainByte text h.bytes

low_first : (text : List ℕ) (n : ℤ) → IsI64 n → text ≡ signed_decimal n → AllByRecursion IsNumeralByte text
low_first text n h e = subst (AllByRecursion IsNumeralByte) (sym e) (numeral_bytes n h)

no_number : (b : Bool) (n : ℤ) → IsI64 n → text_of_value (v.Bool b) ≡ signed_decimal n → ⊥
no_number true n h e = let first = (low_first (codes "true") n h e).0 in omega (arith, first.high)
no_number false n h e = let first = (low_first (codes "false") n h e).0 in omega (arith, first.high)

no_word : (b : Bool) (text : List ℕ) → IsPlain text → text ≡ text_of_value (v.Bool b) → ⊥
no_word true text h e = h.no_true e
no_word false text h e = h.no_false e

first_byte : List ℕ → ℕ
first_byte [] = 0
first_byte (byte ∷ text) = byte

first_apart : (m n : ℕ) → m ≡ 116 → n ≡ 102 → m ≡ n → ⊥
first_apart m n h k e = omega arith

one_word : (a b : Bool) → text_of_value (v.Bool a) ≡ text_of_value (v.Bool b) → a ≡ b
unfolding first_byte
one_word true true e = refl
one_word true false e = absurd (first_apart 116 102 refl refl (ap first_byte e))
one_word false true e = absurd (first_apart 116 102 refl refl (sym (ap first_byte e)))
one_word false false e = refl

-- and it gives back the value
pub value_back : (x y : Value) → IsProperCell (Some x) → IsProperCell (Some y) → text_of_value x ≡ text_of_value y → x ≡ y
value_back (v.Bool a) (v.Bool b) h k e = ap v.Bool (one_word a b e)
value_back (v.Bool a) (v.Int n) h k e = absurd (no_number a n k e)
value_back (v.Bool a) (v.Text t) h k e = absurd (no_word a t k (sym e))
value_back (v.Int m) (v.Bool b) h k e = absurd (no_number b m h (sym e))
value_back (v.Int m) (v.Int n) h k e = ap v.Int (signed_decimal_injective m n (small m h) (small n k) e)
value_back (v.Int m) (v.Text t) h k e = absurd (k.no_number m h (sym e))
value_back (v.Text s) (v.Bool b) h k e = absurd (no_word b s h e)
value_back (v.Text s) (v.Int n) h k e = absurd (h.no_number n k e)
value_back (v.Text s) (v.Text t) h k e = ap v.Text e
