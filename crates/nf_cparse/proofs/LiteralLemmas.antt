-- The digits of literals.
use Rattle.std.proofs.Common.{◌≡◌, ℕ, ◌^◌, ◌<◌, true, ltb, List, length, sym, Ok, Err, Result, ℤ, pos, is_ok, IsUtf8}
use Rattle.std.specs.List.{list_all}
use Rattle.std.specs.Char.{is_ascii_digit}
use Rattle.std.specs.Result.{OkIff}
use Rattle.std.specs.Str.Parse.{digits_value, ParsesSigned}
use Rattle.std.specs.Int.{w64}
use Rattle.std.proofs.lemmas.Str.{IsUtf8-from_ascii}
use Rattle.std.proofs.lemmas.Fmt.{IsAscii-from_digits}
use Rattle.std.proofs.lemmas.Str.Parse.{parse_signed_digits}
use Rattle.std.proofs.lemmas.Bool.{false_from_ne_true}
use borrow.Author.Tests.{lt-ltb, ltb-true}
use Rattle.nf_lemmas.proofs.DigitLemmas.{digits_model}

small_cases : {E : Type 0} (w : List ℕ) (r : Result ℤ E) → 0 < length w → OkIff r ((0 < length w) × (digits_value 10 w < 2 ^ 63)) (pos (digits_value 10 w)) → is_ok r ≡ ltb (digits_value 10 w) (2 ^ 63)
small_cases w (Ok n) l p = sym (lt-ltb (digits_value 10 w) (2 ^ 63) p.0.1)
small_cases w (Err e) l p = sym (false_from_ne_true (ltb (digits_value 10 w) (2 ^ 63)) (λ t. p (l, ltb-true (digits_value 10 w) (2 ^ 63) t)))

pub small_read : {E : Type 0} (w : List ℕ) (r : Result ℤ E) → 0 < length w → list_all is_ascii_digit w ≡ true → ParsesSigned w64 10 w r → is_ok r ≡ ltb (digits_value 10 w) (2 ^ 63)
small_read w r l d p = small_cases w r l (parse_signed_digits digits_model w64 w r p d)

pub digits_utf8 : (w : List ℕ) → list_all is_ascii_digit w ≡ true → IsUtf8 w
digits_utf8 w d = IsUtf8-from_ascii w (IsAscii-from_digits w (digits_model.to w d))
