-- When a word is faulty, and that no word is empty.
use Rattle.std.proofs.Common.{◌≡◌, ℕ, zero, suc, ◌^◌, ◌<◌, Bool, true, false, ◌||◌, cond, ltb, List, [], length, take, refl, sym, ◌∙◌, subst, arith, Some, None, Result, Ok, Err, ℤ, pos, is_ok, IsUtf8}
use Rattle.std.specs.Str.{is_utf8}
use Rattle.std.specs.Result.{OkIff}
use Rattle.std.specs.Str.Parse.{digits_value, ParsesSigned}
use Rattle.std.specs.Int.{w64}
use Rattle.std.proofs.lemmas.Str.{IsUtf8-from_is_utf8, is_utf8-from_IsUtf8}
use Rattle.std.proofs.lemmas.Str.Parse.{parse_signed_digits}
use Rattle.std.proofs.lemmas.Bool.{false_from_ne_true}
use borrow.Author.Tests.{lt-ltb, ltb-true}
use Rattle.nf_lex.specs.declared.token.TokenKind.{TokenKind}
use Rattle.nf_lex.specs.declared.fault.LexFault.{LexFault}
use Rattle.nf_core.specs.Identifiers.{has_name_form}
use Rattle.nf_lex.specs.Words.{Form, Gap, Token, kind_of, is_number, form_at, opens_line, opens_block, IsWord, HasNoWord}
use Rattle.nf_lex.specs.Faults.{fault_of, missing_at, IsFault, faulty, missing}
use Rattle.nf_lex.proofs.Public.KindLemmas.{number_digits}
use Rattle.nf_lemmas.proofs.DigitLemmas.{digits_model}

small_cases : {E : Type 0} (w : List ℕ) (r : Result ℤ E) → 0 < length w → OkIff r ((0 < length w) × (digits_value 10 w < 2 ^ 63)) (pos (digits_value 10 w)) → is_ok r ≡ ltb (digits_value 10 w) (2 ^ 63)
small_cases w (Ok n) l p = sym (lt-ltb (digits_value 10 w) (2 ^ 63) p.0.1)
small_cases w (Err e) l p = sym (false_from_ne_true (ltb (digits_value 10 w) (2 ^ 63)) (λ t. p (l, ltb-true (digits_value 10 w) (2 ^ 63) t)))

pub small_read : {E : Type 0} (w : List ℕ) (r : Result ℤ E) → is_number w ≡ true → ParsesSigned w64 10 w r → is_ok r ≡ ltb (digits_value 10 w) (2 ^ 63)
small_read w r h p =
    let d = number_digits w h in
    small_cases w r d.0 (parse_signed_digits digits_model w64 w r p d.1)

-- the test of UTF-8
pub utf8_yes : (bytes : List ℕ) → IsUtf8 bytes → is_utf8 bytes ≡ true
utf8_yes bytes h = is_utf8-from_IsUtf8 bytes h

pub utf8_no : (bytes : List ℕ) → (IsUtf8 bytes → ⊥) → is_utf8 bytes ≡ false
utf8_no bytes h = false_from_ne_true (is_utf8 bytes) (λ e. h (IsUtf8-from_is_utf8 bytes e))

-- no word is empty
no_empty_form : (l b : Bool) → cond (l || b) (cond false (Some Gap) None) (cond false (Some Gap) None) ≡ None
no_empty_form true b = refl
no_empty_form false true = refl
no_empty_form false false = refl

pub empty_form : (bytes : List ℕ) → form_at bytes [] ≡ None
unfolding form_at kind_of has_name_form
empty_form bytes = no_empty_form (opens_line bytes) (opens_block bytes)

pub word_some : (bytes : List ℕ) (form : Form) (n : ℕ) → IsWord bytes form n → 0 < n
word_some bytes form zero w = let e = empty_form bytes in absurd (nothing form (sym e ∙ w.front))
  where
    nothing : (form : Form) → None ≡ Some form → ⊥
    nothing form e = cc
word_some bytes form (suc n) w = omega arith

-- the faults at the front of bytes
pub faulty_word : (bytes : List ℕ) (line : ℕ) (kind : TokenKind) (n : ℕ) (fault : LexFault) → IsWord bytes (Token kind) n → fault_of kind (take n bytes) line ≡ Some fault → IsFault bytes line fault
faulty_word bytes line kind n fault w e = faulty w e

pub missing_word : (bytes : List ℕ) (line : ℕ) (fault : LexFault) → 0 < length bytes → HasNoWord bytes → fault ≡ missing_at bytes line → IsFault bytes line fault
missing_word bytes line fault l w e = subst (IsFault bytes line) (sym e) (missing l w)
