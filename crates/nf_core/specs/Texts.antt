-- Texts are lists of bytes, ordered by their bytes, and some of them are plain.
use Rattle.std.specs.Prelude.{◌≢◌, ℕ, ℤ, ◌≤ℤ◌, pos, negsuc, int_le, Bool, ◌&&◌, List, codes, nat_eq, All}
use Rattle.std.specs.declared.cmp.Ordering.{Ordering}
use Rattle.std.specs.Ordering.{nat_cmp}
use Rattle.std.specs.Cmp.Lexicographic.{slice_cmp, pointwise}
use Rattle.std.specs.Fmt.{signed_decimal}

-- the first byte that differs decides, and a prefix comes first
abbrev pub text_cmp : List ℕ → List ℕ → Ordering
text_cmp = slice_cmp nat_cmp

-- the same bytes
abbrev pub text_eq : List ℕ → List ℕ → Bool
text_eq = pointwise nat_eq

-- the least whole number of a value, -2^63
abbrev pub int_least : ℤ
int_least = negsuc 9223372036854775807

-- the greatest whole number of a value, 2^63 - 1
abbrev pub int_greatest : ℤ
int_greatest = pos 9223372036854775807

-- whether a value may be this number
abbrev pub is_i64 : ℤ → Bool
is_i64 n = int_le int_least n && int_le n int_greatest

-- a number that a value may be: from the least to the greatest
pub record IsI64 (n : ℤ) : Type 0 where
  pub low : int_least ≤ℤ n
  pub high : n ≤ℤ int_greatest

-- not one of the bytes that part a trace line or end it: `|`, `;`, CR, LF
pub record IsPlainByte (byte : ℕ) : Type 0 where
  pub no_bar : byte ≢ 124
  pub no_semicolon : byte ≢ 59
  pub no_return : byte ≢ 13
  pub no_feed : byte ≢ 10

-- a text that a trace can carry as a text: its bytes are plain, and it spells no whole number and no truth value
pub record IsPlain (text : List ℕ) : Type 0 where
  pub bytes : All IsPlainByte text
  pub no_number : (n : ℤ) → IsI64 n → text ≢ signed_decimal n
  pub no_true : text ≢ codes "true"
  pub no_false : text ≢ codes "false"
