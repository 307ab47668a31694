-- The values of traces and specifications: what a text spells.
use Rattle.std.specs.Prelude.{ℕ, Bool, true, false, not, ◌&&◌, ◌||◌, List, drop, ◌==◌, nat_lt, if◌then◌else◌, Option, Some, None, ℤ, bytes_eq, codes, slice_index}
use Rattle.std.specs.Option.{option_map_or}
use Rattle.std.specs.List.{list_all, list_any}
use Rattle.std.specs.Char.{is_ascii_digit}
use Rattle.std.specs.Str.Parse.{signed_digits_value}
use Rattle.nf_core.specs.Texts.{is_i64}
use Rattle.nf_text.specs.declared.value.Read.{Read}
use Rattle.nf_text.specs.declared.value.Read.TheVariants as read

-- a text spells a truth value, a whole number, or just these bytes
pub data Spelling : Type 0 where
  Truth : Bool → Spelling
  Whole : ℤ → Spelling
  Words : List ℕ → Spelling

-- a text is a truth value where it is `true` or `false`
abbrev pub is_truth : List ℕ → Bool
is_truth text = bytes_eq text (codes "true") || bytes_eq text (codes "false")

-- digits, one at least, without a leading zero
abbrev pub is_positive : List ℕ → Bool
is_positive digits = list_all is_ascii_digit digits && nat_lt 48 (slice_index digits 0)

-- a numeral is `0`, or an optional `-` and then digits without a leading zero
abbrev pub is_numeral : List ℕ → Bool
is_numeral text = bytes_eq text (codes "0") || is_positive text || (slice_index text 0 == 45 && is_positive (drop 1 text))

-- a text is a whole number where it is a numeral of a value within i64; its value is that of its sign and digits
unfoldable pub whole_of : List ℕ → Option ℤ
whole_of text = if is_numeral text && is_i64 (signed_digits_value 10 text) then Some (signed_digits_value 10 text) else None

-- a text spells a truth value or a whole number where it is one, else just its bytes
unfoldable pub spelling_of : List ℕ → Spelling
spelling_of text = if is_truth text then Truth (bytes_eq text (codes "true")) else option_map_or Whole (whole_of text) (Words text)

-- the spelling that an answer of `read_value` stands for
abbrev pub spelling : Read → Spelling
spelling (read.Bool b) = Truth b
spelling (read.Int n) = Whole n
spelling (read.Text text) = Words text.now

-- a byte is one of `|`, `;`, CR and LF
abbrev pub is_separator : ℕ → Bool
is_separator b = b == 124 || b == 59 || b == 13 || b == 10

-- a text that spells just its bytes
abbrev pub is_words : Spelling → Bool
is_words (Truth b) = false
is_words (Whole n) = false
is_words (Words text) = true

-- a text is plain where it holds no `|`, `;`, CR or LF and spells neither a truth value nor a whole number
unfoldable pub is_plain : List ℕ → Bool
is_plain text = not (list_any is_separator text) && is_words (spelling_of text)
