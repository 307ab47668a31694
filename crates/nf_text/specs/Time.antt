-- The times of trace lines.
use Rattle.std.specs.Prelude.{ℕ, ◌^◌, Bool, ◌&&◌, List, length, Option, Some, None, nat_lt, nat_le, if◌then◌else◌, ℤ, pos}
use Rattle.std.specs.List.{list_all}
use Rattle.std.specs.Char.{is_ascii_digit}
use Rattle.std.specs.Str.Parse.{digits_value}

-- a text is a time where it has 1 to 19 bytes, all of them digits, and a value of at most 2^63 - 1; leading zeros are allowed
abbrev pub is_time : List ℕ → Bool
is_time text = list_all is_ascii_digit text && nat_le 1 (length text) && nat_le (length text) 19 && nat_lt (digits_value 10 text) (2 ^ 63)

-- the time that a text spells is its decimal value, and a text that is no time spells none
unfoldable pub time_of : List ℕ → Option ℤ
time_of text = if is_time text then Some (pos (digits_value 10 text)) else None
