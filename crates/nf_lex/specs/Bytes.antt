-- Classes of bytes.
use Rattle.std.specs.Prelude.{ℕ, Bool, ◌||◌, ◌==◌, not}
use Rattle.nf_core.specs.Identifiers.{is_letter, is_digit}

-- space, tab, CR and LF separate tokens
abbrev pub is_blank : ℕ → Bool
is_blank b = b == 32 || b == 9 || b == 13 || b == 10

-- a name goes on with letters, `_` and digits
abbrev pub is_inner : ℕ → Bool
is_inner b = is_letter b || is_digit b

-- a byte is `"`
abbrev pub is_quote : ℕ → Bool
is_quote b = b == 34

-- a byte is LF, which ends a line
abbrev pub is_newline : ℕ → Bool
is_newline b = b == 10

-- a line comment holds no LF
abbrev pub is_in_line : ℕ → Bool
is_in_line b = not (is_newline b)
