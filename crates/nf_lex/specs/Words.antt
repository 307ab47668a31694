-- The words of a source: separators, comments and tokens.
use Rattle.std.specs.Prelude.{◌≡◌, ℕ, ◌+◌, ◌<◌, ◌≤◌, Bool, ◌&&◌, ◌||◌, List, [], ◌∷◌, ◌++◌, length, drop, take, nat_eq, ◌==◌, if◌then◌else◌, Option, Some, None, bytes_eq, codes, slice_index, option_map}
use Rattle.std.specs.List.{list_all, list_any, starts_with, position_or_len}
use Rattle.std.specs.Char.{is_ascii_digit}
use Rattle.nf_lex.specs.declared.token.TokenKind.{TokenKind}
use Rattle.nf_lex.specs.declared.token.TokenKind.TheVariants.{Ident, Keyword, Number, Text, Mark}
use Rattle.nf_core.specs.Identifiers.{has_name_form, keywords}
use Rattle.nf_lex.specs.Bytes.{is_blank, is_quote, is_in_line}

-- the marks of two bytes, and the bytes that are marks alone
abbrev pub long_marks : List (List ℕ)
long_marks = codes ":-" ∷ codes "->" ∷ codes "<=" ∷ codes ">=" ∷ codes "!=" ∷ []

abbrev pub short_marks : List ℕ
short_marks = codes "=<>!&|+-*/%(){},;.:"

-- a word is one of a list
abbrev pub is_among : List (List ℕ) → List ℕ → Bool
is_among table word = list_any (λ entry. bytes_eq entry word) table

-- a number is one or more digits
abbrev pub is_number : List ℕ → Bool
is_number word = is_ascii_digit (slice_index word 0) && list_all is_ascii_digit word

-- a text runs from `"` to the next `"`
abbrev pub is_text : List ℕ → Bool
is_text word = is_quote (slice_index word 0) && position_or_len is_quote (drop 1 word) + 2 == length word

-- a text is written between `"`
abbrev pub quoted : List ℕ → List ℕ
quoted text = 34 ∷ text ++ 34 ∷ []

-- a mark is one of the marks
abbrev pub is_mark : List ℕ → Bool
is_mark word = is_among long_marks word || (length word == 1 && list_any (λ mark. mark == slice_index word 0) short_marks)

-- identifiers and keywords have the form of names; a name is a keyword where it is one of them, else an identifier
abbrev pub name_kind : List ℕ → TokenKind
name_kind name = if is_among keywords name then Keyword else Ident

-- the kind of token that a word is, if it is one
unfoldable pub kind_of : List ℕ → Option TokenKind
kind_of word =
    if has_name_form word then Some (name_kind word)
    else (if is_number word then Some Number
    else (if is_text word then Some Text
    else (if is_mark word then Some Mark
    else None)))

-- a line comment opens with `//` or `--`, a block comment with `/*`
abbrev pub opens_line : List ℕ → Bool
opens_line bytes = starts_with nat_eq bytes (codes "//") || starts_with nat_eq bytes (codes "--")

abbrev pub opens_block : List ℕ → Bool
opens_block bytes = starts_with nat_eq bytes (codes "/*")

-- how many bytes stand before the first `*/`, or all where there is none
abbrev pub before_close : List ℕ → ℕ
before_close [] = 0
before_close (b ∷ bs) = if starts_with nat_eq (b ∷ bs) (codes "*/") then 0 else 1 + before_close bs

-- a comment runs from `//` or `--` up to the next LF, which is not in it, or from `/*` to the next `*/`
abbrev pub is_comment : List ℕ → Bool
is_comment word =
    (opens_line word && list_all is_in_line word)
    || (opens_block word && before_close (drop 2 word) + 4 == length word)

-- a gap stands between tokens: a separator, which is one blank byte, or a comment
abbrev pub is_separator : List ℕ → Bool
is_separator word = length word == 1 && is_blank (slice_index word 0)

abbrev pub is_gap : List ℕ → Bool
is_gap word = is_separator word || is_comment word

-- a word is a gap or a token of some kind
pub data Form : Type 0 where
  Gap : Form
  Token : TokenKind → Form

-- what a word is at the front of these bytes: where a comment opens it has to be a comment, so that a comment goes before any token
unfoldable pub form_at : List ℕ → List ℕ → Option Form
form_at bytes word =
    if opens_line bytes || opens_block bytes then (if is_comment word then Some Gap else None)
    else (if is_separator word then Some Gap else option_map Token (kind_of word))

-- under a table of forms, the first n bytes have this form, and no longer front of the bytes has any
pub record IsLongest {F : Type 0} (form_of : List ℕ → Option F) (bytes : List ℕ) (form : F) (n : ℕ) : Type 0 where
  pub within : n ≤ length bytes
  pub front : form_of (take n bytes) ≡ Some form
  pub longest : (m : ℕ) → n < m → m ≤ length bytes → form_of (take m bytes) ≡ None

-- no front of the bytes has a form
pub record HasNone {F : Type 0} (form_of : List ℕ → Option F) (bytes : List ℕ) : Type 0 where
  pub none : (m : ℕ) → m ≤ length bytes → form_of (take m bytes) ≡ None

-- the longest word at the front of the bytes has this form and n bytes
abbrev pub IsWord : List ℕ → Form → ℕ → Type 0
IsWord bytes form n = IsLongest (form_at bytes) bytes form n

-- no word stands at the front of the bytes
abbrev pub HasNoWord : List ℕ → Type 0
HasNoWord bytes = HasNone (form_at bytes) bytes
