-- What stands at the front of bytes of a C text: a separator or a comment, a token, or a fault.
use Rattle.std.specs.Prelude.{ℕ, ◌+◌, ◌-◌, ◌^◌, Bool, not, ◌&&◌, ◌||◌, ◌==◌, nat_lt, nat_eq, List, [], ◌∷◌, length, take, drop, codes, bytes_eq, slice_index, Option, Some, None, if◌then◌else◌}
use Rattle.std.specs.List.{prefix_len, starts_with}
use Rattle.std.specs.Char.{is_ascii_digit}
use Rattle.std.specs.Str.Parse.{digits_value}
use Rattle.nf_lex.specs.Bytes.{is_blank, is_inner, is_in_line}
use Rattle.nf_lex.specs.Words.{before_close}
use Rattle.nf_cparse.specs.declared.symbol.Sym.{Sym}
use Rattle.nf_cparse.specs.declared.symbol.Sym.TheVariants as sym
use Rattle.nf_cparse.specs.declared.piece.Piece.{Piece}
use Rattle.nf_cparse.specs.declared.piece.Piece.TheVariants.{Gap, Token, Fault}
use Rattle.nf_cparse.specs.Symbols.{c_marks, word_symbol}

-- a piece that begins with a token of so many bytes, or where none is one, the fault at the first byte
abbrev pub token_or_fault : Option Sym → ℕ → Piece
token_or_fault (Some s) n = Token s n
token_or_fault None n = Fault 0

-- a byte that may stand in a text, also in its comments: ASCII, but no `\` and no `?`
abbrev pub may_stand : ℕ → Bool
may_stand byte = nat_lt byte 128 && not (byte == 92) && not (byte == 63)

-- a comment of so many bytes is a gap; a byte in it that may not stand is a fault at its place
unfoldable pub comment_piece : ℕ → List ℕ → Piece
comment_piece n bytes = let sound = prefix_len may_stand (take n bytes) in if nat_lt sound n then Fault sound else Gap n

-- a comment from `//` on goes up to LF, which isn't in it, or to the end
abbrev pub line_piece : List ℕ → Piece
line_piece bytes = comment_piece (prefix_len is_in_line bytes) bytes

-- a comment from `/*` on goes up to the next `*/`; where there is none, the fault is at the comment
unfoldable pub block_piece : List ℕ → Piece
block_piece bytes = let before = before_close (drop 2 bytes) in if nat_lt before (length (drop 2 bytes)) then comment_piece (before + 4) bytes else Fault 0

-- what stands behind the separators at the front of bytes
unfoldable pub past_blanks : List ℕ → List ℕ
past_blanks bytes = drop (prefix_len is_blank bytes) bytes

-- the digits at the front of bytes, and what stands behind them
unfoldable pub digits_at : List ℕ → List ℕ
digits_at bytes = take (prefix_len is_ascii_digit bytes) bytes

unfoldable pub past_digits : List ℕ → List ℕ
past_digits bytes = drop (prefix_len is_ascii_digit bytes) bytes

-- digits that a literal has: `0`, or digits without a leading zero, of a value up to 2^63 - 1
unfoldable pub are_literal_digits : List ℕ → Bool
are_literal_digits digits = (length digits == 1 || (nat_lt 1 (length digits) && not (slice_index digits 0 == 48))) && nat_lt (digits_value 10 digits) (2 ^ 63)

-- bytes that begin with this one
abbrev pub begins_with : ℕ → List ℕ → Bool
begins_with byte bytes = slice_index bytes 0 == byte

-- the parts of a literal that begins with `INT64_C`, with separators between them: what stands from its `(` on, from its digits on, and from its `)` on
unfoldable pub literal_open : List ℕ → List ℕ
literal_open bytes = past_blanks (drop 7 bytes)

unfoldable pub literal_inside : List ℕ → List ℕ
literal_inside bytes = past_blanks (drop 1 (literal_open bytes))

unfoldable pub literal_close : List ℕ → List ℕ
literal_close bytes = past_blanks (past_digits (literal_inside bytes))

-- a literal is `INT64_C`, `(`, its digits and `)`; where that isn't what stands there, the fault is at `INT64_C`
unfoldable pub literal_piece : List ℕ → Piece
literal_piece bytes =
    if begins_with 40 (literal_open bytes) && are_literal_digits (digits_at (literal_inside bytes)) && begins_with 41 (literal_close bytes)
    then Token sym.Lit (length bytes - length (drop 1 (literal_close bytes))) else Fault 0

-- a longest run of letters, digits and `_`: a literal where it is `INT64_C`, else a word or an identifier, and a fault where it is neither
unfoldable pub run_piece : List ℕ → Piece
run_piece bytes =
    let run = take (prefix_len is_inner bytes) bytes in
    if bytes_eq run (codes "INT64_C") then literal_piece bytes else token_or_fault (word_symbol run) (length run)

-- the first mark of a list with which bytes begin, and a fault where there is none
abbrev pub mark_in : List (List ℕ × Option Sym) → List ℕ → Piece
mark_in [] bytes = Fault 0
mark_in (mark ∷ marks) bytes = if starts_with nat_eq bytes mark.0 then token_or_fault mark.1 (length mark.0) else mark_in marks bytes

-- what stands at the front of bytes, which aren't empty: a comment's opening goes before any token, and a fault is told by how many bytes stand before its place
unfoldable pub piece_of : List ℕ → Piece
piece_of bytes =
    if starts_with nat_eq bytes (codes "//") then line_piece bytes
    else (if starts_with nat_eq bytes (codes "/*") then block_piece bytes
    else (if is_blank (slice_index bytes 0) then Gap 1
    else (if is_inner (slice_index bytes 0) then run_piece bytes
    else mark_in c_marks bytes)))
