-- What is faulty in a source.
use Rattle.std.specs.Prelude.{◌≡◌, ℕ, ◌+◌, ◌-◌, ◌<◌, ◌^◌, ◌&&◌, List, length, take, nat_lt, if◌then◌else◌, Option, Some, None, slice_index, slice_range, count_by}
use Rattle.std.specs.Str.{is_utf8}
use Rattle.std.specs.Str.Parse.{digits_value}
use Rattle.nf_text.specs.Value.{is_plain}
use Rattle.nf_lex.specs.declared.token.TokenKind.{TokenKind}
use Rattle.nf_lex.specs.declared.token.TokenKind.TheVariants.{Ident, Keyword, Number, Text, Mark}
use Rattle.nf_lex.specs.declared.fault.LexFault.{LexFault}
use Rattle.nf_lex.specs.declared.fault.LexFault.TheVariants.{BadByte, BadText, OpenText, OpenComment, BigNumber}
use Rattle.nf_lex.specs.Bytes.{is_quote, is_newline}
use Rattle.nf_lex.specs.Words.{opens_block, Token, IsWord, HasNoWord}

-- the line of a place: 1 and the LF bytes before it
abbrev pub line_at : List ℕ → ℕ → ℕ
line_at source place = 1 + count_by is_newline (take place source)

-- the bytes of a text between its `"`
abbrev pub body_of : List ℕ → List ℕ
body_of word = slice_range word 1 (length word - 1)

-- the fault of a token at a line: a text whose bytes are no UTF-8 or not plain, a number above 2^63 - 1
unfoldable pub fault_of : TokenKind → List ℕ → ℕ → Option LexFault
fault_of Ident word line = None
fault_of Keyword word line = None
fault_of Number word line = if nat_lt (digits_value 10 word) (2 ^ 63) then None else Some (BigNumber line)
fault_of Text word line = if is_utf8 (body_of word) && is_plain (body_of word) then None else Some (BadText line)
fault_of Mark word line = None

-- the fault of a place where no word stands: a block comment without its end, a text without its end, or a byte with which no word begins
unfoldable pub missing_at : List ℕ → ℕ → LexFault
missing_at bytes line = if opens_block bytes then OpenComment line else (if is_quote (slice_index bytes 0) then OpenText line else BadByte line)

-- the fault at the front of bytes: that of the longest word there, or that of a place without a word
pub data IsFault (bytes : List ℕ) (line : ℕ) : LexFault → Type 0 where
  faulty : {kind : TokenKind} {n : ℕ} {fault : LexFault} → IsWord bytes (Token kind) n → fault_of kind (take n bytes) line ≡ Some fault → IsFault bytes line fault
  missing : 0 < length bytes → HasNoWord bytes → IsFault bytes line (missing_at bytes line)
