-- The line of an announcement is UTF-8 where the texts in its row are.
use Rattle.std.proofs.Common.{ℕ, zero, suc, ◌<◌, Bool, true, false, List, [], ◌∷◌, codes, All, Option, Some, None, arith, rules}
use Rattle.std.specs.List.{AllByRecursion}
use Rattle.std.specs.Str.{IsUtf8, IsAscii}
use Rattle.std.specs.Fmt.{signed_decimal}
use Rattle.std.proofs.lemmas.Str.{IsUtf8-append, IsUtf8-from_ascii, IsUtf8-from_is_utf8, IsUtf8-nil}
use Rattle.std.proofs.lemmas.List.Elements.{recursion_from_All}
use Rattle.nf_core.specs.Texts.{IsI64}
use Rattle.nf_core.specs.declared.values.Value.{Value}
use Rattle.nf_core.specs.declared.values.Value.TheVariants as v
use Rattle.nf_model.specs.ProperRows.{IsProperCell}
use Rattle.nf_announce.specs.Announcements.{text_of_value, joined}
use Rattle.nf_announce.specs.Reading.{HasTexts, sign_of}
use Rattle.nf_announce.specs.inner.LineParts.{Parts, text_from}
use Rattle.nf_announce.proofs.Public.DistinctItemLemmas.{each_weaker}
use Rattle.nf_announce.proofs.Public.LineBackLemmas.{present_values}
use Rattle.nf_announce.proofs.PlainByteLemmas.{IsName, HasAsciiBytes, numeral_ascii}

ascii_at : (text : List ℕ) → HasAsciiBytes text → IsAscii text
ascii_at [] h i = omega arith
ascii_at (byte ∷ text) h zero = h.0
ascii_at (byte ∷ text) h (suc i) = ascii_at text h.1 i

from_ascii : (text : List ℕ) → HasAsciiBytes text → IsUtf8 text
from_ascii text h = IsUtf8-from_ascii text (ascii_at text h)

-- an ASCII byte before a text
pub behind_byte : (byte : ℕ) (text : List ℕ) → byte < 128 → IsUtf8 text → IsUtf8 (byte ∷ text)
behind_byte byte text h u = IsUtf8-append (byte ∷ []) text (from_ascii (byte ∷ []) (h, tt)) u

-- joined texts
joined_utf8 : (texts : List (List ℕ)) → AllByRecursion IsUtf8 texts → IsUtf8 (joined texts)
joined_utf8 [] h = IsUtf8-nil
joined_utf8 (text ∷ []) h = h.0
joined_utf8 (text ∷ next ∷ texts) h = IsUtf8-append text (59 ∷ joined (next ∷ texts)) h.0 (behind_byte 59 (joined (next ∷ texts)) (omega arith) (joined_utf8 (next ∷ texts) h.1))

-- the text of a value
value_utf8 : (x : Value) → IsProperCell (Some x) → HasTexts (Some x) → IsUtf8 (text_of_value x)
value_utf8 (v.Bool true) p h = from_ascii (codes "true") (search rules)
value_utf8 (v.Bool false) p h = from_ascii (codes "false") (search rules)
value_utf8 (v.Int n) p h = from_ascii (signed_decimal n) (numeral_ascii n p)
value_utf8 (v.Text text) p h = IsUtf8-from_is_utf8 text h

values_utf8 : (keys : List (List ℕ)) (row : List (Option Value)) → AllByRecursion IsProperCell row → AllByRecursion HasTexts row → AllByRecursion IsUtf8 (present_values keys row)
values_utf8 [] row p h = tt
values_utf8 (key ∷ keys) [] p h = tt
values_utf8 (key ∷ keys) (None ∷ row) p h = values_utf8 keys row p.1 h.1
values_utf8 (key ∷ keys) (Some x ∷ row) p h = (value_utf8 x p.0 h.0, values_utf8 keys row p.1 h.1)

pub sign_ascii : (added : Bool) → sign_of added < 128
sign_ascii true = omega arith
sign_ascii false = omega arith

-- the text of a name's keys and of its values
pub keys_utf8 : (keys : List (List ℕ)) → AllByRecursion IsName keys → IsUtf8 (joined keys)
keys_utf8 keys h = joined_utf8 keys (each_weaker IsName IsUtf8 (λ text name. from_ascii text name.ascii) keys h)

pub row_utf8 : (keys : List (List ℕ)) (row : List (Option Value)) → All IsProperCell row → All HasTexts row → IsUtf8 (joined (present_values keys row))
row_utf8 keys row p h = joined_utf8 (present_values keys row) (values_utf8 keys row (recursion_from_All IsProperCell row p) (recursion_from_All HasTexts row h))

-- the line that parts make
pub line_utf8 : (p : Parts) → IsName p.name → IsI64 p.start → IsI64 p.stop → IsUtf8 p.keys → IsUtf8 p.values → IsUtf8 (sign_of p.added ∷ text_from p)
line_utf8 p name start stop keys values =
    let last = IsUtf8-append p.keys (124 ∷ p.values) keys (behind_byte 124 p.values (omega arith) values) in
    let stops = IsUtf8-append (signed_decimal p.stop) (124 ∷ _) (from_ascii (signed_decimal p.stop) (numeral_ascii p.stop stop)) (behind_byte 124 _ (omega arith) last) in
    let starts = IsUtf8-append (signed_decimal p.start) (124 ∷ _) (from_ascii (signed_decimal p.start) (numeral_ascii p.start start)) (behind_byte 124 _ (omega arith) stops) in
    behind_byte (sign_of p.added) (text_from p) (sign_ascii p.added) (IsUtf8-append p.name (124 ∷ _) (from_ascii p.name name.ascii) (behind_byte 124 _ (omega arith) starts))
