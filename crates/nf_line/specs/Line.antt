-- One line of a trace: it is empty, accepted, or has a fault of the table.
use Rattle.std.specs.Prelude.{ℕ, ◌==◌, Bool, not, ◌&&◌, ℤ, pos, int_lt, List, [], ◌∷◌, length, map, Option, Some, None, if◌then◌else◌}
use Rattle.std.specs.List.{list_any, zip}
use Rattle.std.specs.Str.{is_utf8}
use Rattle.std.specs.Str.Parse.{digits_value}
use Rattle.nf_core.specs.declared.values.Value as value
use Rattle.nf_core.specs.declared.values.Value.TheVariants as variant
use Rattle.nf_text.specs.Fields.{fields_of}
use Rattle.nf_text.specs.Time.{is_time}
use Rattle.nf_text.specs.Value.{Spelling, Truth, Whole, Words, spelling_of}
use Rattle.nf_line.specs.Lines.{is_empty, is_too_long, without_return}

-- why a line is refused by its bytes alone, in the order of the table
pub data Fault : Type 0 where
  Long : Fault
  NotText : Fault
  Fields : Fault
  Time : Fault
  Span : Fault
  Key : Fault
  Counts : Fault

-- a line is text where it is UTF-8 and holds no CR
abbrev pub is_text : List ℕ → Bool
is_text line = is_utf8 line && not (list_any (λ byte. byte == 13) line)

-- whether a text holds a `|`, which stands between the fields of a line
abbrev pub holds_bar : List ℕ → Bool
holds_bar text = list_any (λ byte. byte == 124) text

-- the texts of what a line says: its name, its begin and its end, and the fields of its keys and of its values
pub record Parts : Type 0 where
  pub name : List ℕ
  pub start : List ℕ
  pub stop : List ℕ
  pub keys : List ℕ
  pub values : List ℕ

-- the parts of a line that begins and ends at one time
abbrev pub at_time : (name time keys values : List ℕ) → Parts
at_time name time keys values = record { name = name; start = time; stop = time; keys = keys; values = values }

-- the table of forms: a line of two fields has a name and a time, one of four has keys and values besides, and one of five has a begin and an end in place of the time. A line of any other number of fields is in no form
abbrev pub parts_of : List (List ℕ) → Option Parts
parts_of (name ∷ time ∷ []) = Some (at_time name time [] [])
parts_of (name ∷ time ∷ keys ∷ values ∷ []) = Some (at_time name time keys values)
parts_of (name ∷ start ∷ stop ∷ keys ∷ values ∷ []) =
    Some (record { name = name; start = start; stop = stop; keys = keys; values = values })
parts_of fields = None

-- the keys of a keys' field stand between `;`; an empty field has none
abbrev pub keys_in : List ℕ → List (List ℕ)
keys_in keys = if is_empty keys then [] else fields_of 59 keys

-- the values of a values' field stand between `;`; where it and the keys' field are both empty there are none
abbrev pub values_in : List ℕ → List ℕ → List (List ℕ)
values_in keys values = if is_empty keys && is_empty values then [] else fields_of 59 values

-- the keys of a keys' field with the values of a values' field, as they are written, in their order
abbrev pub texts_in : List ℕ → List ℕ → List (List ℕ × List ℕ)
texts_in keys values = zip (keys_in keys) (values_in keys values)

-- the value that a spelling is
abbrev pub value_of : Spelling → value.Value
value_of (Truth b) = variant.Bool b
value_of (Whole n) = variant.Int n
value_of (Words text) = variant.Text text

-- a key with the value that its text spells
abbrev pub spelled : List ℕ × List ℕ → List ℕ × value.Value
spelled pair = (pair.0, value_of (spelling_of pair.1))

-- the keys and values of a line, as they are written, in their order; a line in no form has none
abbrev pub texts_of : Option Parts → List (List ℕ × List ℕ)
texts_of None = []
texts_of (Some parts) = texts_in parts.keys parts.values

-- the time that a text of digits spells: its decimal value
abbrev pub time_in : List ℕ → ℤ
time_in text = pos (digits_value 10 text)

-- the table of a line in some form: each fault, and whether the line has it
abbrev pub faults_in : Parts → List (Fault × Bool)
faults_in parts =
    (Fields, is_empty parts.name)
    ∷ (Time, not (is_time parts.start && is_time parts.stop))
    ∷ (Span, int_lt (time_in parts.stop) (time_in parts.start))
    ∷ (Key, list_any is_empty (keys_in parts.keys))
    ∷ (Counts, not (length (values_in parts.keys parts.values) == length (keys_in parts.keys)))
    ∷ []

-- the first fault of a table that the line has
abbrev pub first_fault : List (Fault × Bool) → Option Fault
first_fault [] = None
first_fault (row ∷ rows) = if row.1 then Some row.0 else first_fault rows

-- what a line is
pub data Line : Type 0 where
  Empty : Line
  Accepted : (name : List ℕ) → (start stop : ℤ) → (pairs : List (List ℕ × value.Value)) → Line
  Faulty : Fault → Line

-- what an accepted line says: its name, its begin and its end, and its keys with their values
abbrev pub accepted : Parts → Line
accepted parts =
    Accepted parts.name (time_in parts.start) (time_in parts.stop) (map spelled (texts_in parts.keys parts.values))

-- a line in some form by its first fault, where it has one
abbrev pub judged : Parts → Option Fault → Line
judged parts None = accepted parts
judged parts (Some fault) = Faulty fault

-- a line that is text, by its parts: where it is in no form its fault is Fields, and else it has the first fault of the table, or is accepted
abbrev pub formed : Option Parts → Line
formed None = Faulty Fields
formed (Some parts) = judged parts (first_fault (faults_in parts))

-- a line of at most 65,536 bytes, without its CR: it is empty, or isn't text, or is what its parts make it
unfoldable pub line_within : List ℕ → Line
line_within line =
    if is_empty line then Empty
    else if is_text line then formed (parts_of (fields_of 124 line))
    else Faulty NotText

-- a line by its whole piece, all bytes before its LF: it is too long where it has more than 65,536 bytes, a CR at its end too; else it is what it is without one CR at its end
unfoldable pub line : List ℕ → Line
line piece = if is_too_long piece then Faulty Long else line_within (without_return piece)
