-- The parts of an announcement line, before they are looked up in a plan.
use Rattle.std.specs.Prelude.{◌≡◌, ◌≢◌, ℕ, ◌<◌, ℤ, ◌≤ℤ◌, Bool, List, [], ◌∷◌, ◌++◌, All, IsTrue, length, Option}
use Rattle.std.specs.Str.{is_utf8}
use Rattle.std.specs.Fmt.{signed_decimal}
use Rattle.nf_core.specs.Texts.{IsI64}
use Rattle.nf_core.specs.Plan.{Plan, is_head, name_of}
use Rattle.nf_core.specs.declared.values.Value.{Value}
use Rattle.nf_model.specs.ProperRows.{IsProperCell}
use Rattle.nf_announce.specs.Announcements.{present}
use Rattle.nf_announce.specs.Reading.{sign_of}
use Rattle.nf_announce.specs.declared.line_parts.Fields.{Fields}

-- a sign, the text of a name, a begin, an end, and the texts of the keys and of the values
pub record Parts : Type 0 where
  pub added : Bool
  pub name : List ℕ
  pub start : ℤ
  pub stop : ℤ
  pub keys : List ℕ
  pub values : List ℕ

-- the fields that were read
abbrev pub fields_in : Fields → List (List ℕ)
fields_in fields =
    fields.name.now ∷ fields.start.now ∷ fields.stop.now ∷ fields.keys.now ∷ fields.values.now ∷ []

-- the fields that parts make
abbrev pub fields_from : Parts → List (List ℕ)
fields_from parts =
    parts.name ∷ signed_decimal parts.start ∷ signed_decimal parts.stop ∷ parts.keys ∷ parts.values ∷ []

-- a text is the canonical decimal of a number that a value may have
pub record IsSpelled (text : List ℕ) (n : ℤ) : Type 0 where
  pub decimal : text ≡ signed_decimal n
  pub within : IsI64 n

-- the text that parts make behind the sign
abbrev pub text_from : Parts → List ℕ
text_from parts =
    parts.name ++ 124 ∷ (signed_decimal parts.start
    ++ 124 ∷ (signed_decimal parts.stop ++ 124 ∷ (parts.keys ++ 124 ∷ parts.values)))

-- bytes without a bar
abbrev pub IsUnbarred : List ℕ → Type 0
IsUnbarred text = All (λ byte. byte ≢ 124) text

-- parts make a line, which is text, and no bar stands in its fields
pub record IsLineOf (line : List ℕ) (parts : Parts) : Type 0 where
  pub line_is : line ≡ sign_of parts.added ∷ text_from parts
  pub text : IsTrue (is_utf8 line)
  pub start : IsI64 parts.start
  pub stop : IsI64 parts.stop
  pub in_time : parts.start ≤ℤ parts.stop
  pub name : IsUnbarred parts.name
  pub keys : IsUnbarred parts.keys
  pub values : IsUnbarred parts.values

-- a row is that of some keys with these pairs of a key and a value's text
pub record IsRowWith (keys : List (List ℕ)) (pairs : List (List ℕ × List ℕ))
    (row : List (Option Value)) : Type 0 where
  pub each : length row ≡ length keys
  pub cells : All IsProperCell row
  pub pairs_are : present keys row ≡ pairs

-- a name of a plan is a head with this text
pub record IsHeadNamed (plan : Plan) (text : List ℕ) (n : ℕ) : Type 0 where
  pub within : n < length plan.names
  pub head : IsTrue (is_head plan n)
  pub text_is : name_of plan n ≡ text
