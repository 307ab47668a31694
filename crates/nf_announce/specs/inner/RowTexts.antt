-- The pairs of a line's keys and values, and the cells that they make.
use Rattle.std.specs.Prelude.{◌≡◌, ◌≢◌, ℕ, ◌+◌, ◌==◌, Bool, List, [], ◌∷◌, ◌++◌, length, count_by, Option, Some, None, IsTrue, ⊤, if◌then◌else◌}
use Rattle.std.specs.Borrow.{Bor}
use Rattle.std.specs.List.{zip}
use Rattle.std.specs.Option.{option_map}
use Rattle.nf_core.specs.declared.values.Value.{Value}
use Rattle.nf_text.specs.Fields.{fields_of}
use Rattle.nf_model.specs.ProperRows.{IsProperCell}
use Rattle.nf_announce.specs.Announcements.{text_of_value}

-- the pairs that are left, by the next key, those behind it and the values
abbrev pub pairs_left : Option (Bor (List ℕ)) → List (List ℕ) → List (List ℕ) → List (List ℕ × List ℕ)
pairs_left None keys values = []
pairs_left (Some key) keys values = zip (key.now ∷ keys) values

-- there is a value for each key that is left
abbrev pub AreLeft : Option (Bor (List ℕ)) → List (List ℕ) → List (List ℕ) → Type 0
AreLeft None keys values = ⊤
AreLeft (Some key) keys values = length values ≡ length keys + 1

-- how many `;` stand in a text
abbrev pub marks_of : List ℕ → ℕ
marks_of text = count_by (λ byte. byte == 59) text

-- whether there are as many values as keys
abbrev pub are_as_many : List ℕ → List ℕ → Bool
are_as_many keys values =
    if length keys == 0 then length values == 0 else marks_of keys == marks_of values

-- the pairs of the texts of the keys and of the values
abbrev pub pairs_in : List ℕ → List ℕ → List (List ℕ × List ℕ)
pairs_in keys values =
    if length keys == 0 then [] else zip (fields_of 59 keys) (fields_of 59 values)

-- pairs are those of the texts of as many keys and values
pub record ArePairsIn (keys values : List ℕ) (pairs : List (List ℕ × List ℕ)) : Type 0 where
  pub as_many : IsTrue (are_as_many keys values)
  pub pairs_are : pairs ≡ pairs_in keys values

-- the first pair, if one is there, has another key
abbrev pub HasOtherKey : List ℕ → List (List ℕ × List ℕ) → Type 0
HasOtherKey key [] = ⊤
HasOtherKey key (pair ∷ pairs) = pair.0 ≢ key

-- what is left where the pair with a key is taken away, if it is the first
abbrev pub IsTaken : List ℕ → Option (List ℕ)
    → List (List ℕ × List ℕ) → List (List ℕ × List ℕ) → Type 0
IsTaken key None pairs rest = (rest ≡ pairs) × HasOtherKey key pairs
IsTaken key (Some text) pairs rest = pairs ≡ (key, text) ∷ rest

-- a text is what is printed of a value
pub record IsSpelling (text : List ℕ) (value : Value) : Type 0 where
  pub proper : IsProperCell (Some value)
  pub text_is : text_of_value value ≡ text

-- a text, if there is one, is what is printed of a cell
abbrev pub IsPrintedBy : Option (List ℕ) → Option Value → Type 0
IsPrintedBy text cell = option_map text_of_value cell ≡ text

-- a cell with a text stands at the end of a row
pub record Pushes (text : Option (List ℕ)) (row more : List (Option Value)) : Type 0 where
  pub cell : Option Value
  pub proper : IsProperCell cell
  pub printed : IsPrintedBy text cell
  pub more_is : more ≡ row ++ cell ∷ []
