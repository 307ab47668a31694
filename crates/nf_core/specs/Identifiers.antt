-- Identifiers: the names, labels and keys that a specification can write. Wide names, which none can.
use Rattle.std.specs.Prelude.{ℕ, Bool, false, not, ◌&&◌, ◌||◌, ◌==◌, nat_le, List, [], ◌∷◌, codes, bytes_eq, All, IsTrue}
use Rattle.std.specs.List.{list_any, list_all}

-- `A` to `Z`, `a` to `z` and `_`
abbrev pub is_letter : ℕ → Bool
is_letter byte = (nat_le 65 byte && nat_le byte 90) || (nat_le 97 byte && nat_le byte 122) || byte == 95

-- `0` to `9`
abbrev pub is_digit : ℕ → Bool
is_digit byte = nat_le 48 byte && nat_le byte 57

-- a letter, and then letters and digits
unfoldable pub has_name_form : List ℕ → Bool
has_name_form [] = false
has_name_form (byte ∷ bytes) = is_letter byte && list_all (λ b. is_letter b || is_digit b) bytes

-- the words of the grammar
unfoldable pub keywords : List (List ℕ)
keywords = codes "module" ∷ codes "import" ∷ codes "where" ∷ codes "map" ∷ codes "begin" ∷ codes "end" ∷ codes "unless" ∷ codes "before" ∷ codes "meet" ∷ codes "during" ∷ codes "coincide"
    ∷ codes "start" ∷ codes "finish" ∷ codes "overlap" ∷ codes "slice" ∷ codes "after" ∷ codes "follow" ∷ codes "contain" ∷ codes "true" ∷ codes "false" ∷ []

-- the form of a name, and no word of the grammar
unfoldable pub is_identifier : List ℕ → Bool
is_identifier text = has_name_form text && not (list_any (λ word. bytes_eq word text) keywords)

-- a name whose text begins with `|`, as no identifier and no name of a trace does
unfoldable pub is_wide_name : List ℕ → Bool
is_wide_name [] = false
is_wide_name (byte ∷ bytes) = byte == 124

-- a name is an identifier, and so is each of its keys
pub record AreIdentifiers (text : List ℕ) (texts : List (List ℕ)) : Type 0 where
  pub name : IsTrue (is_identifier text)
  pub keys : All (λ key. IsTrue (is_identifier key)) texts

-- where a name is wide, a later one is
abbrev pub IsWideBehind : List ℕ → List ℕ → Type 0
IsWideBehind first second = IsTrue (is_wide_name first) → IsTrue (is_wide_name second)
