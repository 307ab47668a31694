-- The parts of a manifest's text.
use Rattle.std.specs.Prelude.{◌≡◌, ◌⊎◌, ◌<◌, ◌^◌, map, length, ℕ, Bool, true, false, ◌&&◌, ◌||◌, List, [], ◌∷◌, ◌++◌, codes, nat_eq, slice_index, if◌then◌else◌, IsTrue}
use Rattle.std.specs.List.{list_all, starts_with, IsDistinct}
use Rattle.std.specs.List.Sorted.{IsStrictlySortedBy}
use Rattle.std.specs.Str.{is_utf8}
use Rattle.std.specs.Ordering.{is_lt}
use Rattle.hex.specs.Hex.{encode_lower}
use Rattle.nf_core.specs.Identifiers.{is_identifier}
use Rattle.nf_core.specs.Texts.{text_cmp, text_eq, IsPlain}
use Rattle.nf_lex.specs.Bytes.{is_inner, is_in_line}
use Rattle.nf_cast.specs.declared.manifests.CName.{CName}
use Rattle.nf_cast.specs.declared.manifests.CManifest.{CManifest}
use Rattle.nf_cparse.specs.inner.Readings.{IsBehind, AreListed}

-- a whole identifier: what stands behind it doesn't go on with it
pub record IsIdentifierAt (bytes word rest : List ℕ) : Type 0 where
  pub is : bytes ≡ word ++ rest
  pub identifier : IsTrue (is_identifier word)
  pub ends : is_inner (slice_index rest 0) ≡ false

-- a key behind a space
pub record IsKeyAt (bytes key rest : List ℕ) : Type 0 where
  pub behind : List ℕ
  pub space : IsBehind bytes (codes " ") behind
  pub word : IsIdentifierAt behind key rest

-- LF, which ends a line
abbrev pub IsLineEnd : List ℕ → List ℕ → Type 0
IsLineEnd bytes rest = IsBehind bytes (codes "\n") rest

-- keys up to the end of their line
abbrev pub AreKeysAt : List ℕ → List (List ℕ) → List ℕ → Type 0
AreKeysAt = AreListed IsKeyAt IsLineEnd

-- a text is below the first of some others, if there is one
abbrev pub is_below : List ℕ → List (List ℕ) → Bool
is_below text [] = true
is_below text (other ∷ others) = is_lt (text_cmp text other)

-- each text is below the next one
abbrev pub ascend : List (List ℕ) → Bool
ascend [] = true
ascend (text ∷ texts) = is_below text texts && ascend texts

-- the word with which the line of a name begins
abbrev pub word_of_name : Bool → List ℕ
word_of_name is_head = if is_head then codes "head " else codes "name "

-- the line of a name: its word, the name, and its keys, which ascend
pub record IsNameAt (bytes : List ℕ) (n : CName) (rest : List ℕ) : Type 0 where
  pub behind : List ℕ
  pub after : List ℕ
  pub word : IsBehind bytes (word_of_name n.is_head) behind
  pub name : IsIdentifierAt behind n.name after
  pub keys : AreKeysAt after n.keys rest
  pub ascending : IsStrictlySortedBy text_cmp n.keys

-- whether the line of a name comes next
abbrev pub begins_name : List ℕ → Bool
begins_name bytes = starts_with nat_eq bytes (codes "name ") || starts_with nat_eq bytes (codes "head ")

-- no line of a name comes next
pub record IsBehindNames (bytes rest : List ℕ) : Type 0 where
  pub stays : rest ≡ bytes
  pub none : begins_name bytes ≡ false

-- the lines of names
abbrev pub AreNamesAt : List ℕ → List CName → List ℕ → Type 0
AreNamesAt = AreListed IsNameAt IsBehindNames

-- a line up to its LF
pub record IsLineAt (bytes line rest : List ℕ) : Type 0 where
  pub is : bytes ≡ line ++ 10 ∷ rest
  pub inside : list_all is_in_line line ≡ true

-- the bytes of a text in hexadecimal
pub record IsEncoded (digits text : List ℕ) : Type 0 where
  pub is : digits ≡ encode_lower text
  pub utf8 : IsTrue (is_utf8 text)

-- the digits of a text, which is plain, up to the end of their line
pub record AreDigitsAt (bytes text rest : List ℕ) : Type 0 where
  pub digits : List ℕ
  pub line : IsLineAt bytes digits rest
  pub encoded : IsEncoded digits text
  pub plain : IsPlain text

-- the line of a text: its word, and its digits
pub record IsTextAt (bytes text rest : List ℕ) : Type 0 where
  pub behind : List ℕ
  pub word : IsBehind bytes (codes "text x") behind
  pub digits : AreDigitsAt behind text rest

-- the last line of a manifest
abbrev pub IsManifestEnd : List ℕ → List ℕ → Type 0
IsManifestEnd bytes rest = IsBehind bytes (codes "*/\n") rest

-- the lines of texts up to the end of the manifest
abbrev pub AreTextsAt : List ℕ → List (List ℕ) → List ℕ → Type 0
AreTextsAt = AreListed IsTextAt IsManifestEnd

-- the first line of a manifest, and the version that it names
abbrev pub IsVersionAt : List ℕ → ℕ → List ℕ → Type 0
IsVersionAt bytes version rest = ((version ≡ 1) × IsBehind bytes (codes "/*nfer 1\n") rest) ⊎ ((version ≡ 2) × IsBehind bytes (codes "/*nfer 2\n") rest)

-- the lines of a manifest
pub record AreLinesAt (bytes : List ℕ) (m : CManifest) (rest : List ℕ) : Type 0 where
  pub after : List ℕ
  pub behind : List ℕ
  pub version : IsVersionAt bytes m.version after
  pub names : AreNamesAt after m.names behind
  pub texts : AreTextsAt behind m.texts rest

-- what the lines of a manifest don't say each by itself: there are fewer than 2^32 names, and names and texts are distinct
pub record AreApart (m : CManifest) : Type 0 where
  pub few : length m.names < 2 ^ 32
  pub names : IsDistinct text_eq (map (λ (n : CName). n.name) m.names)
  pub texts : IsDistinct text_eq m.texts
