-- The lines of a manifest's names.
use Rattle.std.proofs.Common.{◌≡◌, ℕ, ◌<◌, Bool, true, false, List, [], ◌∷◌, ◌++◌, length, drop, get_or, refl, sym, ap, ◌∙◌, subst, codes, true≢false, arith, length-append}
use Rattle.std.specs.Prelude.{IsTrue, All, flat_map}
use Rattle.std.proofs.lemmas.List.{append_assoc}
use Rattle.std.proofs.lemmas.List.Elements.{All-nil, All-cons, All-head, All-tail}
use Rattle.nf_core.specs.Identifiers.{is_identifier}
use Rattle.nf_lex.specs.Bytes.{is_inner}
use Rattle.nf_cast.specs.declared.manifests.CName.{CName}
use Rattle.nf_cast.specs.Program.{IsManifestName}
use Rattle.nf_cast.specs.Text.{name_line}
use Rattle.nf_cparse.specs.inner.Readings.{IsBehind, ends, more}
use Rattle.nf_cparse.specs.inner.ManifestParts.{IsIdentifierAt, IsKeyAt, IsLineEnd, AreKeysAt, word_of_name, IsNameAt, begins_name, IsBehindNames, AreNamesAt}
use Rattle.nf_cparse.proofs.PartLemmas.{differ, identifier_word, identifier_rest}
use Rattle.nf_cparse.proofs.ListedLemmas.{listed_same}

-- one whole identifier stands at the front of bytes
pub identifier_same : (bytes word other rest next : List ℕ) → IsIdentifierAt bytes word rest → IsIdentifierAt bytes other next → (word ≡ other) × (rest ≡ next)
identifier_same bytes word other rest next h g =
    (identifier_word bytes word rest h ∙ sym (identifier_word bytes other next g), identifier_rest bytes word rest h ∙ sym (identifier_rest bytes other next g))

-- one key comes next, or the end of the line
pub key_apart : (bytes next rest key : List ℕ) → IsKeyAt bytes key next → IsLineEnd bytes rest → ⊥
key_apart bytes next rest key h e = differ 32 10 refl (ap (λ xs. get_or xs 0 0) (sym h.space ∙ e))

pub key_same : (bytes next other key k : List ℕ) → IsKeyAt bytes key next → IsKeyAt bytes k other → (key ≡ k) × (next ≡ other)
key_same bytes next other key k h g =
    let e : h.behind ≡ g.behind = ap (drop 1) (sym h.space ∙ g.space) in
    identifier_same g.behind key k next other (subst (λ b. IsIdentifierAt b key next) e h.word) g.word

pub line_end_same : (bytes rest other : List ℕ) → IsLineEnd bytes rest → IsLineEnd bytes other → rest ≡ other
line_end_same bytes rest other e f = ap (drop 1) (sym e ∙ f)

pub keys_same : (bytes : List ℕ) (keys others : List (List ℕ)) (rest next : List ℕ) → AreKeysAt bytes keys rest → AreKeysAt bytes others next → (keys ≡ others) × (rest ≡ next)
keys_same = listed_same IsKeyAt IsLineEnd key_apart key_same line_end_same

-- the text of keys and of the end of their line
pub keys_text : List (List ℕ) → List ℕ → List ℕ
keys_text keys rest = flat_map (λ key. codes " " ++ key) keys ++ (codes "\n" ++ rest)

keys_text_more : (key : List ℕ) (keys : List (List ℕ)) (rest : List ℕ) → keys_text (key ∷ keys) rest ≡ 32 ∷ key ++ keys_text keys rest
unfolding keys_text
keys_text_more key keys rest = ap (λ xs. 32 ∷ xs) (append_assoc key (flat_map (λ k. codes " " ++ k) keys) (codes "\n" ++ rest))

keys_text_ends : (keys : List (List ℕ)) (rest : List ℕ) → is_inner (get_or (keys_text keys rest) 0 0) ≡ false
unfolding keys_text
keys_text_ends [] rest = refl
keys_text_ends (key ∷ keys) rest = refl

pub keys_are_text : (bytes : List ℕ) (keys : List (List ℕ)) (rest : List ℕ) → AreKeysAt bytes keys rest → (bytes ≡ keys_text keys rest) × All (λ key. IsTrue (is_identifier key)) keys
unfolding keys_text
keys_are_text bytes _ rest (ends e) = (e, All-nil (λ key. IsTrue (is_identifier key)))
keys_are_text bytes _ rest (more {next = next} {x = key} {xs = keys} i l) =
    let p = keys_are_text next keys rest l in (
      i.space ∙ ap (λ xs. 32 ∷ xs) (i.word.is ∙ ap (λ xs. key ++ xs) p.0) ∙ sym (keys_text_more key keys rest),
      All-cons (λ k. IsTrue (is_identifier k)) key keys i.word.identifier p.1,
    )

pub text_is_keys : (keys : List (List ℕ)) (rest : List ℕ) → All (λ key. IsTrue (is_identifier key)) keys → AreKeysAt (keys_text keys rest) keys rest
unfolding keys_text
text_is_keys [] rest all = ends refl
text_is_keys (key ∷ keys) rest all = more
    (record {
      behind = key ++ keys_text keys rest;
      space = keys_text_more key keys rest;
      word = record { is = refl; identifier = All-head (λ k. IsTrue (is_identifier k)) key keys all; ends = keys_text_ends keys rest };
    })
    (text_is_keys keys rest (All-tail (λ k. IsTrue (is_identifier k)) key keys all))

-- one word begins the line of a name
word_apart : (bytes rest next : List ℕ) → IsBehind bytes (codes "head ") rest → IsBehind bytes (codes "name ") next → ⊥
word_apart bytes rest next e f = differ 104 110 refl (ap (λ xs. get_or xs 0 0) (sym e ∙ f))

pub word_same : (bytes rest next : List ℕ) (h g : Bool) → IsBehind bytes (word_of_name h) rest → IsBehind bytes (word_of_name g) next → (h ≡ g) × (rest ≡ next)
word_same bytes rest next true true e f = (refl, ap (drop 5) (sym e ∙ f))
word_same bytes rest next true false e f = absurd (word_apart bytes rest next e f)
word_same bytes rest next false true e f = absurd (word_apart bytes next rest f e)
word_same bytes rest next false false e f = (refl, ap (drop 5) (sym e ∙ f))

-- one line of a name comes next
pub name_same : (bytes next other : List ℕ) (n m : CName) → IsNameAt bytes n next → IsNameAt bytes m other → (n ≡ m) × (next ≡ other)
name_same bytes next other n m h g =
    let w = word_same bytes h.behind g.behind n.is_head m.is_head h.word g.word in
    let i = identifier_same g.behind n.name m.name h.after g.after (subst (λ b. IsIdentifierAt b n.name h.after) w.1 h.name) g.name in
    let k = keys_same g.after n.keys m.keys next other (subst (λ b. AreKeysAt b n.keys next) i.1 h.keys) g.keys in
    (λ j. record { is_head = w.0 j; name = i.0 j; keys = k.0 j }, k.1)

word_begins : (h : Bool) (rest : List ℕ) → begins_name (word_of_name h ++ rest) ≡ true
word_begins true rest = refl
word_begins false rest = refl

pub name_begins : (bytes next : List ℕ) (n : CName) → IsNameAt bytes n next → begins_name bytes ≡ true
name_begins bytes next n h = ap begins_name h.word ∙ word_begins n.is_head h.behind

pub name_apart : (bytes next rest : List ℕ) (n : CName) → IsNameAt bytes n next → IsBehindNames bytes rest → ⊥
name_apart bytes next rest n h e = true≢false (sym (name_begins bytes next n h) ∙ e.none)

pub behind_names_same : (bytes rest other : List ℕ) → IsBehindNames bytes rest → IsBehindNames bytes other → rest ≡ other
behind_names_same bytes rest other e f = e.stays ∙ sym f.stays

pub names_same : (bytes : List ℕ) (names others : List CName) (rest next : List ℕ) → AreNamesAt bytes names rest → AreNamesAt bytes others next → (names ≡ others) × (rest ≡ next)
names_same = listed_same IsNameAt IsBehindNames name_apart name_same behind_names_same

-- the line of a name by its parts
name_line_parts : (n : CName) (rest : List ℕ) → name_line n ++ rest ≡ word_of_name n.is_head ++ (n.name ++ keys_text n.keys rest)
unfolding keys_text
name_line_parts n rest =
    let keys = flat_map (λ key. codes " " ++ key) n.keys in
    append_assoc (word_of_name n.is_head ++ n.name ++ keys) (codes "\n") rest
    ∙ append_assoc (word_of_name n.is_head ++ n.name) keys (codes "\n" ++ rest)
    ∙ append_assoc (word_of_name n.is_head) n.name (keys ++ (codes "\n" ++ rest))

pub name_is_text : (bytes rest : List ℕ) (n : CName) → IsNameAt bytes n rest → (bytes ≡ name_line n ++ rest) × IsManifestName n
name_is_text bytes rest n h =
    let k = keys_are_text h.after n.keys rest h.keys in (
      h.word ∙ ap (λ xs. word_of_name n.is_head ++ xs) (h.name.is ∙ ap (λ xs. n.name ++ xs) k.0) ∙ sym (name_line_parts n rest),
      record { identifiers = record { name = h.name.identifier; keys = k.1 }; ascending = h.ascending },
    )

pub text_is_name : (n : CName) (rest : List ℕ) → IsManifestName n → IsNameAt (name_line n ++ rest) n rest
text_is_name n rest h = record {
  behind = n.name ++ keys_text n.keys rest;
  after = keys_text n.keys rest;
  word = name_line_parts n rest;
  name = record { is = refl; identifier = h.identifiers.name; ends = keys_text_ends n.keys rest };
  keys = text_is_keys n.keys rest h.identifiers.keys;
  ascending = h.ascending;
}

-- the lines of names
pub names_are_text : (bytes : List ℕ) (names : List CName) (rest : List ℕ) → AreNamesAt bytes names rest → (bytes ≡ flat_map name_line names ++ rest) × All IsManifestName names × (begins_name rest ≡ false)
names_are_text bytes _ rest (ends e) = (sym e.stays, All-nil IsManifestName, ap begins_name e.stays ∙ e.none)
names_are_text bytes _ rest (more {next = next} {x = n} {xs = names} i l) =
    let p = names_are_text next names rest l in
    let q = name_is_text bytes next n i in
    (q.0 ∙ ap (λ xs. name_line n ++ xs) p.0 ∙ sym (append_assoc (name_line n) (flat_map name_line names) rest), All-cons IsManifestName n names q.1 p.1, p.2)

pub text_is_names : (names : List CName) (rest : List ℕ) → All IsManifestName names → begins_name rest ≡ false → AreNamesAt (flat_map name_line names ++ rest) names rest
text_is_names [] rest all none = ends (record { stays = refl; none = none })
text_is_names (n ∷ names) rest all none =
    subst (λ bytes. AreNamesAt bytes (n ∷ names) rest) (sym (append_assoc (name_line n) (flat_map name_line names) rest))
    (more (text_is_name n (flat_map name_line names ++ rest) (All-head IsManifestName n names all)) (text_is_names names rest (All-tail IsManifestName n names all) none))

-- a line of a name has a byte at least
pub name_shorter : (bytes next : List ℕ) (n : CName) → IsNameAt bytes n next → length next < length bytes
name_shorter bytes next n h =
    let front = word_of_name n.is_head ++ n.name ++ flat_map (λ key. codes " " ++ key) n.keys in
    omega (arith, ap length (name_is_text bytes next n h).0, length-append (front ++ codes "\n") next, length-append front (codes "\n"))

-- behind the word and the name of a line only its keys come
pub keys_of_name : (bytes behind after name : List ℕ) (is_head : Bool) → IsBehind bytes (word_of_name is_head) behind → IsIdentifierAt behind name after
    → (n : CName) (rest : List ℕ) → IsNameAt bytes n rest → AreKeysAt after n.keys rest
keys_of_name bytes behind after name is_head word at n rest h =
    let w = word_same bytes h.behind behind n.is_head is_head h.word word in
    let i = identifier_same behind n.name name h.after after (subst (λ b. IsIdentifierAt b n.name h.after) w.1 h.name) at in
    subst (λ b. AreKeysAt b n.keys rest) i.1 h.keys
