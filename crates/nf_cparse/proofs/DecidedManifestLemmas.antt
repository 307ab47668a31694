-- Whether a source begins with a manifest.
use Rattle.std.proofs.Common.{◌≡◌, ◌⊎◌, inl, inr, ℕ, ◌<◌, ◌^◌, Bool, true, false, List, [], ◌∷◌, length, map, drop, refl, sym, ap, ◌∙◌, subst, codes, nat_eq, eqb, ltb, not, true≢false, arith, length-append, Result, Ok, Err}
use Rattle.std.specs.Prelude.{◌↔◌}
use Rattle.std.specs.List.{IsDistinct}
use Rattle.std.specs.Set.{distinct_count}
use Rattle.std.specs.Str.{is_utf8}
use Rattle.std.specs.Cmp.Lexicographic.{pointwise, nat_list_eq_equiv}
use Rattle.std.proofs.lemmas.Bool.{ltb-true}
use Rattle.std.proofs.lemmas.Bool.Decides.{Decides-eqb, Decides-ltb}
use Rattle.std.proofs.lemmas.Map.Made.{IsDistinct-from_count, distinct_count-from_IsDistinct}
use Rattle.std.proofs.lemmas.Slice.Eq.{bytes_eq-Decides}
use Rattle.hex.specs.Hex.{decode_of, encode_lower}
use Rattle.hex.specs.declared.error.FromHexError.{FromHexError}
use Rattle.nf_core.specs.Texts.{text_eq, IsPlain}
use Rattle.nf_text.specs.Value.{is_plain}
use Rattle.nf_cast.specs.declared.manifests.CName.{CName}
use Rattle.nf_cast.specs.declared.manifests.CManifest.{CManifest}
use Rattle.nf_cparse.specs.Manifests.{BeginsWith}
use Rattle.nf_cparse.specs.inner.Readings.{IsBehind}
use Rattle.nf_cparse.specs.inner.ManifestParts.{IsIdentifierAt, IsKeyAt, IsLineEnd, AreKeysAt, ascend, word_of_name, IsNameAt, begins_name, IsBehindNames, AreNamesAt, IsEncoded, AreDigitsAt, IsTextAt, IsManifestEnd, AreTextsAt, IsVersionAt, AreLinesAt, AreApart}
use Rattle.nf_cparse.proofs.AscendingLemmas.{ascend_sorted, not_ascending}
use Rattle.nf_cparse.proofs.EncodedLemmas.{encoded_is, not_again, no_text_where_refused}
use Rattle.nf_cparse.proofs.ManifestNameLemmas.{key_apart, key_same, line_end_same, keys_same, word_same, keys_of_name, name_apart, name_same, behind_names_same, names_same, name_shorter}
use Rattle.nf_cparse.proofs.ManifestTextLemmas.{digits_encode, digits_plain, text_apart, text_same, manifest_end_same, digits_of_text}
use Rattle.nf_cparse.proofs.ManifestLemmas.{version_same, lines_begin, begins_lines, not_apart}
use Rattle.nf_cparse.proofs.DecidedLemmas.{IsDecided, there, absent, tested, or_else, by_first, behind_decided, identifier_decided, line_decided, listed_decided}

-- keys
key_decided : (bytes : List ℕ) → IsDecided (IsKeyAt bytes)
key_decided bytes =
    by_first (behind_decided bytes (codes " ")) (λ f key rest h. f tt h.behind h.space) (λ u behind space.
    by_first (identifier_decided behind)
    (λ f key rest h. f key rest (subst (λ b. IsIdentifierAt b key rest) (ap (drop 1) (sym h.space ∙ space)) h.word))
    (λ key rest word. there key rest (record { behind = behind; space = space; word = word })))

key_shorter : (bytes next key : List ℕ) → IsKeyAt bytes key next → length next < length bytes
key_shorter bytes next key h = omega (arith, ap length h.space, ap length h.word.is, length-append (codes " ") h.behind, length-append key next)

keys_decided : (bytes : List ℕ) → IsDecided (AreKeysAt bytes)
keys_decided = listed_decided IsKeyAt IsLineEnd key_apart key_same line_end_same key_shorter key_decided (λ bytes. behind_decided bytes (codes "\n"))

-- the line of a name
IsWord : List ℕ → Bool → List ℕ → Type 0
IsWord bytes is_head rest = IsBehind bytes (word_of_name is_head) rest

module _ (bytes : List ℕ) (no_head : (u : Unit {0}) (rest : List ℕ) → IsBehind bytes (codes "head ") rest → ⊥) (no_name : (u : Unit {0}) (rest : List ℕ) → IsBehind bytes (codes "name ") rest → ⊥) where
  no_word : (is_head : Bool) (rest : List ℕ) → IsBehind bytes (word_of_name is_head) rest → ⊥
  no_word true rest e = no_head tt rest e
  no_word false rest e = no_name tt rest e

word_decided : (bytes : List ℕ) → IsDecided (λ is_head. IsBehind bytes (word_of_name is_head))
word_decided bytes =
    or_else (behind_decided bytes (codes "head ")) (λ u rest e. there true rest e) (λ no_head.
    by_first (behind_decided bytes (codes "name ")) (no_word bytes no_head) (λ u rest e. there false rest e))

name_decided : (bytes : List ℕ) → IsDecided (IsNameAt bytes)
name_decided bytes =
    by_first (word_decided bytes) (λ f n rest h. f n.is_head h.behind h.word) (λ is_head behind word.
    by_first (identifier_decided behind)
    (λ f n rest h. f n.name h.after (subst (λ b. IsIdentifierAt b n.name h.after) (word_same bytes h.behind behind n.is_head is_head h.word word).1 h.name))
    (λ name after at.
    by_first (keys_decided after) (λ f n rest h. f n.keys rest (keys_of_name bytes behind after name is_head word at n rest h)) (λ keys rest listed.
    tested (ascend keys)
    (λ e. there (record { is_head = is_head; name = name; keys = keys }) rest
    (record { behind = behind; after = after; word = word; name = at; keys = listed; ascending = ascend_sorted keys e }))
    (λ e. absent (λ n next h.
    not_ascending keys n.keys e (keys_same after n.keys keys next rest (keys_of_name bytes behind after name is_head word at n next h) listed).0 h.ascending)))))

names_end_decided : (bytes : List ℕ) → IsDecided (λ (u : Unit {0}) rest. IsBehindNames bytes rest)
names_end_decided bytes = tested (begins_name bytes)
    (λ e. absent (λ u rest h. true≢false (sym e ∙ h.none)))
    (λ e. there tt bytes (record { stays = refl; none = e }))

names_decided : (bytes : List ℕ) → IsDecided (AreNamesAt bytes)
names_decided = listed_decided IsNameAt IsBehindNames name_apart name_same behind_names_same name_shorter name_decided names_end_decided

-- the text that digits are
decoded : (digits : List ℕ) (r : Result (List ℕ) FromHexError) → decode_of digits ≡ r → IsDecided (λ text (rest : List ℕ). IsEncoded digits text)
decoded digits (Err f) r = absent (λ text rest h. no_text_where_refused digits f r text h)
decoded digits (Ok bytes) r =
    tested (is_utf8 bytes)
    (λ utf8. tested (pointwise nat_eq (encode_lower bytes) digits)
    (λ e. there bytes [] (record { is = sym ((bytes_eq-Decides (encode_lower bytes) digits).0 e); utf8 = utf8 }))
    (λ e. absent (λ text rest h. not_again digits bytes (encode_lower bytes) r refl (sym (ap not e)) text h)))
    (λ e. absent (λ text rest h. true≢false (sym h.utf8 ∙ ap is_utf8 (encoded_is digits bytes text r h) ∙ e)))

encoded_decided : (digits : List ℕ) → IsDecided (λ text (rest : List ℕ). IsEncoded digits text)
encoded_decided digits = decoded digits (decode_of digits) refl

text_shorter : (bytes next text : List ℕ) → IsTextAt bytes text next → length next < length bytes
text_shorter bytes next text h =
    omega (arith, ap length h.word, ap length h.digits.line.is, length-append (codes "text x") h.behind, length-append h.digits.digits (10 ∷ next))

-- what a manifest's lines don't say each by itself
distinct_decided : (texts : List (List ℕ)) → IsDistinct text_eq texts ⊎ (IsDistinct text_eq texts → ⊥)
distinct_decided texts = by (eqb (distinct_count text_eq texts) (length texts)) refl
  where
    by : (b : Bool) → eqb (distinct_count text_eq texts) (length texts) ≡ b → IsDistinct text_eq texts ⊎ (IsDistinct text_eq texts → ⊥)
    by true e = inl (IsDistinct-from_count nat_list_eq_equiv texts ((Decides-eqb (distinct_count text_eq texts) (length texts)).0 e))
    by false e = inr (λ d. true≢false (sym ((Decides-eqb (distinct_count text_eq texts) (length texts)).1 (distinct_count-from_IsDistinct nat_list_eq_equiv texts d)) ∙ e))

apart_decided : (m : CManifest) → AreApart m ⊎ (AreApart m → ⊥)
apart_decided m = by (ltb (length m.names) (2 ^ 32)) refl (distinct_decided (map (λ (n : CName). n.name) m.names)) (distinct_decided m.texts)
  where
    by : (b : Bool) → ltb (length m.names) (2 ^ 32) ≡ b
        → IsDistinct text_eq (map (λ (n : CName). n.name) m.names) ⊎ (IsDistinct text_eq (map (λ (n : CName). n.name) m.names) → ⊥)
        → IsDistinct text_eq m.texts ⊎ (IsDistinct text_eq m.texts → ⊥) → AreApart m ⊎ (AreApart m → ⊥)
    by false e names texts = inr (λ a. true≢false (sym ((Decides-ltb (length m.names) (2 ^ 32)).1 a.few) ∙ e))
    by true e (inr f) texts = inr (λ a. f a.names)
    by true e (inl names) (inr f) = inr (λ a. f a.texts)
    by true e (inl names) (inl texts) = inl (record { few = ltb-true (length m.names) (2 ^ 32) e; names = names; texts = texts })

-- the first line
module _ (bytes : List ℕ) (no_one : (u : Unit {0}) (rest : List ℕ) → IsBehind bytes (codes "/*nfer 1\n") rest → ⊥) (no_two : (u : Unit {0}) (rest : List ℕ) → IsBehind bytes (codes "/*nfer 2\n") rest → ⊥) where
  no_version : (v : ℕ) (rest : List ℕ) → IsVersionAt bytes v rest → ⊥
  no_version v rest (inl h) = no_one tt rest h.1
  no_version v rest (inr h) = no_two tt rest h.1

version_decided : (bytes : List ℕ) → IsDecided (IsVersionAt bytes)
version_decided bytes =
    or_else (behind_decided bytes (codes "/*nfer 1\n")) (λ u rest e. there 1 rest (inl (refl, e))) (λ no_one.
    by_first (behind_decided bytes (codes "/*nfer 2\n")) (no_version bytes no_one) (λ u rest e. there 2 rest (inr (refl, e))))

-- a text is plain exactly where it passes the test
module _ (plain : (text : List ℕ) → (is_plain text ≡ true) ↔ IsPlain text) where
  digits_decided : (bytes : List ℕ) → IsDecided (AreDigitsAt bytes)
  digits_decided bytes =
      by_first (line_decided bytes) (λ f text rest h. f h.digits rest h.line) (λ line rest l.
      by_first (encoded_decided line) (λ f text next h. f text [] (digits_encode bytes line rest l text next h)) (λ text end e.
      tested (is_plain text)
      (λ p. there text rest (record { digits = line; line = l; encoded = e; plain = (plain text).0 p }))
      (λ p. absent (λ other next h. true≢false (sym ((plain text).1 (digits_plain bytes line rest text l e other next h)) ∙ p)))))

  text_decided : (bytes : List ℕ) → IsDecided (IsTextAt bytes)
  text_decided bytes =
      by_first (behind_decided bytes (codes "text x")) (λ f text rest h. f tt h.behind h.word) (λ u digits word.
      by_first (digits_decided digits) (λ f text next h. f text next (digits_of_text bytes digits word text next h))
      (λ text next h. there text next (record { behind = digits; word = word; digits = h })))

  texts_decided : (bytes : List ℕ) → IsDecided (AreTextsAt bytes)
  texts_decided = listed_decided IsTextAt IsManifestEnd text_apart text_same manifest_end_same text_shorter text_decided (λ bytes. behind_decided bytes (codes "*/\n"))

  lines_decided : (bytes : List ℕ) → IsDecided (AreLinesAt bytes)
  lines_decided bytes =
      by_first (version_decided bytes) (λ f m rest h. f m.version h.after h.version) (λ version after v.
      let names_of : (m : CManifest) (rest : List ℕ) (h : AreLinesAt bytes m rest) → AreNamesAt after m.names h.behind = λ m rest h.
      subst (λ b. AreNamesAt b m.names h.behind) (version_same bytes h.after after m.version version h.version v).1 h.names in
      by_first (names_decided after) (λ f m rest h. f m.names h.behind (names_of m rest h)) (λ names behind n.
      by_first (texts_decided behind)
      (λ f m rest h. f m.texts rest (subst (λ b. AreTextsAt b m.texts rest) (names_same after m.names names h.behind behind (names_of m rest h) n).1 h.texts))
      (λ texts rest t. there (record { version = version; names = names; texts = texts }) rest
      (record { after = after; behind = behind; version = v; names = n; texts = t }))))

  pub manifest_decided : (source : List ℕ) → IsDecided (BeginsWith source)
  manifest_decided source = by_first (lines_decided source) (λ f m rest h. f m rest (begins_lines source m rest h)) (λ m rest l. whole m rest l (apart_decided m))
    where
      whole : (m : CManifest) (rest : List ℕ) → AreLinesAt source m rest → AreApart m ⊎ (AreApart m → ⊥) → IsDecided (BeginsWith source)
      whole m rest l (inl a) = there m rest (lines_begin source m rest l a)
      whole m rest l (inr f) = absent (not_apart source m rest l f)
