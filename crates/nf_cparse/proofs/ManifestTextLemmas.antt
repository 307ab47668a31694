-- The lines of a manifest's texts.
use Rattle.std.proofs.Common.{◌≡◌, ℕ, List, [], ◌∷◌, ◌++◌, drop, get_or, refl, sym, ap, ◌∙◌, subst, codes}
use Rattle.std.specs.Prelude.{All, flat_map}
use Rattle.std.proofs.lemmas.List.{append_assoc}
use Rattle.std.proofs.lemmas.List.Elements.{All-nil, All-cons, All-head, All-tail}
use Rattle.hex.specs.Hex.{encode_lower}
use Rattle.nf_core.specs.Texts.{IsPlain}
use Rattle.nf_cast.specs.Program.{IsManifestText}
use Rattle.nf_cast.specs.Text.{text_line}
use Rattle.nf_cparse.specs.inner.Readings.{IsBehind, ends, more}
use Rattle.nf_cparse.specs.inner.ManifestParts.{IsLineAt, IsEncoded, AreDigitsAt, IsTextAt, IsManifestEnd, AreTextsAt}
use Rattle.nf_cparse.proofs.PartLemmas.{differ, line_word, line_rest}
use Rattle.nf_cparse.proofs.EncodedLemmas.{encoded_same, encoded_in_line}
use Rattle.nf_cparse.proofs.ListedLemmas.{listed_same}

-- one line stands at the front of bytes
pub line_same : (bytes line other rest next : List ℕ) → IsLineAt bytes line rest → IsLineAt bytes other next → (line ≡ other) × (rest ≡ next)
line_same bytes line other rest next h g =
    (line_word bytes line rest h ∙ sym (line_word bytes other next g), ap (drop 1) (line_rest bytes line rest h ∙ sym (line_rest bytes other next g)))

-- the digits of one text
pub digits_same : (bytes text other rest next : List ℕ) → AreDigitsAt bytes text rest → AreDigitsAt bytes other next → (text ≡ other) × (rest ≡ next)
digits_same bytes text other rest next h g =
    let l = line_same bytes h.digits g.digits rest next h.line g.line in
    (encoded_same g.digits text other (subst (λ d. IsEncoded d text) l.0 h.encoded) g.encoded, l.1)

-- where the line is no text's, or that of one that isn't plain, no digits of a text stand there
pub digits_encode : (bytes line rest : List ℕ) → IsLineAt bytes line rest → (text next : List ℕ) → AreDigitsAt bytes text next → IsEncoded line text
digits_encode bytes line rest l text next h = subst (λ d. IsEncoded d text) (line_same bytes h.digits line next rest h.line l).0 h.encoded

pub digits_plain : (bytes line rest read : List ℕ) → IsLineAt bytes line rest → IsEncoded line read → (text next : List ℕ) → AreDigitsAt bytes text next → IsPlain read
digits_plain bytes line rest read l e text next h = subst IsPlain (encoded_same line text read (digits_encode bytes line rest l text next h) e) h.plain

-- one text comes next, or the end of the manifest
word_same : (bytes rest other : List ℕ) → IsBehind bytes (codes "text x") rest → IsBehind bytes (codes "text x") other → rest ≡ other
word_same bytes rest other e f = ap (drop 6) (sym e ∙ f)

pub text_apart : (bytes next rest text : List ℕ) → IsTextAt bytes text next → IsManifestEnd bytes rest → ⊥
text_apart bytes next rest text h e = differ 116 42 refl (ap (λ xs. get_or xs 0 0) (sym h.word ∙ e))

pub text_same : (bytes next other text t : List ℕ) → IsTextAt bytes text next → IsTextAt bytes t other → (text ≡ t) × (next ≡ other)
text_same bytes next other text t h g =
    digits_same g.behind text t next other (subst (λ b. AreDigitsAt b text next) (word_same bytes h.behind g.behind h.word g.word) h.digits) g.digits

pub manifest_end_same : (bytes rest other : List ℕ) → IsManifestEnd bytes rest → IsManifestEnd bytes other → rest ≡ other
manifest_end_same bytes rest other e f = ap (drop 3) (sym e ∙ f)

pub texts_same : (bytes : List ℕ) (texts others : List (List ℕ)) (rest next : List ℕ) → AreTextsAt bytes texts rest → AreTextsAt bytes others next → (texts ≡ others) × (rest ≡ next)
texts_same = listed_same IsTextAt IsManifestEnd text_apart text_same manifest_end_same

-- behind the word of a text only a text comes, if its digits do
module _ (bytes digits : List ℕ) (word : IsBehind bytes (codes "text x") digits) where
  pub digits_of_text : (text next : List ℕ) → IsTextAt bytes text next → AreDigitsAt digits text next
  digits_of_text text next h = subst (λ b. AreDigitsAt b text next) (word_same bytes h.behind digits h.word word) h.digits

  pub no_end_at_text : (rest : List ℕ) → IsManifestEnd bytes rest → ⊥
  no_end_at_text rest e = differ 116 42 refl (ap (λ xs. get_or xs 0 0) (sym word ∙ e))

-- the line of a text by its parts
text_line_parts : (text rest : List ℕ) → text_line text ++ rest ≡ codes "text x" ++ (encode_lower text ++ (10 ∷ rest))
text_line_parts text rest =
    append_assoc (codes "text x" ++ encode_lower text) (codes "\n") rest
    ∙ append_assoc (codes "text x") (encode_lower text) (codes "\n" ++ rest)

pub text_is_line : (bytes text rest : List ℕ) → IsTextAt bytes text rest → (bytes ≡ text_line text ++ rest) × IsManifestText text
text_is_line bytes text rest h = (
  h.word ∙ ap (λ xs. codes "text x" ++ xs) (h.digits.line.is ∙ ap (λ d. d ++ 10 ∷ rest) h.digits.encoded.is) ∙ sym (text_line_parts text rest),
  record { utf8 = h.digits.encoded.utf8; plain = h.digits.plain },
)

pub line_is_text : (text rest : List ℕ) → IsManifestText text → IsTextAt (text_line text ++ rest) text rest
line_is_text text rest h = record {
  behind = encode_lower text ++ (10 ∷ rest);
  word = text_line_parts text rest;
  digits = record {
    digits = encode_lower text;
    line = record { is = refl; inside = encoded_in_line text };
    encoded = record { is = refl; utf8 = h.utf8 };
    plain = h.plain;
  };
}

-- the lines of texts and the end of the manifest
pub texts_are_lines : (bytes : List ℕ) (texts : List (List ℕ)) (rest : List ℕ) → AreTextsAt bytes texts rest → (bytes ≡ flat_map text_line texts ++ (codes "*/\n" ++ rest)) × All IsManifestText texts
texts_are_lines bytes _ rest (ends e) = (e, All-nil IsManifestText)
texts_are_lines bytes _ rest (more {next = next} {x = text} {xs = texts} i l) =
    let p = texts_are_lines next texts rest l in
    let q = text_is_line bytes text next i in
    (q.0 ∙ ap (λ xs. text_line text ++ xs) p.0 ∙ sym (append_assoc (text_line text) (flat_map text_line texts) (codes "*/\n" ++ rest)), All-cons IsManifestText text texts q.1 p.1)

pub lines_are_texts : (texts : List (List ℕ)) (rest : List ℕ) → All IsManifestText texts → AreTextsAt (flat_map text_line texts ++ (codes "*/\n" ++ rest)) texts rest
lines_are_texts [] rest all = ends refl
lines_are_texts (text ∷ texts) rest all =
    subst (λ bytes. AreTextsAt bytes (text ∷ texts) rest) (sym (append_assoc (text_line text) (flat_map text_line texts) (codes "*/\n" ++ rest)))
    (more (line_is_text text (flat_map text_line texts ++ (codes "*/\n" ++ rest)) (All-head IsManifestText text texts all)) (lines_are_texts texts rest (All-tail IsManifestText text texts all)))
