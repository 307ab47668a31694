-- The lines of a manifest are its text.
use Rattle.std.proofs.Common.{◌≡◌, inl, inr, ⊎_elim, ℕ, ◌-◌, ◌≤◌, false, List, [], ◌∷◌, ◌++◌, length, drop, get_or, refl, sym, ap, ◌∙◌, subst, codes, arith, length-append, decimal}
use Rattle.std.specs.Prelude.{flat_map}
use Rattle.std.proofs.lemmas.List.{append_assoc}
use Rattle.std.proofs.lemmas.Fmt.{decimal_digit}
use Rattle.std.proofs.lemmas.Bool.{cases_lt}
use Rattle.std.proofs.Math.Seq.{drop-append_seam}
use Rattle.nf_cast.specs.declared.manifests.CManifest.{CManifest}
use Rattle.nf_cast.specs.Text.{name_line, text_line, manifest_text}
use Rattle.nf_cparse.specs.Manifests.{BeginsWith}
use Rattle.nf_cparse.specs.inner.Readings.{IsBehind}
use Rattle.nf_cparse.specs.inner.ManifestParts.{IsVersionAt, AreLinesAt, AreApart, AreNamesAt, AreTextsAt, begins_name}
use Rattle.nf_cparse.proofs.PartLemmas.{differ}
use Rattle.nf_cparse.proofs.ManifestNameLemmas.{names_same, names_are_text, text_is_names}
use Rattle.nf_cparse.proofs.ManifestTextLemmas.{texts_same, texts_are_lines, lines_are_texts}

-- one first line stands at the front of bytes
versions_apart : (bytes rest other : List ℕ) → IsBehind bytes (codes "/*nfer 1\n") rest → IsBehind bytes (codes "/*nfer 2\n") other → ⊥
versions_apart bytes rest other e f = differ 49 50 refl (ap (λ xs. get_or xs 7 0) (sym e ∙ f))

pub version_same : (bytes rest other : List ℕ) (v w : ℕ) → IsVersionAt bytes v rest → IsVersionAt bytes w other → (v ≡ w) × (rest ≡ other)
version_same bytes rest other v w (inl h) (inl g) = (h.0 ∙ sym g.0, ap (drop 9) (sym h.1 ∙ g.1))
version_same bytes rest other v w (inl h) (inr g) = absurd (versions_apart bytes rest other h.1 g.1)
version_same bytes rest other v w (inr h) (inl g) = absurd (versions_apart bytes other rest g.1 h.1)
version_same bytes rest other v w (inr h) (inr g) = (h.0 ∙ sym g.0, ap (drop 9) (sym h.1 ∙ g.1))

-- one manifest has its lines there
pub lines_same : (bytes : List ℕ) (m n : CManifest) (rest other : List ℕ) → AreLinesAt bytes m rest → AreLinesAt bytes n other → (m ≡ n) × (rest ≡ other)
lines_same bytes m n rest other h g =
    let v = version_same bytes h.after g.after m.version n.version h.version g.version in
    let a = names_same g.after m.names n.names h.behind g.behind (subst (λ b. AreNamesAt b m.names h.behind) v.1 h.names) g.names in
    let t = texts_same g.behind m.texts n.texts rest other (subst (λ b. AreTextsAt b m.texts rest) a.1 h.texts) g.texts in
    (λ i. record { version = v.0 i; names = a.0 i; texts = t.0 i }, t.1)

-- the first line by its version
first_line : ℕ → List ℕ
first_line version = codes "/*nfer " ++ decimal version ++ codes "\n"

first_one : first_line 1 ≡ codes "/*nfer 1\n"
unfolding first_line
first_one = ap (λ d. codes "/*nfer " ++ d ++ codes "\n") (decimal_digit 1 (omega arith))

first_two : first_line 2 ≡ codes "/*nfer 2\n"
unfolding first_line
first_two = ap (λ d. codes "/*nfer " ++ d ++ codes "\n") (decimal_digit 2 (omega arith))

version_line : (bytes rest : List ℕ) (v : ℕ) → IsVersionAt bytes v rest → (bytes ≡ first_line v ++ rest) × (1 ≤ v) × (v ≤ 2)
version_line bytes rest v (inl h) = (h.1 ∙ ap (λ l. l ++ rest) (sym first_one ∙ ap first_line (sym h.0)), omega (arith, h.0), omega (arith, h.0))
version_line bytes rest v (inr h) = (h.1 ∙ ap (λ l. l ++ rest) (sym first_two ∙ ap first_line (sym h.0)), omega (arith, h.0), omega (arith, h.0))

line_version : (v : ℕ) (rest : List ℕ) → 1 ≤ v → v ≤ 2 → IsVersionAt (first_line v ++ rest) v rest
line_version v rest low high = ⊎_elim
    (λ l. let e : v ≡ 1 = omega arith in inl (e, ap (λ l. l ++ rest) (ap first_line e ∙ first_one)))
    (λ g. let e : v ≡ 2 = omega arith in inr (e, ap (λ l. l ++ rest) (ap first_line e ∙ first_two)))
    (cases_lt v 2)

-- the text of a manifest by its parts
text_parts : (m : CManifest) (rest : List ℕ) → manifest_text m ++ rest ≡ first_line m.version ++ (flat_map name_line m.names ++ (flat_map text_line m.texts ++ (codes "*/\n" ++ rest)))
unfolding first_line
text_parts m rest =
    let first = codes "/*nfer " ++ decimal m.version ++ codes "\n" in
    let names = flat_map name_line m.names in
    let texts = flat_map text_line m.texts in
    append_assoc (first ++ names ++ texts) (codes "*/\n") rest
    ∙ append_assoc (first ++ names) texts (codes "*/\n" ++ rest)
    ∙ append_assoc first names (texts ++ (codes "*/\n" ++ rest))

pub lines_begin : (source : List ℕ) (m : CManifest) (rest : List ℕ) → AreLinesAt source m rest → AreApart m → BeginsWith source m rest
lines_begin source m rest h a =
    let v = version_line source h.after m.version h.version in
    let n = names_are_text h.after m.names h.behind h.names in
    let t = texts_are_lines h.behind m.texts rest h.texts in
    record {
      text = v.0 ∙ ap (λ xs. first_line m.version ++ xs) (n.0 ∙ ap (λ xs. flat_map name_line m.names ++ xs) t.0) ∙ sym (text_parts m rest);
      form = record {
        first_version = v.1;
        last_version = v.2;
        few = a.few;
        names = n.1;
        distinct_names = a.names;
        texts = t.1;
        distinct_texts = a.texts;
      };
    }

-- no name stands behind the names
texts_begin : (texts : List (List ℕ)) (rest : List ℕ) → begins_name (flat_map text_line texts ++ (codes "*/\n" ++ rest)) ≡ false
texts_begin [] rest = refl
texts_begin (text ∷ texts) rest = refl

pub begins_lines : (source : List ℕ) (m : CManifest) (rest : List ℕ) → BeginsWith source m rest → AreLinesAt source m rest
begins_lines source m rest h =
    let texts = flat_map text_line m.texts ++ (codes "*/\n" ++ rest) in
    let names = flat_map name_line m.names ++ texts in
    record {
      after = names;
      behind = texts;
      version = subst (λ b. IsVersionAt b m.version names) (sym (h.text ∙ text_parts m rest)) (line_version m.version names h.form.first_version h.form.last_version);
      names = text_is_names m.names texts h.form.names (texts_begin m.texts rest);
      texts = lines_are_texts m.texts rest h.form.texts;
    }

pub begins_apart : (source : List ℕ) (m : CManifest) (rest : List ℕ) → BeginsWith source m rest → AreApart m
begins_apart source m rest h = record { few = h.form.few; names = h.form.distinct_names; texts = h.form.distinct_texts }

pub one_manifest : (source : List ℕ) (m n : CManifest) (rest other : List ℕ) → BeginsWith source m rest → BeginsWith source n other → (m ≡ n) × (rest ≡ other)
one_manifest source m n rest other h g = lines_same source m n rest other (begins_lines source m rest h) (begins_lines source n other g)

-- the place behind a manifest
module _ (source : List ℕ) (m : CManifest) (rest : List ℕ) (h : BeginsWith source m rest) where
  pub place_is : length source - length rest ≡ length (manifest_text m)
  place_is = omega (arith, ap length h.text, length-append (manifest_text m) rest)

  pub rest_is : rest ≡ drop (length source - length rest) source
  rest_is = sym (ap (λ n. drop n source) place_is ∙ ap (drop (length (manifest_text m))) h.text ∙ drop-append_seam (manifest_text m) rest)

  pub rest_within : length source - length rest ≤ length source
  rest_within = omega arith

  pub begins_at : BeginsWith source m (drop (length source - length rest) source)
  begins_at = subst (λ r. BeginsWith source m r) rest_is h

  pub rest_shorter : length rest ≤ length source
  rest_shorter = omega (arith, ap length h.text, length-append (manifest_text m) rest)

-- where the lines are those of no manifest, the source begins with none
pub not_apart : (source : List ℕ) (n : CManifest) (found : List ℕ) → AreLinesAt source n found → (AreApart n → ⊥) → (m : CManifest) (rest : List ℕ) → BeginsWith source m rest → ⊥
not_apart source n found l none m rest h = none (subst AreApart (lines_same source m n rest found (begins_lines source m rest h) l).0 (begins_apart source m rest h))

-- the manifest and the place behind it are one
abbrev pub pair : CManifest → ℕ → CManifest × ℕ
pair m place = (m, place)

pub same_place : (source : List ℕ) (n m : CManifest) (found rest : List ℕ) → BeginsWith source n found → BeginsWith source m rest → pair n (length source - length found) ≡ pair m (length (manifest_text m))
same_place source n m found rest g h =
    let e = (one_manifest source n m found rest g h).0 in
    ap (pair n) (place_is source n found g) ∙ ap (λ k. pair k (length (manifest_text k))) e
