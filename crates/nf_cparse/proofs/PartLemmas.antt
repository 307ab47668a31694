-- Words, lines and identifiers at the front of bytes.
use Rattle.std.proofs.Common.{◌≡◌, ℕ, true, false, List, ◌∷◌, ◌++◌, length, take, drop, refl, sym, ap, ◌∙◌, codes, nat_eq, eqb, eq-eqb, IsUtf8, true≢false}
use Rattle.std.specs.Prelude.{IsTrue}
use Rattle.std.specs.List.{list_all, prefix_len}
use Rattle.std.specs.Cmp.Lexicographic.{pointwise, nat_list_eq_equiv}
use Rattle.std.proofs.lemmas.List.{take-append-drop, take_at}
use Rattle.std.proofs.lemmas.Slice.Eq.{bytes_eq-Decides}
use Rattle.nf_core.specs.Identifiers.{is_identifier}
use Rattle.nf_lex.specs.Bytes.{is_inner, is_in_line}
use Rattle.nf_lex.proofs.Public.NameLemmas.{name_parts, name_utf8}
use Rattle.nf_lex.proofs.Public.KindLemmas.{identifier_parts}
use Rattle.nf_cparse.specs.inner.Readings.{IsBehind}
use Rattle.nf_cparse.specs.inner.ManifestParts.{IsIdentifierAt, IsLineAt}
use Rattle.nf_cparse.proofs.RunLemmas.{run_passes, run_stops, run_word, run_rest}

-- two numbers that a test tells apart are not equal
pub differ : (a b : ℕ) → eqb a b ≡ false → a ≡ b → ⊥
differ a b apart e = true≢false (sym (eq-eqb a b e) ∙ apart)

pub is_behind : (bytes word : List ℕ) → pointwise nat_eq (take (length word) bytes) word ≡ true → IsBehind bytes word (drop (length word) bytes)
is_behind bytes word h = sym (take-append-drop (length word) bytes) ∙ ap (λ xs. xs ++ drop (length word) bytes) ((bytes_eq-Decides (take (length word) bytes) word).0 h)

pub not_behind : (bytes word : List ℕ) → pointwise nat_eq (take (length word) bytes) word ≡ false → (rest : List ℕ) → IsBehind bytes word rest → ⊥
not_behind bytes word h rest e =
    let front : take (length word) bytes ≡ word = ap (take (length word)) e ∙ take_at word rest (length word) refl in
    true≢false (sym (nat_list_eq_equiv.refl word) ∙ ap (λ xs. pointwise nat_eq xs word) (sym front) ∙ h)

-- an identifier is UTF-8, and all its bytes are such that a name may go on with them
pub identifier_utf8 : (word : List ℕ) → IsTrue (is_identifier word) → IsUtf8 word
identifier_utf8 word h = name_utf8 word (identifier_parts word h).0

pub identifier_inner : (word : List ℕ) → IsTrue (is_identifier word) → list_all is_inner word ≡ true
identifier_inner word h = (name_parts word (identifier_parts word h).0).1

-- an identifier stands where the run of such bytes is one
pub identifier_at : (bytes : List ℕ) → IsTrue (is_identifier (take (prefix_len is_inner bytes) bytes)) → IsIdentifierAt bytes (take (prefix_len is_inner bytes) bytes) (drop (prefix_len is_inner bytes) bytes)
identifier_at bytes h = record {
  is = sym (take-append-drop (prefix_len is_inner bytes) bytes);
  identifier = h;
  ends = run_stops is_inner refl bytes;
}

-- and nowhere else
module _ (bytes word rest : List ℕ) (h : IsIdentifierAt bytes word rest) where
  pub identifier_word : word ≡ take (prefix_len is_inner bytes) bytes
  identifier_word = run_word is_inner bytes word rest h.is (identifier_inner word h.identifier) h.ends

  pub identifier_rest : rest ≡ drop (prefix_len is_inner bytes) bytes
  identifier_rest = run_rest is_inner bytes word rest h.is (identifier_inner word h.identifier) h.ends

pub no_identifier_at : (bytes : List ℕ) → is_identifier (take (prefix_len is_inner bytes) bytes) ≡ false → (word rest : List ℕ) → IsIdentifierAt bytes word rest → ⊥
no_identifier_at bytes none word rest h = true≢false (sym h.identifier ∙ ap is_identifier (identifier_word bytes word rest h) ∙ none)

-- a line stands where LF follows on the run of other bytes
pub line_at : (bytes rest : List ℕ) → IsBehind (drop (prefix_len is_in_line bytes) bytes) (codes "\n") rest → IsLineAt bytes (take (prefix_len is_in_line bytes) bytes) rest
line_at bytes rest e = record {
  is = sym (take-append-drop (prefix_len is_in_line bytes) bytes) ∙ ap (λ xs. take (prefix_len is_in_line bytes) bytes ++ xs) e;
  inside = run_passes is_in_line bytes;
}

module _ (bytes line rest : List ℕ) (h : IsLineAt bytes line rest) where
  pub line_word : line ≡ take (prefix_len is_in_line bytes) bytes
  line_word = run_word is_in_line bytes line (10 ∷ rest) h.is h.inside refl

  pub line_rest : 10 ∷ rest ≡ drop (prefix_len is_in_line bytes) bytes
  line_rest = run_rest is_in_line bytes line (10 ∷ rest) h.is h.inside refl

pub no_line_at : (bytes : List ℕ) → ((rest : List ℕ) → IsBehind (drop (prefix_len is_in_line bytes) bytes) (codes "\n") rest → ⊥) → (line rest : List ℕ) → IsLineAt bytes line rest → ⊥
no_line_at bytes none line rest h = none rest (sym (line_rest bytes line rest h))
