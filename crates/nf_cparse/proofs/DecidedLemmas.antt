-- Whether something is read at the front of bytes.
use Rattle.std.proofs.Common.{◌≡◌, ℕ, zero, suc, ◌<◌, ◌≤◌, Bool, true, false, List, [], ◌∷◌, length, take, drop, refl, codes, nat_eq, arith}
use Rattle.std.specs.List.{prefix_len}
use Rattle.std.specs.Cmp.Lexicographic.{pointwise}
use Rattle.nf_core.specs.Identifiers.{is_identifier}
use Rattle.nf_lex.specs.Bytes.{is_inner, is_in_line}
use Rattle.nf_cparse.specs.inner.Readings.{IsBehind, AreListed, ends, more}
use Rattle.nf_cparse.specs.inner.ManifestParts.{IsIdentifierAt, IsLineAt}
use Rattle.nf_cparse.proofs.PartLemmas.{is_behind, not_behind, identifier_at, no_identifier_at, line_at, no_line_at}
use Rattle.nf_cparse.proofs.ListedLemmas.{behind_item, nothing_next}

-- something is read there, with what stands behind it, or nothing is
pub data IsDecided {A : Type 0} (Reads : A → List ℕ → Type 0) : Type 0 where
  there : (x : A) (rest : List ℕ) → Reads x rest → IsDecided Reads
  absent : ((x : A) (rest : List ℕ) → Reads x rest → ⊥) → IsDecided Reads

-- by a test
pub tested : {A : Type 0} {Reads : A → List ℕ → Type 0} (b : Bool) → (b ≡ true → IsDecided Reads) → (b ≡ false → IsDecided Reads) → IsDecided Reads
tested true so not_so = so refl
tested false so not_so = not_so refl

-- by what comes first, or by the lack of it
pub or_else : {A B : Type 0} {First : A → List ℕ → Type 0} {Whole : B → List ℕ → Type 0} → IsDecided First
    → ((x : A) (rest : List ℕ) → First x rest → IsDecided Whole) → (((x : A) (rest : List ℕ) → First x rest → ⊥) → IsDecided Whole) → IsDecided Whole
or_else (there x rest h) so not_so = so x rest h
or_else (absent f) so not_so = not_so f

-- by what comes first, without which there is no whole
pub by_first : {A B : Type 0} {First : A → List ℕ → Type 0} {Whole : B → List ℕ → Type 0} → IsDecided First
    → (((x : A) (rest : List ℕ) → First x rest → ⊥) → (y : B) (rest : List ℕ) → Whole y rest → ⊥)
    → ((x : A) (rest : List ℕ) → First x rest → IsDecided Whole) → IsDecided Whole
by_first d lacks so = or_else d so (λ f. absent (lacks f))

-- what stands behind a word
abbrev pub Behind : List ℕ → List ℕ → Unit {0} → List ℕ → Type 0
Behind bytes word u rest = IsBehind bytes word rest

pub behind_decided : (bytes word : List ℕ) → IsDecided (Behind bytes word)
behind_decided bytes word = tested (pointwise nat_eq (take (length word) bytes) word)
    (λ e. there tt (drop (length word) bytes) (is_behind bytes word e))
    (λ e. absent (λ u rest h. not_behind bytes word e rest h))

pub identifier_decided : (bytes : List ℕ) → IsDecided (IsIdentifierAt bytes)
identifier_decided bytes = tested (is_identifier (take (prefix_len is_inner bytes) bytes))
    (λ e. there (take (prefix_len is_inner bytes) bytes) (drop (prefix_len is_inner bytes) bytes) (identifier_at bytes e))
    (λ e. absent (no_identifier_at bytes e))

pub line_decided : (bytes : List ℕ) → IsDecided (IsLineAt bytes)
line_decided bytes = by_first (behind_decided (drop (prefix_len is_in_line bytes) bytes) (codes "\n"))
    (λ f. no_line_at bytes (λ rest e. f tt rest e))
    (λ u rest e. there (take (prefix_len is_in_line bytes) bytes) rest (line_at bytes rest e))

-- items one after the other, and then an end
module _ {A : Type 0} (Item : List ℕ → A → List ℕ → Type 0) (End : List ℕ → List ℕ → Type 0)
    (apart : (bytes next rest : List ℕ) (x : A) → Item bytes x next → End bytes rest → ⊥)
    (same : (bytes next other : List ℕ) (x y : A) → Item bytes x next → Item bytes y other → (x ≡ y) × (next ≡ other))
    (one_end : (bytes rest other : List ℕ) → End bytes rest → End bytes other → rest ≡ other)
    (shorter : (bytes next : List ℕ) (x : A) → Item bytes x next → length next < length bytes)
    (item : (bytes : List ℕ) → IsDecided (Item bytes))
    (end : (bytes : List ℕ) → IsDecided (λ (u : Unit {0}) rest. End bytes rest)) where
  -- behind an item
  go_on : (bytes next : List ℕ) (x : A) → Item bytes x next → IsDecided (AreListed Item End next) → IsDecided (AreListed Item End bytes)
  go_on bytes next x i (there xs rest l) = there (x ∷ xs) rest (more i l)
  go_on bytes next x i (absent f) = absent (λ xs rest l. let p = behind_item Item End apart same one_end bytes next x i xs rest l in f p.0 rest p.2)

  -- where no item comes next
  stop : (bytes : List ℕ) → ((x : A) (next : List ℕ) → Item bytes x next → ⊥) → IsDecided (AreListed Item End bytes)
  stop bytes no_item = by_first (end bytes)
      (λ f. nothing_next Item End bytes no_item (λ rest e. f tt rest e))
      (λ u rest e. there [] rest (ends e))

  step : (bytes : List ℕ) → ((next : List ℕ) → length next < length bytes → IsDecided (AreListed Item End next)) → IsDecided (AreListed Item End bytes)
  step bytes later = or_else (item bytes) (λ x next i. go_on bytes next x i (later next (shorter bytes next x i))) (stop bytes)

  within : (n : ℕ) (bytes : List ℕ) → length bytes ≤ n → IsDecided (AreListed Item End bytes)
  within zero bytes few = step bytes (λ next l. absurd (omega (arith, few, l)))
  within (suc n) bytes few = step bytes (λ next l. within n next (omega (arith, few, l)))

  pub listed_decided : (bytes : List ℕ) → IsDecided (AreListed Item End bytes)
  listed_decided bytes = within (length bytes) bytes (omega arith)
