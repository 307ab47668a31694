use Rattle.std.proofs.Common.{◌≡◌, ℕ, Bool, true, List, Option, None, Some, is_some, length, refl, ◌∙◌, inl, inr, arith, bytes_eq, position, find}
use Rattle.std.specs.List.{position_or_len, slice_get}
use Rattle.std.proofs.lemmas.Bool.{lt-ltb}
use Rattle.std.proofs.lemmas.Grind.{common_steps}
use Rattle.std.proofs.lemmas.List.Folds.{find_at}
use Rattle.std.proofs.lemmas.List.Quantifiers.{position-Some}
use Rattle.std.proofs.lemmas.Option.{slice_get_cases}
use Rattle.std.proofs.lemmas.Slice.Eq.{bytes_eq-Decides}
use Rattle.nf_io.specs.Files.{Files, file_of, asked_of, bytes_of}
use Rattle.nf_io.specs.inner.Places.{entry_at}

-- the place is that of the file of this name, or none where there is no such file
pub record IsFound (files : Files) (name : List ℕ) (place : Option ℕ) : Type 0 where
  pub known : is_some place ≡ is_some (file_of files name)
  pub asked : (entry_at files place).0 ≡ asked_of files name
  pub bytes : (entry_at files place).1 ≡ bytes_of files name

abbrev is_named : List ℕ → List ℕ × List ℕ → Bool
is_named name entry = bytes_eq entry.0 name

found_at : (files : Files) (name : List ℕ) (n : ℕ) (x : List ℕ × List ℕ) → position (is_named name) files ≡ Some n → find (is_named name) files ≡ Some x → slice_get files n ≡ Some x → x.0 ≡ name → IsFound files name (position (is_named name) files)
found_at files name n x at found item named =
    rw at (record {
      known = rw found refl;
      asked = rw (item, found) named;
      bytes = rw (item, found) refl;
    })

not_found : (files : Files) (name : List ℕ) → position (is_named name) files ≡ None → find (is_named name) files ≡ None → IsFound files name (position (is_named name) files)
not_found files name at found =
    rw at (record {
      known = rw found refl;
      asked = rw found refl;
      bytes = rw found refl;
    })

-- the first place whose name is this one
pub IsFound-position : (files : Files) (name : List ℕ) → IsFound files name (position (λ entry. bytes_eq entry.0 name) files)
IsFound-position files name =
    let n : ℕ = position_or_len (is_named name) files in
    let first : find (is_named name) files ≡ slice_get files n = find_at (is_named name) files in
    elim ((slice_get_cases files n).1) [
      | inl w ↦
          let at : position (is_named name) files ≡ Some n = rw (lt-ltb n (length files) w.1) refl in
          let passes : is_named name w.0 ≡ true = rw w.3 at ((position-Some (is_named name) files n w.0 at).1) in
          found_at files name n w.0 at (first ∙ w.2) w.2 ((bytes_eq-Decides w.0.0 name).0 passes)
      | inr w ↦ not_found files name (grind (arith, common_steps)) (first ∙ w.1)
    ]
