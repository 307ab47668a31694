-- The first field of a text.
use Rattle.std.proofs.Common.{◌≡◌, ℕ, ◌<◌, eqb, List, [], ◌∷◌, length, arith}
use Rattle.std.specs.List.{slice_split, position_or_len, before_first, after_first}
use Rattle.std.proofs.lemmas.List.Splits.{slice_split_none, slice_split_first}
use Rattle.std.proofs.lemmas.List.Sums.{fails_before_first}

-- a text without the mark is one field
pub one_field : (mark : ℕ) (text : List ℕ) → position_or_len (λ b. eqb b mark) text ≡ length text → slice_split (λ b. eqb b mark) text ≡ text ∷ []
one_field mark text e =
    slice_split_none (λ b. eqb b mark) text (λ k d h. fails_before_first (λ b. eqb b mark) text k d (omega arith))

-- a text with a mark is the field before it and the fields after it
pub more_fields : (mark : ℕ) (text field rest : List ℕ) → field ≡ before_first (λ b. eqb b mark) text → rest ≡ after_first (λ b. eqb b mark) text
    → position_or_len (λ b. eqb b mark) text < length text → slice_split (λ b. eqb b mark) text ≡ field ∷ slice_split (λ b. eqb b mark) rest
more_fields mark text field rest e f h = rw (e, f) (slice_split_first (λ b. eqb b mark) text 0 h)
