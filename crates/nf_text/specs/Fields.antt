-- The fields of a text.
use Rattle.std.specs.Prelude.{ℕ, List, ◌==◌}
use Rattle.std.specs.List.{slice_split}

-- the fields of a text are what stands before, between and after its marks
abbrev pub fields_of : ℕ → List ℕ → List (List ℕ)
fields_of mark text = slice_split (λ b. b == mark) text
