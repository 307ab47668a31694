-- What has the form of a name is ASCII.
use Rattle.std.proofs.Common.{◌≡◌, ℕ, ◌<◌, true, ◌||◌, List, [], ◌∷◌, arith}
use Rattle.std.specs.List.{list_all}
use Rattle.std.specs.Str.{IsAscii}
use Rattle.std.proofs.lemmas.Bool.Decides.{nat_tests}
use Rattle.std.proofs.lemmas.Str.Ascii.{IsAscii-nil, IsAscii-cons}
use Rattle.nf_core.specs.Identifiers.{is_letter, is_digit, has_name_form}
use Rattle.nf_lemmas.proofs.BoolLemmas.{both}

letter_ascii : (b : ℕ) → is_letter b ≡ true → b < 128
letter_ascii b e = grind (arith, nat_tests)

inner_ascii : (b : ℕ) → (is_letter b || is_digit b) ≡ true → b < 128
inner_ascii b e = grind (arith, nat_tests)

inners_ascii : (bs : List ℕ) → list_all (λ b. is_letter b || is_digit b) bs ≡ true → IsAscii bs
inners_ascii [] e = IsAscii-nil
inners_ascii (b ∷ bs) e = let p = both (is_letter b || is_digit b) (list_all (λ b. is_letter b || is_digit b) bs) e in IsAscii-cons b bs (inner_ascii b p.0) (inners_ascii bs p.1)

-- what has the form of a name is ASCII
pub form_ascii : (text : List ℕ) → has_name_form text ≡ true → IsAscii text
unfolding has_name_form
form_ascii [] e = cc
form_ascii (b ∷ bs) e = let p = both (is_letter b) (list_all (λ b. is_letter b || is_digit b) bs) e in IsAscii-cons b bs (letter_ascii b p.0) (inners_ascii bs p.1)
