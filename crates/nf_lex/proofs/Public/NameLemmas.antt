-- The form of names by the first byte and all bytes, and what follows from it.
use Rattle.std.proofs.Common.{◌≡◌, ℕ, ◌<◌, Bool, true, false, ◌&&◌, ◌||◌, All, List, [], ◌∷◌, get_or, refl, sym, ◌∙◌, arith, IsUtf8}
use Rattle.std.specs.List.{list_all}
use Rattle.std.proofs.lemmas.Str.{IsUtf8-from_ascii}
use Rattle.std.proofs.lemmas.Str.Ascii.{IsAscii-from_all}
use Rattle.std.proofs.lemmas.List.Sums.{AllPass-from_list_all}
use Rattle.std.proofs.lemmas.Bool.{and_parts}
use Rattle.std.proofs.lemmas.Bool.Decides.{nat_tests}
use Rattle.nf_core.specs.Identifiers.{is_letter, is_digit, has_name_form}
use Rattle.nf_lex.specs.Bytes.{is_inner}

-- a name begins with a letter, and all its bytes are letters and digits
pub form_by_first : (word : List ℕ) → has_name_form word ≡ (is_letter (get_or word 0 0) && list_all is_inner word)
unfolding has_name_form
form_by_first [] = refl
form_by_first (b ∷ bytes) = twice (is_letter b) (is_digit b) (list_all is_inner bytes)
  where
    twice : (i d r : Bool) → (i && r) ≡ (i && ((i || d) && r))
    twice true d r = refl
    twice false d r = refl

pub name_parts : (word : List ℕ) → has_name_form word ≡ true → (is_letter (get_or word 0 0) ≡ true) × (list_all is_inner word ≡ true)
name_parts word h = and_parts (is_letter (get_or word 0 0)) (list_all is_inner word) (sym (form_by_first word) ∙ h)

inner_ascii : (b : ℕ) → is_inner b ≡ true → b < 128
inner_ascii b h = grind (arith, nat_tests)

all_ascii : (w : List ℕ) → list_all is_inner w ≡ true → All (λ b. b < 128) w
all_ascii w h = λ k d l. inner_ascii (get_or w k d) (AllPass-from_list_all is_inner w h k d l)

-- a name is UTF-8
pub name_utf8 : (word : List ℕ) → has_name_form word ≡ true → IsUtf8 word
name_utf8 word h = IsUtf8-from_ascii word (IsAscii-from_all word (all_ascii word (name_parts word h).1))
