-- Plain texts: the test of them, and what it says.
use Rattle.std.proofs.Common.{◌≡◌, ℕ, Bool, true, false, not, ◌&&◌, ◌||◌, List, [], ◌∷◌, refl, sym, ap, subst, ◌∙◌, rules, tests, ℤ, pos, negsuc, All, IsTrue, ◌↔◌, codes}
use Rattle.std.specs.List.{list_any, AllByRecursion}
use Rattle.std.specs.Int.{w64}
use Rattle.std.specs.Int.RustNames.{FitsSigned}
use Rattle.std.proofs.lemmas.List.Elements.{All-from_recursion, recursion_from_All}
use Rattle.std.proofs.lemmas.Bool.{and_parts, and_from}
use borrow.Author.Tests.{ne_eqb}
use Rattle.nf_core.specs.Texts.{IsI64, IsPlainByte, IsPlain}
use Rattle.nf_core.proofs.Public.NumberLemmas.{fits_i64, i64_fits}
use Rattle.nf_text.specs.Value.{Spelling, Truth, Whole, Words, spelling_of, is_words, is_separator, is_plain}
use Rattle.nf_text.proofs.SpellingLemmas.{printed_spelling, spelled_whole, whole_canonical, spelled_truth, spelled_false}
use Rattle.std.proofs.lemmas.Slice.Eq.{bytes_eq-Decides}

-- a byte is plain exactly where it is no separator
plain_byte : (b : ℕ) → is_separator b ≡ false → IsPlainByte b
plain_byte b h = record {
  no_bar = λ e. let s : true ≡ false = subst (λ c. is_separator c ≡ false) e h in cc;
  no_semicolon = λ e. let s : true ≡ false = subst (λ c. is_separator c ≡ false) e h in cc;
  no_return = λ e. let s : true ≡ false = subst (λ c. is_separator c ≡ false) e h in cc;
  no_feed = λ e. let s : true ≡ false = subst (λ c. is_separator c ≡ false) e h in cc;
}

no_separator : (b : ℕ) → IsPlainByte b → is_separator b ≡ false
no_separator b p = rw (ne_eqb b 124 p.no_bar, ne_eqb b 59 p.no_semicolon, ne_eqb b 13 p.no_return, ne_eqb b 10 p.no_feed) refl

or_parts : (a b : Bool) → (a || b) ≡ false → (a ≡ false) × (b ≡ false)
or_parts true b e = absurd cc
or_parts false b e = (refl, e)

-- and so is each byte of a text
plain_each : (text : List ℕ) → list_any is_separator text ≡ false → AllByRecursion IsPlainByte text
plain_each [] h = tt
plain_each (b ∷ bs) h = let p = or_parts (is_separator b) (list_any is_separator bs) h in (plain_byte b p.0, plain_each bs p.1)

none_each : (text : List ℕ) → AllByRecursion IsPlainByte text → list_any is_separator text ≡ false
none_each [] h = refl
none_each (b ∷ bs) h = rw (no_separator b h.0) (none_each bs h.1)

pub plain_bytes : (text : List ℕ) → list_any is_separator text ≡ false → All IsPlainByte text
plain_bytes text h = All-from_recursion IsPlainByte text (plain_each text h)

pub no_separators : (text : List ℕ) → All IsPlainByte text → list_any is_separator text ≡ false
no_separators text h = none_each text (recursion_from_All IsPlainByte text h)

-- a spelling that is just bytes is no number and no truth value
words_apart : (given : Spelling) (n : ℤ) → given ≡ Whole n → is_words given ≡ true → ⊥
words_apart given n e w = let s : false ≡ true = subst (λ g. is_words g ≡ true) e w in cc

truth_apart : (given : Spelling) (b : Bool) → given ≡ Truth b → is_words given ≡ true → ⊥
truth_apart given b e w = let s : false ≡ true = subst (λ g. is_words g ≡ true) e w in cc

spelled_true : spelling_of (codes "true") ≡ Truth true
unfolding spelling_of
spelled_true = refl

spelled_false_word : spelling_of (codes "false") ≡ Truth false
unfolding spelling_of
spelled_false_word = refl

-- a text with plain bytes that spells just its bytes is plain
pub plain_text : (text : List ℕ) → list_any is_separator text ≡ false → is_words (spelling_of text) ≡ true → IsPlain text
plain_text text none words = record {
  bytes = plain_bytes text none;
  no_number = λ n fits e. words_apart (spelling_of text) n (ap spelling_of e ∙ printed_spelling n (fits_i64 n fits)) words;
  no_true = λ e. truth_apart (spelling_of text) true (ap spelling_of e ∙ spelled_true) words;
  no_false = λ e. truth_apart (spelling_of text) false (ap spelling_of e ∙ spelled_false_word) words;
}

-- and a plain one spells just its bytes
plain_spelling : (text : List ℕ) → IsPlain text → (given : Spelling) → spelling_of text ≡ given → is_words given ≡ true
plain_spelling text p (Truth true) e = absurd (p.no_true ((bytes_eq-Decides text (codes "true")).0 (spelled_truth text true e).1))
plain_spelling text p (Truth false) e = absurd (p.no_false (spelled_false text e))
plain_spelling text p (Whole n) e =
    let canonical = whole_canonical text n (spelled_whole text n e) in
    absurd (p.no_number n (i64_fits n canonical.1) canonical.0)
plain_spelling text p (Words given) e = refl

-- the test is right
pub plain_read : (text : List ℕ) → is_plain text ≡ true → IsPlain text
unfolding is_plain
plain_read text h =
    let p = and_parts (not (list_any is_separator text)) (is_words (spelling_of text)) h in
    plain_text text (not_true (list_any is_separator text) p.0) p.1
  where
    not_true : (b : Bool) → not b ≡ true → b ≡ false
    not_true true e = absurd cc
    not_true false e = refl

pub plain_found : (text : List ℕ) → IsPlain text → is_plain text ≡ true
unfolding is_plain
plain_found text p = and_from (not (list_any is_separator text)) (is_words (spelling_of text)) (ap not (no_separators text p.bytes)) (plain_spelling text p (spelling_of text) refl)

pub plain_tested : (text : List ℕ) (b : Bool) → b ≡ is_plain text → IsTrue b ↔ IsPlain text
plain_tested text b e = (λ t. plain_read text (sym e ∙ t), λ p. e ∙ plain_found text p)

-- and so is what the reader of values answers
pub plain_words_answer : (text : List ℕ) → All IsPlainByte text → is_words (spelling_of text) ≡ true → IsPlain text
plain_words_answer text h words = plain_text text (no_separators text h) words

pub plain_answer : (text : List ℕ) (given : Spelling) → given ≡ spelling_of text → All IsPlainByte text → is_words given ≡ true → IsPlain text
plain_answer text given e h words = plain_words_answer text h (ap is_words (sym e) ∙ words)

and_true : (a : Bool) → (a && true) ≡ a
and_true true = refl
and_true false = refl

pub plain_of_words : (text : List ℕ) (given : Spelling) (b : Bool) → given ≡ spelling_of text → is_words given ≡ true → b ≡ list_any is_separator text → not b ≡ is_plain text
unfolding is_plain
plain_of_words text given b s w e = ap not e ∙ sym (ap (λ g. not (list_any is_separator text) && g) (ap is_words (sym s) ∙ w) ∙ and_true (not (list_any is_separator text)))
