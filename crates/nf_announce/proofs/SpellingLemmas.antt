-- What texts spell, and what is printed of values.
use Rattle.std.proofs.Common.{◌≡◌, ℕ, ℤ, pos, negsuc, Bool, true, false, List, codes, refl, sym, ap, subst, ◌∙◌, rules, tests, true≢false, w64, to_z, of_z}
use Rattle.std.specs.Int.RustNames.{FitsSigned}
use Rattle.std.specs.Fmt.{signed_decimal}
use Rattle.nf_core.specs.Texts.{IsI64, IsPlain}
use Rattle.nf_core.specs.declared.values.Value.{Value}
use Rattle.nf_core.specs.declared.values.Value.TheVariants as v
use Rattle.std.proofs.lemmas.Int.{to_z-of_z}
use Rattle.nf_core.proofs.Public.NumberLemmas.{i64_fits, fits_i64}
use Rattle.nf_text.specs.declared.value.Read as read
use Rattle.nf_text.specs.declared.value.Read.TheVariants as variant
use Rattle.nf_text.specs.Value.{Spelling, Truth, Whole, Words, spelling, spelling_of}
use Rattle.nf_announce.specs.Announcements.{text_of_value}
use Rattle.nf_announce.specs.inner.LineParts.{IsSpelled}
use Rattle.nf_announce.specs.inner.RowTexts.{IsSpelling}

-- what is known of numbers
pub record AreNumbers : Type 0 where
  pub read : (n : ℤ) → FitsSigned w64 n → spelling_of (signed_decimal n) ≡ Whole n
  pub canonical : (text : List ℕ) (n : ℤ) → spelling_of text ≡ Whole n → text ≡ signed_decimal n
  pub within : (text : List ℕ) (n : ℤ) → spelling_of text ≡ Whole n → FitsSigned w64 n

-- what is known of words
pub record AreWords : Type 0 where
  pub truth : (text : List ℕ) → spelling_of text ≡ Truth true → text ≡ codes "true"
  pub falsehood : (text : List ℕ) → spelling_of text ≡ Truth false → text ≡ codes "false"
  pub words : (text given : List ℕ) → spelling_of text ≡ Words given → given ≡ text

is_whole : Spelling → Bool
is_whole (Truth b) = false
is_whole (Whole n) = true
is_whole (Words text) = false

is_word : Spelling → Bool
is_word (Truth b) = false
is_word (Whole n) = false
is_word (Words text) = true

no_whole : (given other : Spelling) → is_whole given ≡ false → is_whole other ≡ true → given ≡ other → ⊥
no_whole given other h k e = true≢false (sym k ∙ sym (ap is_whole e) ∙ h)

no_word : (given other : Spelling) → is_word given ≡ true → is_word other ≡ false → given ≡ other → ⊥
no_word given other h k e = true≢false (sym h ∙ ap is_word e ∙ k)

module _ (numbers : AreNumbers) where
  spelled : (text : List ℕ) (n : ℤ) → IsSpelled text n → spelling_of text ≡ Whole n
  spelled text n h = ap spelling_of h.decimal ∙ numbers.read n (fits_i64 n h.within)

  -- a number that was read
  pub number_read : (text : List ℕ) (n : ℤ) → Whole n ≡ spelling_of text → IsSpelled text (to_z w64 (of_z w64 n))
  number_read text n e =
      let fits = numbers.within text n (sym e) in
      subst (IsSpelled text) (sym (to_z-of_z w64 n fits)) (record { decimal = numbers.canonical text n (sym e); within = i64_fits n fits })

  -- what isn't read as a number spells none
  pub no_number_read : (text : List ℕ) (given : read.Read) → ((n : ℤ) → given ≡ variant.Int n → ⊥) → spelling given ≡ spelling_of text → (n : ℤ) → IsSpelled text n → ⊥
  unfolding is_whole
  no_number_read text (variant.Bool b) none e n h = no_whole (Truth b) (Whole n) refl refl (e ∙ spelled text n h)
  no_number_read text (variant.Int m) none e n h = none m refl
  no_number_read text (variant.Text words) none e n h = no_whole (Words words.now) (Whole n) refl refl (e ∙ spelled text n h)

  pub whole_read : (text : List ℕ) (n : ℤ) → Whole n ≡ spelling_of text → IsSpelling text (v.Int (to_z w64 (of_z w64 n)))
  whole_read text n e = let read = number_read text n e in record { proper = read.within; text_is = sym read.decimal }

  truth_spelled : (b : Bool) (text : List ℕ) → text_of_value (v.Bool b) ≡ text → spelling_of text ≡ Truth b
  unfolding spelling_of
  truth_spelled true text e = ap spelling_of (sym e)
  truth_spelled false text e = ap spelling_of (sym e)

  -- words that aren't plain are printed of no value
  pub no_value : (text words : List ℕ) → Words words ≡ spelling_of text → words ≡ text → (IsPlain words → ⊥) → (x : Value) → IsSpelling text x → ⊥
  unfolding is_word
  no_value text words e same plain (v.Bool b) h = no_word (Words words) (Truth b) refl refl (e ∙ truth_spelled b text h.text_is)
  no_value text words e same plain (v.Int n) h = no_word (Words words) (Whole n) refl refl (e ∙ spelled text n (record { decimal = sym h.text_is; within = h.proper }))
  no_value text words e same plain (v.Text t) h = plain (subst IsPlain (h.text_is ∙ sym same) h.proper)

-- a truth value that was read
pub truth_read : AreWords → (text : List ℕ) (b : Bool) → Truth b ≡ spelling_of text → IsSpelling text (v.Bool b)
truth_read words text true e = record { proper = tt; text_is = sym (words.truth text (sym e)) }
truth_read words text false e = record { proper = tt; text_is = sym (words.falsehood text (sym e)) }
