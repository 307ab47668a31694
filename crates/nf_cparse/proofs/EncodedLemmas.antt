-- Texts in hexadecimal.
use Rattle.std.proofs.Common.{◌≡◌, ℕ, zero, suc, ◌+◌, ◌<◌, ◌/◌, ◌%◌, Bool, true, false, cond, ltb, List, [], ◌∷◌, ◌++◌, get_or, refl, sym, ap, ◌∙◌, subst, arith, IsUtf8, ⊎_elim, Result, Ok, Err, true≢false, not, nat_eq}
use Rattle.std.specs.List.{list_all}
use Rattle.std.specs.Str.{all_scalars, encode_utf8_all}
use Rattle.std.specs.Char.{encode_utf8}
use Rattle.std.proofs.lemmas.Str.{IsUtf8-from_is_utf8, is_utf8-from_IsUtf8}
use Rattle.std.proofs.lemmas.Bool.{ltb-true, not-false}
use Rattle.std.proofs.lemmas.Slice.Eq.{bytes_eq-Decides}
use Rattle.std.specs.Cmp.Lexicographic.{pointwise, nat_list_eq_equiv}
use Rattle.hex.specs.Hex.{IsBytes, encode_with, encode_lower, lower_digits, decode_of}
use Rattle.hex.specs.declared.error.FromHexError.{FromHexError}
use Rattle.hex.proofs.HexLemmas.{decode_of-encode_lower, decode_of-same}
use Rattle.nf_lemmas.proofs.BoolLemmas.{both}
use Rattle.nf_lex.specs.Bytes.{is_in_line}
use Rattle.nf_cparse.specs.inner.ManifestParts.{IsEncoded}
use lib.Utf8.{scalar_cases}

bytes_cons : (b : ℕ) (bs : List ℕ) → b < 256 → IsBytes bs → IsBytes (b ∷ bs)
bytes_cons b bs h hs zero = h
bytes_cons b bs h hs (suc i) = hs i

bytes_none : IsBytes []
bytes_none i = omega arith

bytes_append : (xs ys : List ℕ) → IsBytes xs → IsBytes ys → IsBytes (xs ++ ys)
bytes_append [] ys h hs = hs
bytes_append (x ∷ xs) ys h hs = bytes_cons x (xs ++ ys) (h 0) (bytes_append xs ys (λ i. h (suc i)) hs)

-- bytes one after the other
one_byte : (a : ℕ) → a < 256 → IsBytes (a ∷ [])
one_byte a h = bytes_cons a [] h bytes_none

next_byte : (n : ℕ) → 128 + n % 64 < 256
next_byte n = omega arith

next_one : (n : ℕ) → IsBytes ((128 + n % 64) ∷ [])
next_one n = one_byte (128 + n % 64) (next_byte n)

next_two : (m n : ℕ) → IsBytes ((128 + m % 64) ∷ (128 + n % 64) ∷ [])
next_two m n = bytes_cons (128 + m % 64) ((128 + n % 64) ∷ []) (next_byte m) (next_one n)

next_three : (k m n : ℕ) → IsBytes ((128 + k % 64) ∷ (128 + m % 64) ∷ (128 + n % 64) ∷ [])
next_three k m n = bytes_cons (128 + k % 64) ((128 + m % 64) ∷ (128 + n % 64) ∷ []) (next_byte k) (next_two m n)

-- the bytes of a character
abbrev two_long : ℕ → List ℕ
two_long c = (192 + c / 64) ∷ (128 + c % 64) ∷ []

abbrev three_long : ℕ → List ℕ
three_long c = (224 + c / 4096) ∷ (128 + c / 64 % 64) ∷ (128 + c % 64) ∷ []

abbrev four_long : ℕ → List ℕ
four_long c = (240 + c / 262144) ∷ (128 + c / 4096 % 64) ∷ (128 + c / 64 % 64) ∷ (128 + c % 64) ∷ []

char_bytes : (c : ℕ) → c < 1114112 → IsBytes (encode_utf8 c)
unfolding encode_utf8
char_bytes c h = one (ltb c 128) refl
  where
    three : (b : Bool) → ltb c 65536 ≡ b → IsBytes (cond b (three_long c) (four_long c))
    three true e =
        let l : c < 65536 = ltb-true c 65536 e in
        bytes_cons (224 + c / 4096) ((128 + c / 64 % 64) ∷ (128 + c % 64) ∷ []) (omega arith) (next_two (c / 64) c)
    three false e = bytes_cons (240 + c / 262144) ((128 + c / 4096 % 64) ∷ (128 + c / 64 % 64) ∷ (128 + c % 64) ∷ []) (omega arith) (next_three (c / 4096) (c / 64) c)

    two : (b : Bool) → ltb c 2048 ≡ b → IsBytes (cond b (two_long c) (cond (ltb c 65536) (three_long c) (four_long c)))
    two true e =
        let l : c < 2048 = ltb-true c 2048 e in
        bytes_cons (192 + c / 64) ((128 + c % 64) ∷ []) (omega arith) (next_one c)
    two false e = three (ltb c 65536) refl

    one : (b : Bool) → ltb c 128 ≡ b → IsBytes (cond b (c ∷ []) (cond (ltb c 2048) (two_long c) (cond (ltb c 65536) (three_long c) (four_long c))))
    one true e =
        let l : c < 128 = ltb-true c 128 e in
        one_byte c (omega arith)
    one false e = two (ltb c 2048) refl

chars_bytes : (cs : List ℕ) → all_scalars cs ≡ true → IsBytes (encode_utf8_all cs)
chars_bytes [] h = bytes_none
chars_bytes (c ∷ cs) h =
    let p = both _ (all_scalars cs) h in
    bytes_append (encode_utf8 c) (encode_utf8_all cs) (char_bytes c (⊎_elim (λ l. omega (arith, l)) (λ l. l.1) (scalar_cases c p.0))) (chars_bytes cs p.1)

-- UTF-8 is bytes
pub utf8_bytes : (bs : List ℕ) → IsUtf8 bs → IsBytes bs
utf8_bytes bs h = subst IsBytes h.1.1 (chars_bytes h.0 h.1.0)

-- the digits of a text hold no LF
at_index : (p : ℕ → Bool) (xs : List ℕ) → list_all p xs ≡ true → p 0 ≡ true → (n : ℕ) → p (get_or xs n 0) ≡ true
at_index p [] h z n = z
at_index p (x ∷ xs) h z zero = (both (p x) (list_all p xs) h).0
at_index p (x ∷ xs) h z (suc n) = at_index p xs (both (p x) (list_all p xs) h).1 z n

digits_in_line : (t xs : List ℕ) → list_all is_in_line t ≡ true → list_all is_in_line (encode_with t xs) ≡ true
unfolding encode_with
digits_in_line t [] h = refl
digits_in_line t (b ∷ xs) h = rw (at_index is_in_line t h refl (b / 16), at_index is_in_line t h refl (b % 16), digits_in_line t xs h) refl

pub encoded_in_line : (text : List ℕ) → list_all is_in_line (encode_lower text) ≡ true
encoded_in_line text = digits_in_line lower_digits text refl

-- the digits of a text are decoded to it
pub encoded_decodes : (digits text : List ℕ) → IsEncoded digits text → decode_of digits ≡ Ok text
encoded_decodes digits text h = ap decode_of h.is ∙ decode_of-encode_lower text (utf8_bytes text (IsUtf8-from_is_utf8 text h.utf8))

-- and are those of no other one
pub encoded_same : (digits text other : List ℕ) → IsEncoded digits text → IsEncoded digits other → text ≡ other
encoded_same digits text other h g = decode_of-same digits text other (encoded_decodes digits text h) (encoded_decodes digits other g)

abbrev decoded_to : List ℕ → Result (List ℕ) FromHexError
decoded_to text = Ok text

-- what the digits are decoded to is that text
pub encoded_is : (digits bytes text : List ℕ) → decode_of digits ≡ Ok bytes → IsEncoded digits text → text ≡ bytes
encoded_is digits bytes text e h = decode_of-same digits text bytes (encoded_decodes digits text h) e

-- where its digits are others, no text has these
pub not_again : (digits bytes again : List ℕ) → decode_of digits ≡ Ok bytes → again ≡ encode_lower bytes → true ≡ not (pointwise nat_eq again digits) → (text : List ℕ) → IsEncoded digits text → ⊥
not_again digits bytes again e a ne text h =
    let same : again ≡ digits = a ∙ ap encode_lower (sym (encoded_is digits bytes text e h)) ∙ sym h.is in
    true≢false (ne ∙ ap (λ xs. not (pointwise nat_eq xs digits)) same ∙ ap not (nat_list_eq_equiv.refl digits))

-- where they are these, it has them
pub is_again : (digits bytes again : List ℕ) → again ≡ encode_lower bytes → false ≡ not (pointwise nat_eq again digits) → IsUtf8 bytes → IsEncoded digits bytes
is_again digits bytes again a eq u = record {
  is = sym ((bytes_eq-Decides again digits).0 (not-false (pointwise nat_eq again digits) (sym eq))) ∙ a;
  utf8 = is_utf8-from_IsUtf8 bytes u;
}

pub no_text_where_refused : (digits : List ℕ) (e : FromHexError) → decode_of digits ≡ Err e → (text : List ℕ) → IsEncoded digits text → ⊥
no_text_where_refused digits e r text h = let bad : decoded_to text ≡ Err e = sym (encoded_decodes digits text h) ∙ r in absurd cc
