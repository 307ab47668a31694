-- What the kind of a word says of its form.
use Rattle.std.proofs.Common.{◌≡◌, ℕ, ◌+◌, ◌<◌, ◌≤◌, Bool, true, false, not, cond, eqb, List, length, drop, get_or, refl, arith, Some, None, IsUtf8}
use Rattle.std.specs.Char.{is_ascii_digit}
use Rattle.std.specs.List.{list_all, position_or_len}
use Rattle.std.proofs.lemmas.Str.{IsUtf8-from_ascii}
use Rattle.std.proofs.lemmas.Fmt.{IsAscii-from_digits}
use Rattle.std.proofs.lemmas.Bool.{and_parts}
use borrow.Author.Tests.{eqb-true}
use Rattle.nf_core.specs.Identifiers.{has_name_form, is_identifier, keywords}
use Rattle.nf_lex.specs.declared.token.TokenKind.{TokenKind}
use Rattle.nf_lex.specs.declared.token.TokenKind.TheVariants.{Ident, Keyword, Number, Text, Mark}
use Rattle.nf_lex.specs.Bytes.{is_quote}
use Rattle.nf_lex.specs.Words.{kind_of, name_kind, is_among, is_number, is_text, is_mark}
use Rattle.nf_lemmas.proofs.ListLemmas.{has_first}
use Rattle.nf_lemmas.proofs.DigitLemmas.{digits_model}

-- the choice that a kind is, where a name is no number and no text
chosen : (k found : TokenKind) (n d t m : Bool) → cond n (Some k) (cond d (Some Number) (cond t (Some Text) (cond m (Some Mark) None))) ≡ Some found
    → (found ≡ Ident → (n ≡ true) × (k ≡ Ident)) × (found ≡ Number → (k ≡ Number → ⊥) → d ≡ true) × (found ≡ Text → (k ≡ Text → ⊥) → t ≡ true)
chosen k found true d t m e = (λ i. (refl, cc), λ i o. absurd (o cc), λ i o. absurd (o cc))
chosen k found false true t m e = (λ i. absurd cc, λ i o. refl, λ i o. absurd cc)
chosen k found false false true m e = (λ i. absurd cc, λ i o. absurd cc, λ i o. refl)
chosen k found false false false true e = (λ i. absurd cc, λ i o. absurd cc, λ i o. absurd cc)
chosen k found false false false false e = (λ i. absurd cc, λ i o. absurd cc, λ i o. absurd cc)

name_no_number : (b : Bool) → cond b Keyword Ident ≡ Number → ⊥
name_no_number true e = cc
name_no_number false e = cc

name_no_text : (b : Bool) → cond b Keyword Ident ≡ Text → ⊥
name_no_text true e = cc
name_no_text false e = cc

-- an identifier has the form of names and is no keyword, a number is one, and a text is one
pub name_word : (w : List ℕ) → kind_of w ≡ Some Ident → (has_name_form w ≡ true) × (name_kind w ≡ Ident)
unfolding kind_of
name_word w e = (chosen (name_kind w) Ident (has_name_form w) (is_number w) (is_text w) (is_mark w) e).0 refl

pub number_word : (w : List ℕ) → kind_of w ≡ Some Number → is_number w ≡ true
unfolding kind_of
number_word w e = (chosen (name_kind w) Number (has_name_form w) (is_number w) (is_text w) (is_mark w) e).1 refl (name_no_number (is_among keywords w))

pub text_word : (w : List ℕ) → kind_of w ≡ Some Text → is_text w ≡ true
unfolding kind_of
text_word w e = (chosen (name_kind w) Text (has_name_form w) (is_number w) (is_text w) (is_mark w) e).2 refl (name_no_text (is_among keywords w))

-- an identifier is a name, and as a word it is one
plain_name : (b : Bool) → not b ≡ true → cond b Keyword Ident ≡ Ident
plain_name true e = absurd cc
plain_name false e = refl

pub identifier_parts : (w : List ℕ) → is_identifier w ≡ true → (has_name_form w ≡ true) × (name_kind w ≡ Ident)
unfolding is_identifier
identifier_parts w h =
    let p = and_parts (has_name_form w) (not (is_among keywords w)) h in
    (p.0, plain_name (is_among keywords w) p.1)

-- a number is one digit and more, so it is UTF-8
pub number_digits : (w : List ℕ) → is_number w ≡ true → (0 < length w) × (list_all is_ascii_digit w ≡ true)
number_digits w h =
    let p = and_parts (is_ascii_digit (get_or w 0 0)) (list_all is_ascii_digit w) h in
    (has_first is_ascii_digit w refl p.0, p.1)

pub number_utf8 : (w : List ℕ) → is_number w ≡ true → IsUtf8 w
number_utf8 w h = IsUtf8-from_ascii w (IsAscii-from_digits w (digits_model.to w (number_digits w h).1))

-- a text has both of its `"`
pub text_long : (w : List ℕ) → is_text w ≡ true → 2 ≤ length w
text_long w h =
    let p = and_parts (is_quote (get_or w 0 0)) (eqb (position_or_len is_quote (drop 1 w) + 2) (length w)) h in
    omega (arith, eqb-true (position_or_len is_quote (drop 1 w) + 2) (length w) p.1)
