-- What the first byte of a word says of its kind.
use Rattle.std.proofs.Common.{◌≡◌, ℕ, ◌+◌, Bool, true, false, not, ◌&&◌, cond, eqb, List, [], ◌∷◌, length, drop, get_or, refl, sym, ap, ◌∙◌, ⊎_elim, ◌⊎◌, inl, inr, subst, arith, bytes_eq, Some, None}
use Rattle.std.specs.Char.{is_ascii_digit}
use Rattle.std.specs.List.{list_all, list_any, position_or_len}
use Rattle.std.proofs.lemmas.Bool.{and_parts, or_cases, false_from_ne_true, both_ways, not-true}
use Rattle.std.proofs.lemmas.Bool.Decides.{nat_tests}
use Rattle.std.proofs.lemmas.Slice.Eq.{bytes_eq-Decides}
use borrow.Author.Tests.{eqb-true}
use Rattle.nf_lex.specs.declared.token.TokenKind.TheVariants.{Number, Text, Mark}
use Rattle.nf_core.specs.Identifiers.{is_letter}
use Rattle.nf_lex.specs.Bytes.{is_blank, is_inner, is_quote}
use Rattle.nf_lex.specs.Words.{kind_of, name_kind, is_among, is_mark, long_marks, short_marks}
use Rattle.nf_lex.proofs.Public.NameLemmas.{form_by_first}

-- an element that passes, of a list whose elements all have a property
pub any_in : {X : Type 0} (q p : X → Bool) (xs : List X) → list_all p xs ≡ true → list_any q xs ≡ true → (x : X) × (q x ≡ true) × (p x ≡ true)
any_in q p [] a h = absurd cc
any_in q p (x ∷ xs) a h =
    let parts = and_parts (p x) (list_all p xs) a in
    ⊎_elim (λ e. (x, e, parts.0)) (λ e. any_in q p xs parts.1 e) (or_cases (q x) (list_any q xs) h)

-- a byte of no other class, with which a mark may begin
abbrev pub is_other : ℕ → Bool
is_other b = not (is_letter b) && not (is_ascii_digit b) && not (is_quote b) && not (is_blank b)

pub other_parts : (b : ℕ) → is_other b ≡ true → (is_letter b ≡ false) × (is_ascii_digit b ≡ false) × (is_quote b ≡ false)
other_parts b h =
    let x = and_parts (not (is_letter b) && not (is_ascii_digit b) && not (is_quote b)) (not (is_blank b)) h in
    let y = and_parts (not (is_letter b) && not (is_ascii_digit b)) (not (is_quote b)) x.0 in
    let z = and_parts (not (is_letter b)) (not (is_ascii_digit b)) y.0 in
    (not-true (is_letter b) z.0, not-true (is_ascii_digit b) z.1, not-true (is_quote b) y.1)

-- a mark is one of two bytes, or one byte
pub mark_kinds : (w : List ℕ) → is_mark w ≡ true → ((length w ≡ 2) × (is_among long_marks w ≡ true)) ⊎ ((length w ≡ 1) × (list_any (λ mark. eqb mark (get_or w 0 0)) short_marks ≡ true))
mark_kinds w h = ⊎_elim
    (λ l.
    let m = any_in (λ entry. bytes_eq entry w) (λ mark. eqb (length mark) 2) long_marks refl l in
    inl (ap length (sym ((bytes_eq-Decides m.0 w).0 m.1)) ∙ eqb-true (length m.0) 2 m.2, l))
    (λ s. let p = and_parts (eqb (length w) 1) (list_any (λ mark. eqb mark (get_or w 0 0)) short_marks) s in inr (eqb-true (length w) 1 p.0, p.1))
    (or_cases (is_among long_marks w) (eqb (length w) 1 && list_any (λ mark. eqb mark (get_or w 0 0)) short_marks) h)

-- a byte that is a mark is of no other class
pub short_other : (b : ℕ) → list_any (λ mark. eqb mark b) short_marks ≡ true → is_other b ≡ true
short_other b h =
    let m = any_in (λ mark. eqb mark b) is_other short_marks refl h in
    subst (λ c. is_other c ≡ true) (eqb-true m.0 b m.1) m.2

pub long_other : (w : List ℕ) → is_among long_marks w ≡ true → is_other (get_or w 0 0) ≡ true
long_other w h =
    let m = any_in (λ entry. bytes_eq entry w) (λ mark. is_other (get_or mark 0 0)) long_marks refl h in
    subst (λ v. is_other (get_or v 0 0) ≡ true) ((bytes_eq-Decides m.0 w).0 m.1) m.2

pub mark_other : (w : List ℕ) → is_mark w ≡ true → is_other (get_or w 0 0) ≡ true
mark_other w h = ⊎_elim (λ l. long_other w l.1) (λ s. short_other (get_or w 0 0) s.1) (mark_kinds w h)

-- so a word that begins with a byte of another class is no mark
pub no_mark : (w : List ℕ) → is_other (get_or w 0 0) ≡ false → is_mark w ≡ false
no_mark w h = false_from_ne_true (is_mark w) (λ m. both_ways (is_other (get_or w 0 0)) h (mark_other w m))

-- a byte of one class is of no other
letter_apart : (b : ℕ) → is_letter b ≡ true → (is_ascii_digit b ≡ false) × (is_quote b ≡ false)
letter_apart b h = (grind (arith, nat_tests), grind (arith, nat_tests))

digit_apart : (b : ℕ) → is_ascii_digit b ≡ true → (is_letter b ≡ false) × (is_quote b ≡ false)
digit_apart b h = (grind (arith, nat_tests), grind (arith, nat_tests))

pub quote_apart : (b : ℕ) → is_quote b ≡ true → (is_letter b ≡ false) × (is_ascii_digit b ≡ false)
quote_apart b h = (grind (arith, nat_tests), grind (arith, nat_tests))

letter_other : (b : ℕ) → is_letter b ≡ true → is_other b ≡ false
letter_other b h = rw h

digit_other : (b : ℕ) → is_ascii_digit b ≡ true → is_other b ≡ false
digit_other b h = rw (h, (digit_apart b h).0)

pub quote_other : (b : ℕ) → is_quote b ≡ true → is_other b ≡ false
quote_other b h = rw (h, (quote_apart b h).0, (quote_apart b h).1)

-- the kind of a word by its first byte
pub kind_name : (w : List ℕ) → is_letter (get_or w 0 0) ≡ true → kind_of w ≡ cond (list_all is_inner w) (Some (name_kind w)) None
unfolding kind_of
kind_name w h =
    let a = letter_apart (get_or w 0 0) h in
    rw (form_by_first w, h, a.0, a.1, no_mark w (letter_other (get_or w 0 0) h))

pub kind_number : (w : List ℕ) → is_ascii_digit (get_or w 0 0) ≡ true → kind_of w ≡ cond (list_all is_ascii_digit w) (Some Number) None
unfolding kind_of
kind_number w h =
    let a = digit_apart (get_or w 0 0) h in
    rw (form_by_first w, a.0, h, a.1, no_mark w (digit_other (get_or w 0 0) h))

pub kind_text : (w : List ℕ) → is_quote (get_or w 0 0) ≡ true → kind_of w ≡ cond (eqb (position_or_len is_quote (drop 1 w) + 2) (length w)) (Some Text) None
unfolding kind_of
kind_text w h =
    let a = quote_apart (get_or w 0 0) h in
    rw (form_by_first w, a.0, a.1, h, no_mark w (quote_other (get_or w 0 0) h))

pub kind_mark : (w : List ℕ) → is_letter (get_or w 0 0) ≡ false → is_ascii_digit (get_or w 0 0) ≡ false → is_quote (get_or w 0 0) ≡ false → kind_of w ≡ cond (is_mark w) (Some Mark) None
unfolding kind_of
kind_mark w i d q = rw (form_by_first w, i, d, q)
