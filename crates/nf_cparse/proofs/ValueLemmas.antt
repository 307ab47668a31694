-- The bytes of identifiers and of literals.
use Rattle.std.proofs.Common.{◌≡◌, ℕ, ◌^◌, ◌<◌, ◌≤◌, ◌==◌, ◌&&◌, ◌||◌, Bool, true, false, not, ltb, All, List, [], ◌∷◌, ◌++◌, length, take, drop, get_or, Result, Ok, Err, ℤ, pos, IsUtf8, ap, sym, ◌∙◌, subst, refl, arith, length-append, append_assoc, append-nil}
use Rattle.std.specs.List.{prefix_len, list_all, filter}
use Rattle.std.specs.Char.{is_ascii_digit}
use Rattle.std.specs.Result.{OkIff}
use Rattle.std.specs.Str.Parse.{digits_value, ParsesSigned}
use Rattle.std.specs.Int.{w64}
use Rattle.std.proofs.lemmas.List.Elements.{filter-append}
use Rattle.std.proofs.lemmas.List.Sums.{AllPass-from_list_all}
use Rattle.std.proofs.lemmas.Bool.{ltb-true, not-true}
use Rattle.std.proofs.lemmas.Bool.Decides.{nat_tests}
use Rattle.std.proofs.lemmas.Str.{IsUtf8-from_ascii}
use Rattle.std.proofs.lemmas.Str.Ascii.{IsAscii-from_all}
use Rattle.std.proofs.lemmas.Str.Parse.{parse_signed_digits}
use Rattle.std.proofs.Math.Seq.{drop-append_seam}
use Rattle.nf_lemmas.proofs.BoolLemmas.{both}
use Rattle.nf_lemmas.proofs.DigitLemmas.{digits_model}
use Rattle.nf_core.specs.Identifiers.{is_digit}
use Rattle.nf_lex.specs.Bytes.{is_blank}
use Rattle.nf_cast.specs.Names.{is_small, has_small_form, is_c_identifier}
use Rattle.nf_cparse.specs.declared.symbol.Sym.TheVariants as kind
use Rattle.nf_cparse.specs.Pieces.{digits_at, are_literal_digits}
use Rattle.nf_cparse.specs.inner.Tokens.{IsToken}
use Rattle.nf_cparse.specs.Grammar.{literal_value}
use Rattle.nf_cparse.proofs.RunLemmas.{run_is}
use Rattle.nf_cparse.proofs.ReadPieceLemmas.{blank_apart, behind_first, digits_front}
use Rattle.nf_cparse.proofs.TokenFormLemmas.{token_form, IsLiteral, from_word, literal_parts}

-- digits that are read
ok_iff : {E : Type 0} (w : List ℕ) (r : Result ℤ E) → 0 < length w → digits_value 10 w < 2 ^ 63
    → OkIff r ((0 < length w) × (digits_value 10 w < 2 ^ 63)) (pos (digits_value 10 w))
    → r ≡ Ok (pos (digits_value 10 w))
ok_iff w (Ok n) l m p = ap Ok p.1
ok_iff w (Err e) l m p = absurd (p (l, m))

pub value_read : {E : Type 0} (w : List ℕ) (r : Result ℤ E) → 0 < length w → list_all is_ascii_digit w ≡ true → digits_value 10 w < 2 ^ 63
    → ParsesSigned w64 10 w r → r ≡ Ok (pos (digits_value 10 w))
value_read w r l d m p = ok_iff w r l m (parse_signed_digits digits_model w64 w r p d)

-- the digits of a literal
pub record AreDigitsOf (text digits : List ℕ) : Type 0 where
  pub value : digits_value 10 digits ≡ literal_value text
  pub all : list_all is_ascii_digit digits ≡ true
  pub some : 0 < length digits
  pub small : digits_value 10 digits < 2 ^ 63

literal_form : (text : List ℕ) → IsToken kind.Lit text → IsLiteral text
literal_form text t =
    let form = token_form t.bytes kind.Lit t.count t.piece in
    literal_parts t.bytes text t.count (form.long refl) t.is (form.literal refl)

pub literal_long : (text : List ℕ) → IsToken kind.Lit text → 7 ≤ length text
literal_long text t =
    let l = literal_form text t in
    omega (arith, ap length l.is, length-append l.head (from_word l.first l.second l.digits l.third []), l.head_len)

-- bytes that are no digits
abbrev no_digit : ℕ → Bool
no_digit byte = not (is_ascii_digit byte)

blanks_no_digits : (blanks rest : List ℕ) → list_all is_blank blanks ≡ true → list_all no_digit rest ≡ true → list_all no_digit (blanks ++ rest) ≡ true
blanks_no_digits [] rest h r = r
blanks_no_digits (x ∷ blanks) rest h r =
    let p = both (is_blank x) (list_all is_blank blanks) h in
    rw ((blank_apart x p.0).1, blanks_no_digits blanks rest p.1 r) refl

none_kept : (xs : List ℕ) → list_all no_digit xs ≡ true → filter is_ascii_digit xs ≡ []
none_kept [] h = refl
none_kept (x ∷ xs) h =
    let p = both (no_digit x) (list_all no_digit xs) h in
    let d : is_ascii_digit x ≡ false = not-true (is_ascii_digit x) p.0 in
    rw d (none_kept xs p.1)

all_kept : (xs : List ℕ) → list_all is_ascii_digit xs ≡ true → filter is_ascii_digit xs ≡ xs
all_kept [] h = refl
all_kept (x ∷ xs) h =
    let p = both (is_ascii_digit x) (list_all is_ascii_digit xs) h in
    rw (p.0, all_kept xs p.1) refl

-- digits of a literal are some, and small
sound_parts : (digits : List ℕ) → are_literal_digits digits ≡ true → (0 < length digits) × (digits_value 10 digits < 2 ^ 63)
unfolding are_literal_digits
sound_parts [] h = absurd (cc)
sound_parts (x ∷ digits) h =
    let p = both ((length (x ∷ digits) == 1) || (ltb 1 (length (x ∷ digits)) && not (x == 48))) (ltb (digits_value 10 (x ∷ digits)) (2 ^ 63)) h in
    (omega arith, ltb-true (digits_value 10 (x ∷ digits)) (2 ^ 63) p.1)

first_digit : (digits rest : List ℕ) → 0 < length digits → list_all is_ascii_digit digits ≡ true → no_digit (get_or (digits ++ rest) 0 0) ≡ false
first_digit [] rest some h = absurd (omega arith)
first_digit (x ∷ digits) rest some h = ap not (both (is_ascii_digit x) (list_all is_ascii_digit digits) h).0

module _ (text : List ℕ) (l : IsLiteral text) where
  abbrev before : List ℕ
  before = l.first ++ 40 ∷ l.second

  abbrev last : List ℕ
  last = l.third ++ 41 ∷ []

  behind_head : drop 7 text ≡ before ++ (l.digits ++ last)
  behind_head =
      let tail = from_word l.first l.second l.digits l.third [] in
      ap (drop 7) l.is ∙ ap (λ n. drop n (l.head ++ tail)) (sym l.head_len) ∙ drop-append_seam l.head tail ∙ sym (append_assoc l.first (40 ∷ l.second) (l.digits ++ last))

  before_none : list_all no_digit before ≡ true
  before_none = blanks_no_digits l.first (40 ∷ l.second) l.first_blank (rw_second)
    where
      rw_second : list_all no_digit (40 ∷ l.second) ≡ true
      rw_second = subst (λ xs. list_all no_digit (40 ∷ xs) ≡ true) (append-nil l.second) (blanks_no_digits l.second [] l.second_blank refl)

  last_none : list_all no_digit last ≡ true
  last_none = blanks_no_digits l.third (41 ∷ []) l.third_blank refl

  value_is : filter is_ascii_digit (drop 7 text) ≡ l.digits
  value_is =
      ap (filter is_ascii_digit) behind_head ∙ filter-append is_ascii_digit before (l.digits ++ last)
      ∙ ap (λ xs. xs ++ filter is_ascii_digit (l.digits ++ last)) (none_kept before before_none)
      ∙ filter-append is_ascii_digit l.digits last
      ∙ ap (λ xs. filter is_ascii_digit l.digits ++ xs) (none_kept last last_none)
      ∙ append-nil (filter is_ascii_digit l.digits) ∙ all_kept l.digits l.all

  inside_is : (behind inside : List ℕ) → behind ≡ drop 7 text → inside ≡ drop (prefix_len no_digit behind) behind → inside ≡ l.digits ++ last
  inside_is behind inside b i =
      let some = sound_parts l.digits l.sound in
      let n = run_is no_digit before (l.digits ++ last) before_none (first_digit l.digits last some.0 l.all) in
      i ∙ ap (λ xs. drop (prefix_len no_digit xs) xs) (b ∙ behind_head) ∙ ap (λ k. drop k (before ++ (l.digits ++ last))) n ∙ drop-append_seam before (l.digits ++ last)

  no_digit_last : is_ascii_digit (get_or last 0 0) ≡ false
  no_digit_last = behind_first is_ascii_digit (λ x h. (blank_apart x h).1) l.third (41 ∷ []) l.third_blank refl

  digits_are : (inside digits : List ℕ) → inside ≡ l.digits ++ last → digits ≡ take (prefix_len is_ascii_digit inside) inside → digits ≡ l.digits
  unfolding digits_at
  digits_are inside digits i d = d ∙ ap (λ xs. take (prefix_len is_ascii_digit xs) xs) i ∙ (digits_front l.digits last l.all no_digit_last).0

  are_digits : (digits : List ℕ) → digits ≡ l.digits → AreDigitsOf text digits
  unfolding literal_value
  are_digits digits d =
      let some = sound_parts l.digits l.sound in
      record {
        value = ap (digits_value 10) (d ∙ sym value_is);
        all = subst (λ xs. list_all is_ascii_digit xs ≡ true) (sym d) l.all;
        some = subst (λ (xs : List ℕ). 0 < length xs) (sym d) some.0;
        small = subst (λ xs. digits_value 10 xs < 2 ^ 63) (sym d) some.1;
      }

pub literal_digits : (text behind inside digits : List ℕ) → IsToken kind.Lit text → behind ≡ drop 7 text
    → inside ≡ drop (prefix_len no_digit behind) behind → digits ≡ take (prefix_len is_ascii_digit inside) inside → AreDigitsOf text digits
literal_digits text behind inside digits t b i d =
    let l = literal_form text t in
    are_digits text l digits (digits_are text l inside digits (inside_is text l behind inside b i) d)

-- an identifier is ASCII
abbrev inner_small : ℕ → Bool
inner_small b = is_small b || is_digit b || b == 95

small_ascii : (b : ℕ) → inner_small b ≡ true → b < 128
small_ascii b h = grind (arith, nat_tests)

small_first : (b : ℕ) → is_small b ≡ true → inner_small b ≡ true
small_first b h = rw h refl

form_ascii : (w : List ℕ) → has_small_form w ≡ true → All (λ b. b < 128) w
unfolding has_small_form
form_ascii [] h = absurd (cc)
form_ascii (x ∷ w) h =
    let p = both (is_small x) (list_all inner_small w) h in
    let all : list_all inner_small (x ∷ w) ≡ true = rw (small_first x p.0, p.1) refl in
    λ k d l. small_ascii (get_or (x ∷ w) k d) (AllPass-from_list_all inner_small (x ∷ w) all k d l)

name_form : (w : List ℕ) → is_c_identifier w ≡ true → has_small_form w ≡ true
unfolding is_c_identifier
name_form w h = (both (has_small_form w) _ (both _ _ (both _ _ h).0).0).0

pub name_utf8 : (text : List ℕ) → IsToken kind.Ident text → IsUtf8 text
name_utf8 text t =
    let form = (token_form t.bytes kind.Ident t.count t.piece).name refl in
    IsUtf8-from_ascii text (IsAscii-from_all text (form_ascii text (name_form text (subst (λ xs. is_c_identifier xs ≡ true) (sym t.is) form))))
