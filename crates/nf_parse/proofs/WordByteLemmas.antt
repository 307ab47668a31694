-- What the kind of a word says of its bytes.
use Rattle.std.specs.Map.{lookup}
use Rattle.std.proofs.Common.{◌≡◌, ◌≤◌, unwrap_or, ◌<◌, ◌^◌, ℕ, Bool, true, false, cond, not, ltb, ◌&&◌, List, [], ◌∷◌, length, refl, sym, ap, ◌∙◌, subst, Option, Some, None, Result, Ok, Err, ℤ, pos, to_z, of_z, IsUtf8, bytes_eq}
use Rattle.std.specs.Str.{is_utf8}
use Rattle.std.specs.List.{list_all}
use Rattle.std.specs.Result.{OkIff}
use Rattle.std.specs.Str.Parse.{digits_value, ParsesSigned}
use Rattle.std.specs.Int.{w64}
use Rattle.std.proofs.lemmas.Str.{IsUtf8-from_is_utf8}
use Rattle.std.proofs.lemmas.Str.Parse.{parse_signed_digits}
use Rattle.std.proofs.lemmas.Bool.{and_parts}
use Rattle.std.proofs.Math.Facts.{to_z_pos}
use borrow.Author.Tests.{ltb-true}
use Rattle.nf_text.specs.Value.{is_plain}
use Rattle.nf_lex.specs.declared.token.TokenKind.{TokenKind}
use Rattle.nf_lex.specs.declared.token.TokenKind.TheVariants.{Ident, Keyword, Number, Text, Mark}
use Rattle.nf_core.specs.Identifiers.{has_name_form}
use Rattle.nf_lex.specs.Words.{is_number, is_text}
use Rattle.nf_lex.specs.Faults.{fault_of, body_of}
use Rattle.nf_parse.specs.declared.symbol.Sym.{Sym}
use Rattle.nf_parse.specs.declared.symbol.Sym.TheVariants as kind
use Rattle.nf_parse.specs.State.{sym_of, sym_in, keywords, marks}
use Rattle.nf_parse.specs.inner.Parsers.{IsSound}
use denote.Enum.Bare.{sameb, true_same}
use Rattle.nf_parse.specs.contracts.symbol.Sym.{the_type}
use Rattle.nf_lex.proofs.Public.NameLemmas.{name_utf8}
use Rattle.nf_lex.proofs.Public.KindLemmas as kinds
use Rattle.nf_lex.proofs.Public.KindLemmas.{name_word, number_word, text_word, number_digits}
use Rattle.nf_lemmas.proofs.BoolLemmas.{passed_where_none}
use Rattle.nf_lemmas.proofs.DigitLemmas.{digits_model}

-- what a table doesn't have isn't found in it
not_true : not true ≡ true → ⊥
not_true e = cc

not_chosen : (k j : Sym) (b : Bool) (rest : Option Sym) → not (sameb the_type j k) ≡ true
    → (unwrap_or rest kind.Other ≡ k → ⊥) → unwrap_or (cond b (Some j) rest) kind.Other ≡ k → ⊥
not_chosen k j true rest n o e = not_true (subst (λ b. not b ≡ true) (ap (λ i. sameb the_type i k) e ∙ true_same the_type k k refl) n)
not_chosen k j false rest n o e = o e

not_in : (k : Sym) → (k ≡ kind.Other → ⊥) → (table : List (List ℕ × Sym))
    → list_all (λ (entry : List ℕ × Sym). not (sameb the_type entry.1 k)) table ≡ true
    → (bytes : List ℕ) → sym_in table bytes ≡ k → ⊥
not_in k o [] h bytes e = o (sym e)
not_in k o (entry ∷ table) h bytes e =
    let parts = and_parts (not (sameb the_type entry.1 k)) (list_all (λ (entry : List ℕ × Sym). not (sameb the_type entry.1 k)) table) h in
    not_chosen k entry.1 (bytes_eq bytes entry.0) (lookup (bytes_eq bytes) table) parts.0 (not_in k o table parts.1 bytes) e

-- the kinds of identifiers, numbers and texts
number_kind : (t : TokenKind) (w : List ℕ) → kind.Number ≡ sym_of t w → t ≡ Number
unfolding sym_of
number_kind Number w h = refl
number_kind Keyword w h = absurd (not_in kind.Number (λ e. cc) keywords refl w (sym h))
number_kind Mark w h = absurd (not_in kind.Number (λ e. cc) marks refl w (sym h))
number_kind t w h = cc

pub text_kind : (t : TokenKind) (w : List ℕ) → kind.Text ≡ sym_of t w → t ≡ Text
unfolding sym_of
text_kind Text w h = refl
text_kind Keyword w h = absurd (not_in kind.Text (λ e. cc) keywords refl w (sym h))
text_kind Mark w h = absurd (not_in kind.Text (λ e. cc) marks refl w (sym h))
text_kind t w h = cc

pub ident_kind : (t : TokenKind) (w : List ℕ) → kind.Ident ≡ sym_of t w → t ≡ Ident
unfolding sym_of
ident_kind Ident w h = refl
ident_kind Keyword w h = absurd (not_in kind.Ident (λ e. cc) keywords refl w (sym h))
ident_kind Mark w h = absurd (not_in kind.Ident (λ e. cc) marks refl w (sym h))
ident_kind t w h = cc

-- so numbers are digits, texts have both of their `"`, and identifiers have the form of names
number_is : (w : List ℕ) → IsSound kind.Number w → is_number w ≡ true
number_is w s = number_word w (s.form ∙ ap Some (number_kind s.kind w s.is))

text_is : (w : List ℕ) → IsSound kind.Text w → is_text w ≡ true
text_is w s = text_word w (s.form ∙ ap Some (text_kind s.kind w s.is))

ident_is : (w : List ℕ) → IsSound kind.Ident w → has_name_form w ≡ true
ident_is w s = (name_word w (s.form ∙ ap Some (ident_kind s.kind w s.is))).0

pub number_small : (w : List ℕ) → IsSound kind.Number w → digits_value 10 w < 2 ^ 63
unfolding fault_of
number_small w s = ltb-true (digits_value 10 w) (2 ^ 63) (passed_where_none (ltb (digits_value 10 w) (2 ^ 63)) _ (subst (λ k. fault_of k w 0 ≡ None) (number_kind s.kind w s.is) (s.sound 0)))

pub number_utf8 : (w : List ℕ) → IsSound kind.Number w → IsUtf8 w
number_utf8 w s = kinds.number_utf8 w (number_is w s)

ok_iff : {E : Type 0} (w : List ℕ) (r : Result ℤ E) → 0 < length w → digits_value 10 w < 2 ^ 63
    → OkIff r ((0 < length w) × (digits_value 10 w < 2 ^ 63)) (pos (digits_value 10 w))
    → r ≡ Ok (pos (digits_value 10 w))
ok_iff w (Ok n) l m p = ap Ok p.1
ok_iff w (Err e) l m p = absurd (p (l, m))

pub number_read : {E : Type 0} (w : List ℕ) (r : Result ℤ E) → IsSound kind.Number w
    → ParsesSigned w64 10 w r → r ≡ Ok (pos (digits_value 10 w))
number_read w r s p =
    let d = number_digits w (number_is w s) in
    ok_iff w r d.0 (number_small w s) (parse_signed_digits digits_model w64 w r p d.1)

ok_value : {E : Type 0} (a b : ℤ) (r : Result ℤ E) → r ≡ Ok a → r ≡ Ok b → a ≡ b
ok_value a b r p q = cc

pub number_shown : {E : Type 0} (w : List ℕ) (r : Result ℤ E) (n : ℤ) → IsSound kind.Number w
    → ParsesSigned w64 10 w r → r ≡ Ok n → to_z w64 (of_z w64 n) ≡ pos (digits_value 10 w)
number_shown w r n s p e =
    subst (λ z. to_z w64 (of_z w64 z) ≡ pos (digits_value 10 w)) (ok_value (pos (digits_value 10 w)) n r (number_read w r s p) e) (to_z_pos w64 (number_small w s))

-- texts
pub text_long : (w : List ℕ) → IsSound kind.Text w → 2 ≤ length w
text_long w s = kinds.text_long w (text_is w s)

pub text_utf8 : (w : List ℕ) → IsSound kind.Text w → IsUtf8 (body_of w)
unfolding fault_of
text_utf8 w s = IsUtf8-from_is_utf8 (body_of w) (and_parts (is_utf8 (body_of w)) (is_plain (body_of w)) (passed_where_none (is_utf8 (body_of w) && is_plain (body_of w)) _ (subst (λ k. fault_of k w 0 ≡ None) (text_kind s.kind w s.is) (s.sound 0)))).0

-- identifiers
pub ident_utf8 : (w : List ℕ) → IsSound kind.Ident w → IsUtf8 w
ident_utf8 w s = name_utf8 w (ident_is w s)
