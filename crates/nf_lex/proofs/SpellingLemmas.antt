-- Tokens and what a specification can write: identifiers, and texts between `"`.
use Rattle.std.proofs.Common.{◌≡◌, ◌≢◌, ℕ, suc, ◌+◌, ◌-◌, Bool, true, false, not, ◌&&◌, cond, eqb, List, [], ◌∷◌, length, take, drop, get_or, refl, sym, ap, subst, ◌∙◌, arith, Some, None, IsTrue, ◌↔◌}
use Rattle.std.specs.List.{position_or_len, AllByRecursion}
use Rattle.std.specs.Str.{is_utf8}
use Rattle.std.proofs.lemmas.List.Elements.{All-from_recursion}
use Rattle.std.proofs.lemmas.Bool.{and_parts, and_from}
use borrow.Author.Tests.{eqb-true}
use Rattle.nf_core.specs.Identifiers.{has_name_form, is_identifier, keywords}
use Rattle.nf_core.specs.Texts.{IsPlain}
use Rattle.nf_core.specs.Trees.{IsWrittenText}
use Rattle.nf_text.specs.Value.{is_plain}
use Rattle.nf_lex.specs.declared.token.TokenKind.TheVariants.{Ident, Keyword, Text}
use Rattle.nf_lex.specs.declared.fault.LexFault.TheVariants.{BadText}
use Rattle.nf_lex.specs.Bytes.{is_quote}
use Rattle.nf_lex.specs.Words.{is_among, is_text, quoted, name_kind, kind_of}
use Rattle.nf_lex.specs.Faults.{body_of, fault_of}
use Rattle.nf_lex.proofs.Public.QuotedTextLemmas.{quoted_is_text, body_of_quoted}
use Rattle.nf_lex.proofs.Public.KindLemmas.{name_word, text_word, identifier_parts}
use Rattle.nf_lemmas.proofs.BoolLemmas.{choose_first, passed_where_none}

-- a word is an identifier's exactly where it has the form of names and is no keyword
no_keyword : (b : Bool) → cond b Keyword Ident ≡ Ident → not b ≡ true
no_keyword true e = absurd cc
no_keyword false e = refl

pub ident_is_identifier : (word : List ℕ) → kind_of word ≡ Some Ident → IsTrue (is_identifier word)
unfolding is_identifier
ident_is_identifier word e =
    let p = name_word word e in
    and_from (has_name_form word) (not (is_among keywords word)) p.0 (no_keyword (is_among keywords word) p.1)

pub identifier_is_ident : (word : List ℕ) → IsTrue (is_identifier word) → kind_of word ≡ Some Ident
unfolding kind_of
identifier_is_ident word h =
    let p = identifier_parts word h in
    choose_first (has_name_form word) (Some (name_kind word)) _ p.0 ∙ ap Some p.1

abbrev IsOther : ℕ → Type 0
IsOther byte = byte ≢ 34

one_more : (n : ℕ) → suc n ≡ 1 + n
one_more n = omega arith

-- the bytes before the first `"` are others
others_before : (xs : List ℕ) → AllByRecursion IsOther (take (position_or_len is_quote xs) xs)
others_before [] = tt
others_before (x ∷ xs) = at (is_quote x) refl (others_before xs)
  where
    at : (b : Bool) → is_quote x ≡ b → AllByRecursion IsOther (take (position_or_len is_quote xs) xs) → AllByRecursion IsOther (take (position_or_len is_quote (x ∷ xs)) (x ∷ xs))
    at true e rest = rw e tt
    at false e rest = rw e (subst (λ n. AllByRecursion IsOther (take n (x ∷ xs))) (one_more (position_or_len is_quote xs)) ((λ q. let s : true ≡ false = subst (λ c. is_quote c ≡ false) q e in cc), rest))

-- what stands between the `"` of a text stands before the second one
body_before : (word : List ℕ) → is_text word ≡ true → body_of word ≡ take (position_or_len is_quote (drop 1 word)) (drop 1 word)
body_before word h =
    let p = and_parts (is_quote (get_or word 0 0)) (eqb (position_or_len is_quote (drop 1 word) + 2) (length word)) h in
    let n : length word - 1 - 1 ≡ position_or_len is_quote (drop 1 word) = omega (arith, eqb-true (position_or_len is_quote (drop 1 word) + 2) (length word) p.1) in
    ap (λ m. take m (drop 1 word)) n

abbrev PlainIs : Type 0
PlainIs = (text : List ℕ) → (is_plain text ≡ true) ↔ IsPlain text

pub text_is_written : PlainIs → (word : List ℕ) (line : ℕ) → kind_of word ≡ Some Text → fault_of Text word line ≡ None → IsWrittenText (body_of word)
unfolding fault_of
text_is_written plain word line k e =
    let sound = and_parts (is_utf8 (body_of word)) (is_plain (body_of word)) (passed_where_none (is_utf8 (body_of word) && is_plain (body_of word)) (BadText line) e) in
    record {
      utf8 = sound.0;
      plain = (plain (body_of word)).0 sound.1;
      no_quote = All-from_recursion IsOther (body_of word) (subst (AllByRecursion IsOther) (sym (body_before word (text_word word k))) (others_before (drop 1 word)));
    }

pub quoted_is_word : (text : List ℕ) → IsWrittenText text → kind_of (quoted text) ≡ Some Text
unfolding kind_of has_name_form
quoted_is_word text w = choose_first (is_text (quoted text)) (Some Text) _ (quoted_is_text text w.no_quote)

pub quoted_is_sound : PlainIs → (text : List ℕ) (line : ℕ) → IsWrittenText text → fault_of Text (quoted text) line ≡ None
unfolding fault_of
quoted_is_sound plain text line w =
    choose_first (is_utf8 (body_of (quoted text)) && is_plain (body_of (quoted text))) None _
    (subst (λ t. (is_utf8 t && is_plain t) ≡ true) (sym (body_of_quoted text)) (and_from (is_utf8 text) (is_plain text) w.utf8 ((plain text).1 w.plain)))
