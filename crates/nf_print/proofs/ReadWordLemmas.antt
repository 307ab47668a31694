-- Bytes that are read as words, one word in front of others.
use Rattle.std.proofs.Common.{◌≡◌, ℕ, ◌+◌, ◌-◌, ◌≤◌, Bool, true, false, ◌||◌, eqb, List, [], ◌∷◌, ◌++◌, length, take, drop, get_or, refl, sym, ap, ◌∙◌, subst, arith, None, Ok}
use Rattle.std.specs.Char.{is_ascii_digit}
use Rattle.std.specs.List.{list_any}
use Rattle.std.proofs.lemmas.List.{take_at, drop_at, drop-drop, length-drop}
use Rattle.std.proofs.lemmas.Bool.Decides.{nat_tests}
use Rattle.nf_core.specs.Identifiers.{is_identifier, has_name_form}
use Rattle.nf_lex.specs.declared.token.TokenKind.{TokenKind}
use Rattle.nf_lex.specs.declared.token.TokenKind.TheVariants as kind
use Rattle.nf_lex.specs.declared.token.Token.{Token}
use Rattle.nf_lex.specs.Bytes.{is_blank, is_inner}
use Rattle.nf_lex.specs.Words as words
use Rattle.nf_lex.specs.Words.{is_number, is_text, is_among, name_kind, long_marks, short_marks, opens_line, opens_block, Gap, IsWord}
use Rattle.nf_lex.specs.Faults.{fault_of, line_at}
use Rattle.nf_lex.specs.Division.{Divides, ends, skips, takes, token_at}
use Rattle.nf_lex.proofs.Public.KindLemmas.{identifier_parts}
use Rattle.nf_parse.specs.State.{Word, words_of}
use Rattle.nf_print.proofs.WordFrontLemmas.{word, name, keyword, mark}

-- the lexer's law: a word that is followed by bytes with which it doesn't go on is read
pub record AreRead : Type 0 where
  pub name : (w rest : List ℕ) → has_name_form w ≡ true → is_inner (get_or rest 0 0) ≡ false → IsWord (w ++ rest) (words.Token (name_kind w)) (length w)
  pub number : (w rest : List ℕ) → is_number w ≡ true → is_ascii_digit (get_or rest 0 0) ≡ false → IsWord (w ++ rest) (words.Token kind.Number) (length w)
  pub text : (w rest : List ℕ) → is_text w ≡ true → IsWord (w ++ rest) (words.Token kind.Text) (length w)
  pub long_mark : (w rest : List ℕ) → is_among long_marks w ≡ true → IsWord (w ++ rest) (words.Token kind.Mark) 2
  pub short_mark : (m : ℕ) (rest : List ℕ) → list_any (λ k. eqb k m) short_marks ≡ true → is_among long_marks (take 2 (m ∷ rest)) ≡ false
      → opens_line (m ∷ rest) ≡ false → opens_block (m ∷ rest) ≡ false → IsWord (m ∷ rest) (words.Token kind.Mark) 1
  pub blank : (b : ℕ) (rest : List ℕ) → is_blank b ≡ true → IsWord (b ∷ rest) Gap 1

-- what stands in a source from a place on are tokens with these words
pub record HasWords (source : List ℕ) (place : ℕ) (ws : List Word) : Type 0 where
  pub tokens : List Token
  pub divides : Divides source place (Ok tokens)
  pub spelled : words_of source tokens ≡ ws

-- bytes have these words wherever they are the rest of a source
pub record Reads (bytes : List ℕ) (ws : List Word) : Type 0 where
  pub at : (source : List ℕ) (place : ℕ) → drop place source ≡ bytes → HasWords source place ws

-- the rest of a source behind a word
behind : (source : List ℕ) (place n : ℕ) (w rest : List ℕ) → drop place source ≡ w ++ rest → length w ≡ n → drop (place + n) source ≡ rest
behind source place n w rest e l = sym (drop-drop n place source) ∙ ap (drop n) e ∙ drop_at w rest n l

-- nothing
nothing_left : (source : List ℕ) (place : ℕ) → drop place source ≡ [] → length source ≤ place
nothing_left source place e = omega (arith, length-drop place source, ap length e)

pub reads_end : Reads [] []
reads_end = record { at = λ source place e. record { tokens = []; divides = ends (nothing_left source place e); spelled = refl } }

-- a token
pub reads_token : (kind : TokenKind) (n : ℕ) (w rest : List ℕ) (ws : List Word) → length w ≡ n → IsWord (w ++ rest) (words.Token kind) n → ((line : ℕ) → fault_of kind w line ≡ None)
    → Reads rest ws → Reads (w ++ rest) (word kind w ∷ ws)
reads_token kind n w rest ws l h f r = record {
  at = λ source place e.
      let found = r.at source (place + n) (behind source place n w rest e l) in
      let front : take n (drop place source) ≡ w = ap (take n) e ∙ take_at w rest n l in
      let slice : take ((place + n) - place) (drop place source) ≡ w = (let k : (place + n) - place ≡ n = omega arith in ap (λ j. take j (drop place source)) k ∙ front) in
      record {
        tokens = token_at kind place (place + n) ∷ found.tokens;
        divides = takes (subst (λ bytes. IsWord bytes (words.Token kind) n) (sym e) h) (subst (λ t. fault_of kind t (line_at source place) ≡ None) (sym front) (f (line_at source place))) found.divides refl;
        spelled = ap (λ t. word kind t ∷ words_of source found.tokens) slice ∙ ap (λ more. word kind w ∷ more) found.spelled;
      };
}

-- a byte that stands behind the words of an expression
abbrev pub is_stop : ℕ → Bool
is_stop b = eqb b 32 || eqb b 10 || eqb b 41 || eqb b 44

pub stop_inner : (b : ℕ) → is_stop b ≡ true → is_inner b ≡ false
stop_inner b h = grind (arith, nat_tests)

pub stop_digit : (b : ℕ) → is_stop b ≡ true → is_ascii_digit b ≡ false
stop_digit b h = grind (arith, nat_tests)

module _ (laws : AreRead) where
  -- a separator
  pub reads_blank : (b : ℕ) (rest : List ℕ) (ws : List Word) → is_blank b ≡ true → Reads rest ws → Reads (b ∷ rest) ws
  reads_blank b rest ws h r = record {
    at = λ source place e.
        let found = r.at source (place + 1) (behind source place 1 (b ∷ []) rest e refl) in
        record { tokens = found.tokens; divides = skips (subst (λ bytes. IsWord bytes Gap 1) (sym e) (laws.blank b rest h)) found.divides; spelled = found.spelled };
  }

  -- names
  pub reads_name : (w rest : List ℕ) (ws : List Word) → is_identifier w ≡ true → is_inner (get_or rest 0 0) ≡ false → Reads rest ws → Reads (w ++ rest) (name w ∷ ws)
  unfolding fault_of
  reads_name w rest ws h s r =
      let k = identifier_parts w h in
      reads_token kind.Ident (length w) w rest ws refl (subst (λ j. IsWord (w ++ rest) (words.Token j) (length w)) k.1 (laws.name w rest k.0 s)) (λ line. refl) r

  pub reads_keyword : (w rest : List ℕ) (ws : List Word) → has_name_form w ≡ true → name_kind w ≡ kind.Keyword → is_inner (get_or rest 0 0) ≡ false → Reads rest ws → Reads (w ++ rest) (keyword w ∷ ws)
  unfolding fault_of
  reads_keyword w rest ws h k s r =
      reads_token kind.Keyword (length w) w rest ws refl (subst (λ j. IsWord (w ++ rest) (words.Token j) (length w)) k (laws.name w rest h s)) (λ line. refl) r

  -- marks
  pub reads_long : (w rest : List ℕ) (ws : List Word) → length w ≡ 2 → is_among long_marks w ≡ true → Reads rest ws → Reads (w ++ rest) (mark w ∷ ws)
  unfolding fault_of
  reads_long w rest ws l h r = reads_token kind.Mark 2 w rest ws l (laws.long_mark w rest h) (λ line. refl) r

  pub reads_short : (m : ℕ) (rest : List ℕ) (ws : List Word) → list_any (λ k. eqb k m) short_marks ≡ true → is_among long_marks (take 2 (m ∷ rest)) ≡ false
      → opens_line (m ∷ rest) ≡ false → opens_block (m ∷ rest) ≡ false → Reads rest ws → Reads (m ∷ rest) (mark (m ∷ []) ∷ ws)
  unfolding fault_of
  reads_short m rest ws h a b c r = reads_token kind.Mark 1 (m ∷ []) rest ws refl (laws.short_mark m rest h a b c) (λ line. refl) r
