-- What the kind of a token says of its bytes.
use Rattle.std.proofs.Common.{◌≡◌, ℕ, ◌+◌, ◌-◌, ◌<◌, ◌≤◌, Bool, true, false, not, ◌&&◌, cond, ltb, nat_eq, List, [], ◌∷◌, ◌++◌, length, take, drop, get_or, refl, sym, ap, ◌∙◌, subst, arith, codes, bytes_eq, Option, Some, None, append_assoc, length-append}
use Rattle.std.specs.List.{prefix_len, list_all, starts_with}
use Rattle.std.specs.Map.{lookup}
use Rattle.std.specs.Char.{is_ascii_digit}
use Rattle.std.proofs.lemmas.List.{length-take-le, take-append-drop, take_at}
use Rattle.std.proofs.lemmas.List.Sums.{prefix_len-le-length}
use Rattle.std.proofs.lemmas.Bool.{eqb-true}
use denote.Enum.Bare.{sameb}
use Rattle.nf_lemmas.proofs.BoolLemmas.{both}
use Rattle.nf_lex.specs.Bytes.{is_blank, is_inner}
use Rattle.nf_lex.specs.Words.{before_close}
use Rattle.nf_cast.specs.Names.{is_c_identifier}
use Rattle.nf_cparse.specs.contracts.symbol.Sym.{the_type}
use Rattle.nf_cparse.specs.declared.symbol.Sym.{Sym}
use Rattle.nf_cparse.specs.declared.symbol.Sym.TheVariants as kind
use Rattle.nf_cparse.specs.declared.piece.Piece.{Piece}
use Rattle.nf_cparse.specs.declared.piece.Piece.TheVariants.{Gap, Token, Fault}
use Rattle.nf_cparse.specs.Symbols.{c_marks, c_words, word_symbol}
use Rattle.nf_cparse.specs.Pieces.{may_stand, token_or_fault, comment_piece, line_piece, block_piece, past_blanks, digits_at, past_digits, are_literal_digits, begins_with, literal_open, literal_inside, literal_close, literal_piece, run_piece, mark_in, piece_of}
use Rattle.nf_cparse.proofs.RunLemmas.{run_passes}
use Rattle.nf_cparse.proofs.PieceLemmas.{literal_long}

-- a choice that is a piece is one of two
chosen : {C : Type 0} (b : Bool) (x y t : Piece) → cond b x y ≡ t → (b ≡ true → x ≡ t → C) → (b ≡ false → y ≡ t → C) → C
chosen true x y t e f g = f refl e
chosen false x y t e f g = g refl e

no_gap : {C : Type 0} (n : ℕ) (k : Sym) (m : ℕ) → Gap n ≡ Token k m → C
no_gap n k m e = absurd (cc)

no_fault : {C : Type 0} (n : ℕ) (k : Sym) (m : ℕ) → Fault n ≡ Token k m → C
no_fault n k m e = absurd (cc)

token_is : (j k : Sym) (n m : ℕ) → Token j n ≡ Token k m → (j ≡ k) × (n ≡ m)
token_is j k n m e = (cc, cc)

-- no comment is a token
comment_none : {C : Type 0} (n : ℕ) (bytes : List ℕ) (k : Sym) (m : ℕ) → comment_piece n bytes ≡ Token k m → C
unfolding comment_piece
comment_none n bytes k m e = chosen (ltb (prefix_len may_stand (take n bytes)) n) (Fault (prefix_len may_stand (take n bytes))) (Gap n) (Token k m) e
    (λ b f. no_fault _ k m f) (λ b f. no_gap n k m f)

block_none : {C : Type 0} (bytes : List ℕ) (k : Sym) (m : ℕ) → block_piece bytes ≡ Token k m → C
unfolding block_piece
block_none bytes k m e = chosen (ltb (before_close (drop 2 bytes)) (length (drop 2 bytes))) (comment_piece (before_close (drop 2 bytes) + 4) bytes) (Fault 0) (Token k m) e
    (λ b f. comment_none _ bytes k m f) (λ b f. no_fault 0 k m f)

-- what a table has
table_is : (s : Option Sym) (n : ℕ) (k : Sym) (m : ℕ) → token_or_fault s n ≡ Token k m → (s ≡ Some k) × (n ≡ m)
table_is (Some s) n k m e = let p = token_is s k n m e in (ap Some p.0, p.1)
table_is None n k m e = no_fault 0 k m e

-- neither an identifier nor a literal
abbrev is_fixed : Option Sym → Bool
is_fixed None = true
is_fixed (Some s) = not (sameb the_type s kind.Ident) && not (sameb the_type s kind.Lit)

-- a token of a kind has this form
pub record IsForm (k : Sym) (bytes : List ℕ) (n : ℕ) : Type 0 where
  pub name : k ≡ kind.Ident → is_c_identifier (take n bytes) ≡ true
  pub long : k ≡ kind.Lit → 7 ≤ length bytes
  pub literal : k ≡ kind.Lit → literal_piece bytes ≡ Token kind.Lit n

fixed_form : (k : Sym) (bytes : List ℕ) (n : ℕ) → is_fixed (Some k) ≡ true → IsForm k bytes n
fixed_form k bytes n h = record {
  name = λ e. let bad = subst (λ s. is_fixed (Some s) ≡ true) e h in absurd (cc);
  long = λ e. let bad = subst (λ s. is_fixed (Some s) ≡ true) e h in absurd (cc);
  literal = λ e. let bad = subst (λ s. is_fixed (Some s) ≡ true) e h in absurd (cc);
}

mark_fixed : (marks : List (List ℕ × Option Sym)) → list_all (λ mark. is_fixed mark.1) marks ≡ true → (bytes : List ℕ) (k : Sym) (m : ℕ)
    → mark_in marks bytes ≡ Token k m → is_fixed (Some k) ≡ true
mark_fixed [] h bytes k m e = no_fault 0 k m e
mark_fixed (mark ∷ marks) h bytes k m e =
    let p = both (is_fixed mark.1) (list_all (λ mark. is_fixed mark.1) marks) h in
    chosen (starts_with nat_eq bytes mark.0) (token_or_fault mark.1 (length mark.0)) (mark_in marks bytes) (Token k m) e
    (λ b f. subst (λ s. is_fixed s ≡ true) (table_is mark.1 (length mark.0) k m f).0 p.0)
    (λ b f. mark_fixed marks p.1 bytes k m f)

marks_fixed : list_all (λ mark. is_fixed mark.1) c_marks ≡ true
unfolding c_marks
marks_fixed = refl

found : {A C : Type 0} (b : Bool) (x y t : A) → cond b x y ≡ t → (b ≡ true → x ≡ t → C) → (b ≡ false → y ≡ t → C) → C
found true x y t e f g = f refl e
found false x y t e f g = g refl e

word_fixed : (words : List (List ℕ × Sym)) → list_all (λ entry. is_fixed (Some entry.1)) words ≡ true → (run : List ℕ) (k : Sym)
    → lookup (bytes_eq run) words ≡ Some k → is_fixed (Some k) ≡ true
word_fixed [] h run k e = absurd (cc)
word_fixed (entry ∷ words) h run k e =
    let p = both (is_fixed (Some entry.1)) (list_all (λ entry. is_fixed (Some entry.1)) words) h in
    found (bytes_eq run entry.0) (Some entry.1) (lookup (bytes_eq run) words) (Some k) e
    (λ b f. subst (λ s. is_fixed s ≡ true) f p.0)
    (λ b f. word_fixed words p.1 run k f)

words_fixed : list_all (λ entry. is_fixed (Some entry.1)) c_words ≡ true
unfolding c_words
words_fixed = refl

word_form : (bytes run : List ℕ) (k : Sym) (n : ℕ) → run ≡ take n bytes → word_symbol run ≡ Some k → IsForm k bytes n
unfolding word_symbol
word_form bytes run k n r e =
    found (is_c_identifier run) (Some kind.Ident) (lookup (bytes_eq run) c_words) (Some k) e
    (λ b f. record {
      name = λ i. subst (λ xs. is_c_identifier xs ≡ true) r b;
      long = λ i. absurd (cc);
      literal = λ i. absurd (cc);
    })
    (λ b f. fixed_form k bytes n (word_fixed c_words words_fixed run k f))

literal_is : (bytes : List ℕ) (k : Sym) (n : ℕ) → literal_piece bytes ≡ Token k n → k ≡ kind.Lit
unfolding literal_piece
literal_is bytes k n e = chosen (begins_with 40 (literal_open bytes) && are_literal_digits (digits_at (literal_inside bytes)) && begins_with 41 (literal_close bytes))
    (Token kind.Lit (length bytes - length (drop 1 (literal_close bytes)))) (Fault 0) (Token k n) e
    (λ b f. sym (token_is kind.Lit k _ n f).0) (λ b f. no_fault 0 k n f)

literal_form : (bytes : List ℕ) (k : Sym) (n : ℕ) → 7 ≤ length bytes → literal_piece bytes ≡ Token k n → IsForm k bytes n
literal_form bytes k n l e =
    let i = literal_is bytes k n e in
    record {
      name = λ j. absurd (cc);
      long = λ j. l;
      literal = λ j. e ∙ ap (λ s. Token s n) i;
    }

run_form : (bytes : List ℕ) (k : Sym) (n : ℕ) → run_piece bytes ≡ Token k n → IsForm k bytes n
unfolding run_piece
run_form bytes k n e =
    let m = prefix_len is_inner bytes in
    let run = take m bytes in
    chosen (bytes_eq run (codes "INT64_C")) (literal_piece bytes) (token_or_fault (word_symbol run) (length run)) (Token k n) e
    (λ b f. literal_form bytes k n (literal_long bytes b) f)
    (λ b f.
    let t = table_is (word_symbol run) (length run) k n f in
    let is : m ≡ n = sym (length-take-le m bytes (prefix_len-le-length is_inner bytes)) ∙ t.1 in
    word_form bytes run k n (ap (λ j. take j bytes) is) t.0)

pub token_form : (bytes : List ℕ) (k : Sym) (n : ℕ) → piece_of bytes ≡ Token k n → IsForm k bytes n
unfolding piece_of
token_form bytes k n e =
    chosen (starts_with nat_eq bytes (codes "//")) (line_piece bytes) _ (Token k n) e (λ b f. comment_none _ bytes k n f) (λ b f.
    chosen (starts_with nat_eq bytes (codes "/*")) (block_piece bytes) _ (Token k n) f (λ c g. block_none bytes k n g) (λ c g.
    chosen (is_blank (get_or bytes 0 0)) (Gap 1) _ (Token k n) g (λ d h. no_gap 1 k n h) (λ d h.
    chosen (is_inner (get_or bytes 0 0)) (run_piece bytes) (mark_in c_marks bytes) (Token k n) h
    (λ i j. run_form bytes k n j)
    (λ i j. fixed_form k bytes n (mark_fixed c_marks marks_fixed bytes k n j)))))

-- the parts of a literal
abbrev blanks_at : List ℕ → List ℕ
blanks_at bytes = take (prefix_len is_blank bytes) bytes

blanks_front : (bytes : List ℕ) → bytes ≡ blanks_at bytes ++ past_blanks bytes
unfolding past_blanks
blanks_front bytes = sym (take-append-drop (prefix_len is_blank bytes) bytes)

digits_split : (bytes : List ℕ) → bytes ≡ digits_at bytes ++ past_digits bytes
unfolding digits_at past_digits
digits_split bytes = sym (take-append-drop (prefix_len is_ascii_digit bytes) bytes)

digits_pass : (bytes : List ℕ) → list_all is_ascii_digit (digits_at bytes) ≡ true
unfolding digits_at
digits_pass bytes = run_passes is_ascii_digit bytes

first_byte : (x : ℕ) (xs : List ℕ) → 0 < x → begins_with x xs ≡ true → xs ≡ x ∷ drop 1 xs
first_byte x [] some h = absurd (omega (arith, eqb-true 0 x h))
first_byte x (y ∷ xs) some h = ap (λ z. z ∷ xs) (eqb-true y x h)

-- what stands behind the `INT64_C` of a literal
abbrev pub from_word : List ℕ → List ℕ → List ℕ → List ℕ → List ℕ → List ℕ
from_word first second digits third rest = first ++ 40 ∷ (second ++ (digits ++ (third ++ 41 ∷ rest)))

pub record IsLiteral (text : List ℕ) : Type 0 where
  pub head : List ℕ
  pub first : List ℕ
  pub second : List ℕ
  pub digits : List ℕ
  pub third : List ℕ
  pub is : text ≡ head ++ from_word first second digits third []
  pub head_len : length head ≡ 7
  pub first_blank : list_all is_blank first ≡ true
  pub second_blank : list_all is_blank second ≡ true
  pub third_blank : list_all is_blank third ≡ true
  pub all : list_all is_ascii_digit digits ≡ true
  pub sound : are_literal_digits digits ≡ true

ends_apart : (first second digits third rest : List ℕ) → from_word first second digits third rest ≡ from_word first second digits third [] ++ rest
ends_apart first second digits third rest = simp append_assoc refl

module _ (bytes : List ℕ) where
  abbrev opened : List ℕ
  opened = literal_open bytes

  abbrev inside : List ℕ
  inside = literal_inside bytes

  abbrev closed : List ℕ
  closed = literal_close bytes

  open_is : drop 7 bytes ≡ blanks_at (drop 7 bytes) ++ opened
  unfolding literal_open
  open_is = blanks_front (drop 7 bytes)

  inside_is : drop 1 opened ≡ blanks_at (drop 1 opened) ++ inside
  unfolding literal_inside
  inside_is = blanks_front (drop 1 opened)

  close_is : past_digits inside ≡ blanks_at (past_digits inside) ++ closed
  unfolding literal_close
  close_is = blanks_front (past_digits inside)

  behind_word : begins_with 40 opened ≡ true → begins_with 41 closed ≡ true
      → drop 7 bytes ≡ from_word (blanks_at (drop 7 bytes)) (blanks_at (drop 1 opened)) (digits_at inside) (blanks_at (past_digits inside)) (drop 1 closed)
  behind_word o c =
      let c' = ap (λ xs. blanks_at (past_digits inside) ++ xs) (first_byte 41 closed (omega arith) c) in
      let d = digits_split inside ∙ ap (λ xs. digits_at inside ++ xs) (close_is ∙ c') in
      let i = inside_is ∙ ap (λ xs. blanks_at (drop 1 opened) ++ xs) d in
      let p = first_byte 40 opened (omega arith) o ∙ ap (λ xs. 40 ∷ xs) i in
      open_is ∙ ap (λ xs. blanks_at (drop 7 bytes) ++ xs) p

  parts : (text : List ℕ) (n : ℕ) → 7 ≤ length bytes → text ≡ take n bytes → begins_with 40 opened ≡ true → begins_with 41 closed ≡ true
      → are_literal_digits (digits_at inside) ≡ true → n ≡ length bytes - length (drop 1 closed) → IsLiteral text
  parts text n l t o c sound len =
      let front = take 7 bytes ++ from_word (blanks_at (drop 7 bytes)) (blanks_at (drop 1 opened)) (digits_at inside) (blanks_at (past_digits inside)) [] in
      let whole : bytes ≡ front ++ drop 1 closed =
      sym (take-append-drop 7 bytes) ∙ ap (λ xs. take 7 bytes ++ xs) (behind_word o c ∙ ends_apart (blanks_at (drop 7 bytes)) (blanks_at (drop 1 opened)) (digits_at inside) (blanks_at (past_digits inside)) (drop 1 closed))
      ∙ sym (append_assoc (take 7 bytes) _ (drop 1 closed)) in
      record {
        head = take 7 bytes;
        first = blanks_at (drop 7 bytes);
        second = blanks_at (drop 1 opened);
        digits = digits_at inside;
        third = blanks_at (past_digits inside);
        is = t ∙ ap (take n) whole ∙ take_at front (drop 1 closed) n (omega (arith, len, ap length whole, length-append front (drop 1 closed)));
        head_len = length-take-le 7 bytes l;
        first_blank = run_passes is_blank (drop 7 bytes);
        second_blank = run_passes is_blank (drop 1 opened);
        third_blank = run_passes is_blank (past_digits inside);
        all = digits_pass inside;
        sound = sound;
      }

  pub literal_parts : (text : List ℕ) (n : ℕ) → 7 ≤ length bytes → text ≡ take n bytes → literal_piece bytes ≡ Token kind.Lit n → IsLiteral text
  unfolding literal_piece
  literal_parts text n l t e =
      let two = begins_with 40 opened && are_literal_digits (digits_at inside) in
      found (two && begins_with 41 closed) (Token kind.Lit (length bytes - length (drop 1 closed))) (Fault 0) (Token kind.Lit n) e
      (λ b f.
      let p = both two (begins_with 41 closed) b in
      let q = both (begins_with 40 opened) (are_literal_digits (digits_at inside)) p.0 in
      parts text n l t q.0 p.1 q.1 (sym (token_is kind.Lit kind.Lit _ n f).1))
      (λ b f. no_fault 0 kind.Lit n f)
