-- The longest word at a place: a token, a separator or a comment.
use Rattle.std.proofs.Common.{◌≡◌, ℕ, zero, suc, ◌+◌, ◌-◌, ◌<◌, ◌≤◌, Bool, true, false, ◌||◌, cond, eqb, List, [], ◌∷◌, ◌++◌, length, take, drop, get_or, refl, sym, ap, ◌∙◌, ⊎_elim, subst, arith, Some, None, option_map, codes, nat_eq}
use Rattle.std.specs.List.{list_all, prefix_len, starts_with}
use Rattle.std.proofs.lemmas.List.{length-take-le}
use Rattle.std.proofs.lemmas.List.Sums.{prefix_len-le-length}
use Rattle.std.proofs.lemmas.Bool.{cases_lt, or_cases, or_left, and_from, and_left, and_right}
use Rattle.std.proofs.lemmas.Bool.Decides.{Decides-eqb, nat_tests}
use Rattle.std.proofs.lemmas.Slice.Eq.{starts_is}
use borrow.Author.Tests.{eq-eqb, ne_eqb}
use Rattle.nf_lex.specs.declared.token.TokenKind.{TokenKind}
use Rattle.nf_core.specs.Identifiers.{is_letter}
use Rattle.nf_lex.specs.Bytes.{is_blank, is_quote, is_in_line}
use Rattle.std.specs.Char.{is_ascii_digit}
use Rattle.nf_lex.specs.Words.{Gap, Token, kind_of, form_at, is_separator, is_comment, opens_line, opens_block, before_close, is_mark, IsLongest, HasNone, IsWord, HasNoWord}
use Rattle.nf_lex.proofs.RunLemmas.{run_all, run_past}
use Rattle.nf_lex.proofs.FirstByteLemmas.{is_other, kind_mark, no_mark}
use Rattle.nf_lex.proofs.LongestTokenLemmas.{same_first}
use Rattle.nf_lemmas.proofs.BoolLemmas.{choose_first, choose_second}
use Rattle.nf_lex.proofs.CommentLemmas.{close_in, close_past, close_fits}

-- where no comment opens, a word is a separator or a token
form_plain : (bytes w : List ℕ) → opens_line bytes ≡ false → opens_block bytes ≡ false → form_at bytes w ≡ cond (is_separator w) (Some Gap) (option_map Token (kind_of w))
unfolding form_at
form_plain bytes w l b = rw (l, b)

-- where one opens, it is a comment
form_open : (bytes w : List ℕ) → (opens_line bytes || opens_block bytes) ≡ true → form_at bytes w ≡ cond (is_comment w) (Some Gap) None
unfolding form_at
form_open bytes w h = rw h

-- a front of bytes that begin with no blank is no separator
blank_front : (bytes : List ℕ) (m : ℕ) → is_blank (get_or bytes 0 0) ≡ false → is_separator (take m bytes) ≡ false
blank_front bytes m h = ⊎_elim
    (λ p. and_right (eqb (length (take m bytes)) 1) (is_blank (get_or (take m bytes) 0 0)) (same_first (λ b. is_blank b ≡ false) bytes m p h))
    (λ z. let e : 0 ≡ m = omega arith in subst (λ k. is_separator (take k bytes) ≡ false) e refl)
    (cases_lt 0 m)

module _ (bytes : List ℕ) (l : opens_line bytes ≡ false) (b : opens_block bytes ≡ false) where
  front_token : (m : ℕ) → is_blank (get_or bytes 0 0) ≡ false → form_at bytes (take m bytes) ≡ option_map Token (kind_of (take m bytes))
  front_token m h = form_plain bytes (take m bytes) l b ∙ choose_second (is_separator (take m bytes)) _ _ (blank_front bytes m h)

  pub token_word : (kind : TokenKind) (n : ℕ) → is_blank (get_or bytes 0 0) ≡ false → IsLongest kind_of bytes kind n → IsWord bytes (Token kind) n
  token_word kind n h found = record {
    within = found.within;
    front = front_token n h ∙ ap (option_map Token) found.front;
    longest = λ m p k. front_token m h ∙ ap (option_map Token) (found.longest m p k);
  }

  pub token_none : is_blank (get_or bytes 0 0) ≡ false → HasNone kind_of bytes → HasNoWord bytes
  token_none h found = record { none = λ m k. front_token m h ∙ ap (option_map Token) (found.none m k) }

  pub blank_word : 0 < length bytes → is_blank (get_or bytes 0 0) ≡ true → IsWord bytes Gap 1
  blank_word s h = record {
    within = omega arith;
    front = form_plain bytes (take 1 bytes) l b ∙ choose_first (is_separator (take 1 bytes)) _ _ (and_from (eqb (length (take 1 bytes)) 1) _
        (eq-eqb (length (take 1 bytes)) 1 (length-take-le 1 bytes (omega arith)))
        (same_first (λ c. is_blank c ≡ true) bytes 1 (omega arith) h));
    longest = λ m p k. form_plain bytes (take m bytes) l b
        ∙ choose_second (is_separator (take m bytes)) _ _ (and_left (eqb (length (take m bytes)) 1) _ (ne_eqb (length (take m bytes)) 1 (λ e. omega (arith, length-take-le m bytes k))))
        ∙ ap (option_map Token) (blank_kind (take m bytes) (same_first (λ c. is_blank c ≡ true) bytes m (omega arith) h));
  }
    where
      blank_apart : (c : ℕ) → is_blank c ≡ true → (is_letter c ≡ false) × (is_ascii_digit c ≡ false) × (is_quote c ≡ false)
      blank_apart c h = (grind (arith, nat_tests), grind (arith, nat_tests), grind (arith, nat_tests))

      blank_other : (c : ℕ) → is_blank c ≡ true → is_other c ≡ false
      blank_other c h = let p = blank_apart c h in rw (p.0, p.1, p.2, h)

      blank_kind : (w : List ℕ) → is_blank (get_or w 0 0) ≡ true → kind_of w ≡ None
      blank_kind w h = let p = blank_apart (get_or w 0 0) h in
          kind_mark w p.0 p.1 p.2 ∙ choose_second (is_mark w) _ _ (no_mark w (blank_other (get_or w 0 0) h))

-- what a list begins with
pub begins : (bytes p : List ℕ) → starts_with nat_eq bytes p ≡ true → bytes ≡ p ++ drop (length p) bytes
begins bytes p h = (starts_is Decides-eqb bytes p (starts_with nat_eq bytes p) refl).0 h

or_none : (b : Bool) → (b || false) ≡ b
or_none true = refl
or_none false = refl

-- line comments, by their two bytes
module _ (a b : ℕ) (line : (w : List ℕ) → opens_line (a ∷ b ∷ w) ≡ true) (block : (w : List ℕ) → opens_block (a ∷ b ∷ w) ≡ false) (first : is_in_line a ≡ true) (second : is_in_line b ≡ true) where
  line_front : (rest : List ℕ) (m : ℕ) → 2 ≤ m → form_at (a ∷ b ∷ rest) (take m (a ∷ b ∷ rest)) ≡ cond (list_all is_in_line (take m (a ∷ b ∷ rest))) (Some Gap) None
  line_front rest m h =
      let e : suc (suc (m - 2)) ≡ m = omega arith in
      subst (λ k. form_at (a ∷ b ∷ rest) (take k (a ∷ b ∷ rest)) ≡ cond (list_all is_in_line (take k (a ∷ b ∷ rest))) (Some Gap) None) e
      (form_open (a ∷ b ∷ rest) (a ∷ b ∷ take (m - 2) rest) (or_left (opens_line (a ∷ b ∷ rest)) _ (line rest)) ∙ ap (λ c. cond c (Some Gap) None) (comment (take (m - 2) rest)))
    where
      comment : (w : List ℕ) → is_comment (a ∷ b ∷ w) ≡ list_all is_in_line (a ∷ b ∷ w)
      comment w = rw (line w, block w) (or_none (list_all is_in_line (a ∷ b ∷ w)))

  line_long : (rest : List ℕ) → 2 ≤ prefix_len is_in_line (a ∷ b ∷ rest)
  line_long rest = rw (first, second) (omega arith)

  line_word : (rest : List ℕ) → IsWord (a ∷ b ∷ rest) Gap (prefix_len is_in_line (a ∷ b ∷ rest))
  line_word rest =
      let n = prefix_len is_in_line (a ∷ b ∷ rest) in
      let long = line_long rest in
      record {
        within = prefix_len-le-length is_in_line (a ∷ b ∷ rest);
        front = line_front rest n long ∙ choose_first (list_all is_in_line (take n (a ∷ b ∷ rest))) _ _ (run_all is_in_line (a ∷ b ∷ rest));
        longest = λ m p k. line_front rest m (omega arith) ∙ choose_second (list_all is_in_line (take m (a ∷ b ∷ rest))) _ _ (run_past is_in_line (a ∷ b ∷ rest) m p k);
      }

pub line_comment : (bytes : List ℕ) → opens_line bytes ≡ true → IsWord bytes Gap (prefix_len is_in_line bytes)
line_comment bytes h = ⊎_elim
    (λ s. subst (λ xs. IsWord xs Gap (prefix_len is_in_line xs)) (sym (begins bytes (codes "//") s)) (line_word 47 47 (λ w. refl) (λ w. refl) refl refl (drop 2 bytes)))
    (λ s. subst (λ xs. IsWord xs Gap (prefix_len is_in_line xs)) (sym (begins bytes (codes "--") s)) (line_word 45 45 (λ w. refl) (λ w. refl) refl refl (drop 2 bytes)))
    (or_cases (starts_with nat_eq bytes (codes "//")) (starts_with nat_eq bytes (codes "--")) h)

-- block comments
module _ (rest : List ℕ) where
  opened : List ℕ
  opened = 47 ∷ 42 ∷ rest

  block_front : (m : ℕ) → 2 ≤ m → m ≤ length rest + 2 → form_at opened (take m opened) ≡ cond (eqb (before_close (take (m - 2) rest) + 4) m) (Some Gap) None
  unfolding opened
  block_front m h l =
      let e : suc (suc (m - 2)) ≡ m = omega arith in
      subst (λ k. form_at (47 ∷ 42 ∷ rest) (take k (47 ∷ 42 ∷ rest)) ≡ cond (eqb (before_close (take (m - 2) rest) + 4) m) (Some Gap) None) e
      (form_open (47 ∷ 42 ∷ rest) (47 ∷ 42 ∷ take (m - 2) rest) refl
      ∙ ap (λ k. cond (eqb (before_close (take (m - 2) rest) + 4) (suc (suc k))) (Some Gap) None) (length-take-le (m - 2) rest (omega arith))
      ∙ ap (λ k. cond (eqb (before_close (take (m - 2) rest) + 4) k) (Some Gap) None) e)

  block_found : before_close rest < length rest → IsWord opened Gap (before_close rest + 4)
  unfolding opened
  block_found h =
      let n = before_close rest in
      let fits = close_fits rest h in
      record {
        within = omega arith;
        front = block_front (n + 4) (omega arith) (omega arith)
            ∙ choose_first (eqb (before_close (take (n + 4 - 2) rest) + 4) (n + 4)) _ _
            (eq-eqb (before_close (take (n + 4 - 2) rest) + 4) (n + 4) (ap (λ k. k + 4) (close_in rest (n + 4 - 2) (omega arith) (omega arith))));
        longest = λ m p k. block_front m (omega arith) (omega arith)
            ∙ choose_second (eqb (before_close (take (m - 2) rest) + 4) m) _ _
            (ne_eqb (before_close (take (m - 2) rest) + 4) m (λ e. omega (arith, close_in rest (m - 2) (omega arith) (omega arith))));
      }

  block_lost : length rest ≤ before_close rest → HasNoWord opened
  unfolding opened
  block_lost h = record { none = λ m k. fronts m (omega arith) }
    where
      fronts : (m : ℕ) → m ≤ length rest + 2 → form_at (47 ∷ 42 ∷ rest) (take m (47 ∷ 42 ∷ rest)) ≡ None
      fronts zero l = form_open (47 ∷ 42 ∷ rest) [] refl
      fronts (suc zero) l = form_open (47 ∷ 42 ∷ rest) (47 ∷ []) refl
      fronts (suc (suc k)) l = block_front (suc (suc k)) (omega arith) l
          ∙ choose_second (eqb (before_close (take (suc (suc k) - 2) rest) + 4) (suc (suc k))) _ _
          (ne_eqb (before_close (take (suc (suc k) - 2) rest) + 4) (suc (suc k)) (λ e. omega (arith, close_past rest (suc (suc k) - 2) (omega arith) (omega arith))))

pub block_long : (bytes : List ℕ) → opens_block bytes ≡ true → 2 ≤ length bytes
block_long bytes h = omega (arith, ap length (begins bytes (codes "/*") h))

pub block_word : (bytes : List ℕ) → opens_block bytes ≡ true → before_close (drop 2 bytes) < length (drop 2 bytes) → IsWord bytes Gap (before_close (drop 2 bytes) + 4)
unfolding opened
block_word bytes h l = subst (λ xs. IsWord xs Gap (before_close (drop 2 bytes) + 4)) (sym (begins bytes (codes "/*") h)) (block_found (drop 2 bytes) l)

pub block_none : (bytes : List ℕ) → opens_block bytes ≡ true → length (drop 2 bytes) ≤ before_close (drop 2 bytes) → HasNoWord bytes
unfolding opened
block_none bytes h l = subst HasNoWord (sym (begins bytes (codes "/*") h)) (block_lost (drop 2 bytes) l)
