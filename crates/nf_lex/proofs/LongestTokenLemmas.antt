-- The longest token at the front of bytes, class by class.
use Rattle.std.proofs.Common.{◌≡◌, ℕ, ◌+◌, ◌-◌, ◌<◌, ◌≤◌, Bool, true, false, cond, eqb, List, [], ◌∷◌, length, take, drop, get_or, refl, sym, ap, ◌∙◌, ⊎_elim, subst, arith, Some, None}
use Rattle.std.specs.Char.{is_ascii_digit}
use Rattle.std.specs.List.{list_all, list_any, prefix_len, position_or_len}
use Rattle.std.proofs.lemmas.List.{get_or-take, length-take-le, drop-take, length-drop}
use Rattle.std.proofs.lemmas.List.Sums.{prefix_len-le-length}
use Rattle.std.proofs.lemmas.Bool.{cases_lt, both_ways, or_left, or_right, and_from, false_from_ne_true}
use borrow.Author.Tests.{eq-eqb, ne_eqb}
use Rattle.nf_lex.specs.declared.token.TokenKind.{TokenKind}
use Rattle.nf_lex.specs.declared.token.TokenKind.TheVariants.{Number, Text, Mark}
use Rattle.nf_core.specs.Identifiers.{is_letter, is_digit, has_name_form}
use Rattle.nf_lex.specs.Bytes.{is_inner, is_quote}
use Rattle.nf_lex.specs.Words.{kind_of, name_kind, is_among, is_mark, long_marks, short_marks, IsLongest, HasNone}
use Rattle.nf_lex.proofs.RunLemmas.{run_all, run_past, run_some, first_in, first_past}
use Rattle.nf_lex.proofs.FirstByteLemmas.{kind_name, kind_number, kind_text, kind_mark, mark_kinds, is_other, other_parts, long_other, short_other}
use Rattle.nf_lemmas.proofs.ListLemmas.{has_first}
use Rattle.nf_lemmas.proofs.BoolLemmas.{choose_first, choose_second}

-- no token is empty
pub no_empty : kind_of [] ≡ None
unfolding kind_of has_name_form
no_empty = refl

pub empty_front : (bytes : List ℕ) (m : ℕ) → m ≤ 0 → kind_of (take m bytes) ≡ None
empty_front bytes m z = let e : 0 ≡ m = omega arith in subst (λ k. kind_of (take k bytes) ≡ None) e no_empty

-- a front that isn't empty begins as the whole
pub same_first : (P : ℕ → Type 0) (bytes : List ℕ) (m : ℕ) → 0 < m → P (get_or bytes 0 0) → P (get_or (take m bytes) 0 0)
same_first P bytes m h p = subst P (sym (get_or-take m bytes 0 0 h)) p

-- a class of words that are runs: the longest is the whole run
module _ (starts inner : ℕ → Bool) (kind : List ℕ → TokenKind) (outside : starts 0 ≡ false) (within : (b : ℕ) → starts b ≡ true → inner b ≡ true)
    (each : (w : List ℕ) → starts (get_or w 0 0) ≡ true → kind_of w ≡ cond (list_all inner w) (Some (kind w)) None) where
  pub run_longest : (bytes : List ℕ) → starts (get_or bytes 0 0) ≡ true → IsLongest kind_of bytes (kind (take (prefix_len inner bytes) bytes)) (prefix_len inner bytes)
  run_longest bytes h =
      let some = run_some inner bytes (within (get_or bytes 0 0) h) (has_first starts bytes outside h) in
      record {
        within = prefix_len-le-length inner bytes;
        front = each (take (prefix_len inner bytes) bytes) (same_first (λ b. starts b ≡ true) bytes (prefix_len inner bytes) some h)
            ∙ choose_first (list_all inner (take (prefix_len inner bytes) bytes)) _ _ (run_all inner bytes);
        longest = λ m l k. each (take m bytes) (same_first (λ b. starts b ≡ true) bytes m (omega arith) h)
            ∙ choose_second (list_all inner (take m bytes)) _ _ (run_past inner bytes m l k);
      }

pub name_longest : (bytes : List ℕ) → is_letter (get_or bytes 0 0) ≡ true → IsLongest kind_of bytes (name_kind (take (prefix_len is_inner bytes) bytes)) (prefix_len is_inner bytes)
name_longest = run_longest is_letter is_inner name_kind refl (λ b h. or_left (is_letter b) (is_digit b) h) kind_name

pub number_longest : (bytes : List ℕ) → is_ascii_digit (get_or bytes 0 0) ≡ true → IsLongest kind_of bytes Number (prefix_len is_ascii_digit bytes)
number_longest = run_longest is_ascii_digit is_ascii_digit (λ _. Number) refl (λ b h. h) kind_number

-- texts: what stands after the opening `"`
module _ (bytes : List ℕ) (h : is_quote (get_or bytes 0 0) ≡ true) where
  body : List ℕ
  body = drop 1 bytes

  kind_front : (m : ℕ) → 0 < m → m ≤ length bytes → kind_of (take m bytes) ≡ cond (eqb (position_or_len is_quote (take (m - 1) body) + 2) m) (Some Text) None
  unfolding body
  kind_front m p l =
      let e : 1 + (m - 1) ≡ m = omega arith in
      let d = drop-take 1 (m - 1) bytes in
      kind_text (take m bytes) (same_first (λ b. is_quote b ≡ true) bytes m p h)
      ∙ ap (λ n. cond (eqb (position_or_len is_quote (drop 1 (take m bytes)) + 2) n) (Some Text) None) (length-take-le m bytes l)
      ∙ ap (λ b. cond (eqb (position_or_len is_quote b + 2) m) (Some Text) None) (subst (λ k. drop 1 (take k bytes) ≡ take (m - 1) (drop 1 bytes)) e d)

  length_body : length body + 1 ≡ length bytes
  unfolding body
  length_body = omega (arith, length-drop 1 bytes, has_first is_quote bytes refl h)

  pub text_longest : position_or_len is_quote (drop 1 bytes) < length (drop 1 bytes) → IsLongest kind_of bytes Text (position_or_len is_quote (drop 1 bytes) + 2)
  unfolding body
  text_longest c =
      let n = position_or_len is_quote (drop 1 bytes) in
      let long = length_body in
      record {
        within = omega arith;
        front = kind_front (n + 2) (omega arith) (omega arith)
            ∙ choose_first (eqb (position_or_len is_quote (take (n + 2 - 1) (drop 1 bytes)) + 2) (n + 2)) _ _
            (eq-eqb (position_or_len is_quote (take (n + 2 - 1) (drop 1 bytes)) + 2) (n + 2) (ap (λ k. k + 2) (first_in is_quote (drop 1 bytes) (n + 2 - 1) (omega arith) (omega arith))));
        longest = λ m l k. kind_front m (omega arith) k
            ∙ choose_second (eqb (position_or_len is_quote (take (m - 1) (drop 1 bytes)) + 2) m) _ _
            (ne_eqb (position_or_len is_quote (take (m - 1) (drop 1 bytes)) + 2) m (λ e. omega (arith, first_in is_quote (drop 1 bytes) (m - 1) (omega arith) (omega arith))));
      }

  pub text_none : length (drop 1 bytes) ≤ position_or_len is_quote (drop 1 bytes) → HasNone kind_of bytes
  unfolding body
  text_none c =
      let long = length_body in
      record {
        none = λ m l. ⊎_elim
            (λ p. kind_front m p l
            ∙ choose_second (eqb (position_or_len is_quote (take (m - 1) (drop 1 bytes)) + 2) m) _ _
            (ne_eqb (position_or_len is_quote (take (m - 1) (drop 1 bytes)) + 2) m (λ e. omega (arith, first_past is_quote (drop 1 bytes) (m - 1) (omega arith) (omega arith)))))
            (λ z. empty_front bytes m z) (cases_lt 0 m);
      }

-- the same by the list behind the opening `"`
pub text_after : (bytes rest : List ℕ) (b n : ℕ) → bytes ≡ b ∷ rest → is_quote (get_or bytes 0 0) ≡ true → n ≡ position_or_len is_quote rest → n < length rest → IsLongest kind_of bytes Text (n + 2)
text_after bytes rest b n e h k l =
    subst (λ m. IsLongest kind_of bytes Text (m + 2)) (sym k)
    (subst (λ xs. IsLongest kind_of xs Text (position_or_len is_quote rest + 2)) (sym e)
    (text_longest (b ∷ rest) (subst (λ xs. is_quote (get_or xs 0 0) ≡ true) e h) (omega arith)))

-- marks
kind_other : (w : List ℕ) → is_other (get_or w 0 0) ≡ true → kind_of w ≡ cond (is_mark w) (Some Mark) None
kind_other w h = let p = other_parts (get_or w 0 0) h in kind_mark w p.0 p.1 p.2

-- a front of two bytes or more is a mark only as one of the long ones
no_long : (bytes : List ℕ) (m : ℕ) → 1 < m → m ≤ length bytes → (m ≡ 2 → is_among long_marks (take m bytes) ≡ false) → is_mark (take m bytes) ≡ false
no_long bytes m p l h = false_from_ne_true (is_mark (take m bytes)) (λ e. ⊎_elim
    (λ k. both_ways (is_among long_marks (take m bytes)) (h (omega (arith, k.0, length-take-le m bytes l))) k.1)
    (λ k. omega (arith, k.0, length-take-le m bytes l))
    (mark_kinds (take m bytes) e))

-- where the first two bytes are no mark
two_apart : (bytes : List ℕ) (m : ℕ) → m ≤ length bytes → (2 ≤ length bytes → is_among long_marks (take 2 bytes) ≡ false) → m ≡ 2 → is_among long_marks (take m bytes) ≡ false
two_apart bytes m l h e = subst (λ k. is_among long_marks (take k bytes) ≡ false) (sym e) (h (omega arith))

pub mark_two : (bytes : List ℕ) → 2 ≤ length bytes → is_among long_marks (take 2 bytes) ≡ true → IsLongest kind_of bytes Mark 2
mark_two bytes l h =
    let other = long_other (take 2 bytes) h in
    let first = subst (λ b. is_other b ≡ true) (get_or-take 2 bytes 0 0 (omega arith)) other in
    record {
      within = l;
      front = kind_other (take 2 bytes) other ∙ choose_first (is_mark (take 2 bytes)) _ _ (or_left (is_among long_marks (take 2 bytes)) _ h);
      longest = λ m p k. kind_other (take m bytes) (same_first (λ b. is_other b ≡ true) bytes m (omega arith) first)
          ∙ choose_second (is_mark (take m bytes)) _ _ (no_long bytes m (omega arith) k (λ e. absurd (omega arith)));
    }

pub mark_one : (bytes : List ℕ) → 0 < length bytes → (2 ≤ length bytes → is_among long_marks (take 2 bytes) ≡ false) → list_any (λ mark. eqb mark (get_or bytes 0 0)) short_marks ≡ true
    → IsLongest kind_of bytes Mark 1
mark_one bytes l h s =
    let other = short_other (get_or bytes 0 0) s in
    record {
      within = omega arith;
      front = kind_other (take 1 bytes) (same_first (λ b. is_other b ≡ true) bytes 1 (omega arith) other)
          ∙ choose_first (is_mark (take 1 bytes)) _ _ (or_right (is_among long_marks (take 1 bytes)) _ (and_from (eqb (length (take 1 bytes)) 1) _
          (eq-eqb (length (take 1 bytes)) 1 (length-take-le 1 bytes (omega arith)))
          (same_first (λ b. list_any (λ mark. eqb mark b) short_marks ≡ true) bytes 1 (omega arith) s)));
      longest = λ m p k. kind_other (take m bytes) (same_first (λ b. is_other b ≡ true) bytes m (omega arith) other)
          ∙ choose_second (is_mark (take m bytes)) _ _ (no_long bytes m (omega arith) k (two_apart bytes m k h));
    }

pub mark_none : (bytes : List ℕ) → (2 ≤ length bytes → is_among long_marks (take 2 bytes) ≡ false) → list_any (λ mark. eqb mark (get_or bytes 0 0)) short_marks ≡ false
    → is_letter (get_or bytes 0 0) ≡ false → is_ascii_digit (get_or bytes 0 0) ≡ false → is_quote (get_or bytes 0 0) ≡ false → HasNone kind_of bytes
mark_none bytes h s i d q = record {
  none = λ m l. ⊎_elim
      (λ p. kind_mark (take m bytes)
      (same_first (λ b. is_letter b ≡ false) bytes m p i) (same_first (λ b. is_ascii_digit b ≡ false) bytes m p d) (same_first (λ b. is_quote b ≡ false) bytes m p q)
      ∙ choose_second (is_mark (take m bytes)) _ _ (false_from_ne_true (is_mark (take m bytes)) (λ e. ⊎_elim
      (λ k. both_ways (is_among long_marks (take m bytes)) (two_apart bytes m l h (omega (arith, k.0, length-take-le m bytes l))) k.1)
      (λ k. both_ways (list_any (λ mark. eqb mark (get_or (take m bytes) 0 0)) short_marks)
      (same_first (λ b. list_any (λ mark. eqb mark b) short_marks ≡ false) bytes m p s) k.1)
      (mark_kinds (take m bytes) e))))
      (λ z. empty_front bytes m z) (cases_lt 0 m);
}
