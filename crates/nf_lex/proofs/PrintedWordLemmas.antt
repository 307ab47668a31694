-- Words that are followed by what they don't go on with are read.
use Rattle.std.proofs.Common.{◌≡◌, ℕ, ◌+◌, ◌<◌, Bool, true, false, not, ◌&&◌, ◌||◌, eqb, List, [], ◌∷◌, ◌++◌, length, take, drop, get_or, refl, sym, ap, ◌∙◌, subst, arith, codes, nat_eq, length-append, bytes_eq}
use Rattle.std.specs.Char.{is_ascii_digit}
use Rattle.std.specs.Cmp.Lexicographic.{pointwise}
use Rattle.std.specs.List.{list_all, list_any, prefix_len, position_or_len, starts_with}
use Rattle.std.proofs.lemmas.List.{get_or_append_left, get_or-append-add, take_at, take-take}
use Rattle.std.proofs.lemmas.List.Sums.{prefix_len_is, AllPass-from_list_all}
use Rattle.std.proofs.lemmas.List.Folds.{prefix_len-append}
use Rattle.std.proofs.lemmas.Bool.{and_parts, both_ways, false_from_ne_true, not-true}
use Rattle.std.proofs.lemmas.Bool.Decides.{nat_tests}
use Rattle.std.proofs.lemmas.Slice.Eq.{bytes_eq-Decides}
use borrow.Author.Tests.{eqb-true, ne_eqb}
use Rattle.nf_lex.specs.declared.token.TokenKind.{TokenKind}
use Rattle.nf_lex.specs.declared.token.TokenKind.TheVariants.{Number, Text, Mark}
use Rattle.nf_core.specs.Identifiers.{is_letter, has_name_form}
use Rattle.nf_lex.specs.Bytes.{is_blank, is_inner, is_quote}
use Rattle.nf_lex.specs.Words.{kind_of, name_kind, is_among, is_number, is_text, long_marks, short_marks, opens_line, opens_block, Gap, Token, IsLongest, IsWord}
use Rattle.nf_lex.proofs.Public.NameLemmas.{name_parts}
use Rattle.nf_lemmas.proofs.ListLemmas.{has_first}
use Rattle.nf_lex.proofs.FirstByteLemmas.{any_in, short_other}
use Rattle.nf_lex.proofs.LongestTokenLemmas.{name_longest, number_longest, text_longest, mark_two, mark_one}
use Rattle.nf_lemmas.proofs.BoolLemmas.{choose_second}
use Rattle.nf_lex.proofs.PlaceLemmas.{token_word, blank_word, begins}

-- the run of a class at the front of a word and a rest that doesn't go on with it is the word
run_is : (p : ℕ → Bool) (word rest : List ℕ) → list_all p word ≡ true → p (get_or rest 0 0) ≡ false → prefix_len p (word ++ rest) ≡ length word
run_is p word rest h r = prefix_len_is p (word ++ rest) (length word) 0 (omega (arith, length-append word rest))
    (λ k l. ap p (get_or_append_left word rest 0 k l) ∙ AllPass-from_list_all p word h k 0 l)
    (λ l. let e : length word + 0 ≡ length word = omega arith in ap (λ k. p (get_or (word ++ rest) k 0)) (sym e) ∙ ap p (get_or-append-add word rest 0 0) ∙ r)

-- the first byte of both
first_is : (P : ℕ → Type 0) (word rest : List ℕ) → 0 < length word → P (get_or word 0 0) → P (get_or (word ++ rest) 0 0)
first_is P word rest l h = subst P (sym (get_or_append_left word rest 0 0 l)) h

-- bytes that begin with neither `/` nor `-` open no comment
begins_other : (bytes p : List ℕ) → (get_or bytes 0 0 ≡ get_or (p ++ drop (length p) bytes) 0 0 → ⊥) → starts_with nat_eq bytes p ≡ false
begins_other bytes p h = false_from_ne_true (starts_with nat_eq bytes p) (λ e. h (ap (λ xs. get_or xs 0 0) (begins bytes p e)))

no_line : (bytes : List ℕ) → (get_or bytes 0 0 ≡ 47 → ⊥) → (get_or bytes 0 0 ≡ 45 → ⊥) → opens_line bytes ≡ false
no_line bytes s d = rw (begins_other bytes (codes "//") s, begins_other bytes (codes "--") d)

no_block : (bytes : List ℕ) → (get_or bytes 0 0 ≡ 47 → ⊥) → opens_block bytes ≡ false
no_block bytes s = begins_other bytes (codes "/*") s

-- a byte of a class is none that the class lacks
apart : (p : ℕ → Bool) (bytes : List ℕ) (b : ℕ) → p (get_or bytes 0 0) ≡ true → p b ≡ false → get_or bytes 0 0 ≡ b → ⊥
apart p bytes b h n e = both_ways (p b) n (subst (λ c. p c ≡ true) e h)

-- a token whose first byte is of a class without `/`, `-` and blanks
module _ (p : ℕ → Bool) (slash : p 47 ≡ false) (dash : p 45 ≡ false) (blank : (b : ℕ) → p b ≡ true → is_blank b ≡ false) where
  class_word : (bytes : List ℕ) (kind : TokenKind) (n : ℕ) → p (get_or bytes 0 0) ≡ true → IsLongest kind_of bytes kind n → IsWord bytes (Token kind) n
  class_word bytes kind n h w =
      token_word bytes (no_line bytes (apart p bytes 47 h slash) (apart p bytes 45 h dash)) (no_block bytes (apart p bytes 47 h slash)) kind n (blank (get_or bytes 0 0) h) w

letter_blank : (b : ℕ) → is_letter b ≡ true → is_blank b ≡ false
letter_blank b h = grind (arith, nat_tests)

digit_blank : (b : ℕ) → is_ascii_digit b ≡ true → is_blank b ≡ false
digit_blank b h = grind (arith, nat_tests)

quote_blank : (b : ℕ) → is_quote b ≡ true → is_blank b ≡ false
quote_blank b h = grind (arith, nat_tests)

pub name_read : (word rest : List ℕ) → has_name_form word ≡ true → is_inner (get_or rest 0 0) ≡ false → IsWord (word ++ rest) (Token (name_kind word)) (length word)
name_read word rest h r =
    let p = name_parts word h in
    let first = first_is (λ b. is_letter b ≡ true) word rest (has_first is_letter word refl p.0) p.0 in
    let n = run_is is_inner word rest p.1 r in
    let e = ap (λ k. take k (word ++ rest)) n ∙ take_at word rest (length word) refl in
    class_word is_letter refl refl letter_blank (word ++ rest) (name_kind word) (length word) first
    (subst (λ w. IsLongest kind_of (word ++ rest) (name_kind w) (length word)) e (subst (λ k. IsLongest kind_of (word ++ rest) (name_kind (take (prefix_len is_inner (word ++ rest)) (word ++ rest))) k) n (name_longest (word ++ rest) first)))

pub number_read : (word rest : List ℕ) → is_number word ≡ true → is_ascii_digit (get_or rest 0 0) ≡ false → IsWord (word ++ rest) (Token Number) (length word)
number_read word rest h r =
    let p = and_parts (is_ascii_digit (get_or word 0 0)) (list_all is_ascii_digit word) h in
    let first = first_is (λ b. is_ascii_digit b ≡ true) word rest (has_first is_ascii_digit word refl p.0) p.0 in
    class_word is_ascii_digit refl refl digit_blank (word ++ rest) Number (length word) first
    (subst (λ k. IsLongest kind_of (word ++ rest) Number k) (run_is is_ascii_digit word rest p.1 r) (number_longest (word ++ rest) first))

-- the first `"` of a list and more
quote_is : (xs rest : List ℕ) → position_or_len is_quote xs < length xs → position_or_len is_quote (xs ++ rest) ≡ position_or_len is_quote xs
quote_is xs rest l = prefix_len-append (λ b. not (is_quote b)) xs rest
    ∙ choose_second (eqb (position_or_len is_quote xs) (length xs)) _ _ (ne_eqb (position_or_len is_quote xs) (length xs) (λ e. omega arith))

pub text_read : (word rest : List ℕ) → is_text word ≡ true → IsWord (word ++ rest) (Token Text) (length word)
text_read [] rest h = absurd cc
text_read (b ∷ word) rest h =
    let p = and_parts (is_quote b) (eqb (position_or_len is_quote word + 2) (length (b ∷ word))) h in
    let e = eqb-true (position_or_len is_quote word + 2) (length (b ∷ word)) p.1 in
    let n = quote_is word rest (omega arith) in
    let long = length-append word rest in
    class_word is_quote refl refl quote_blank (b ∷ (word ++ rest)) Text (length (b ∷ word)) p.0
    (subst (λ k. IsLongest kind_of (b ∷ (word ++ rest)) Text k) (ap (λ k. k + 2) n ∙ e) (text_longest (b ∷ (word ++ rest)) p.0 (omega arith)))

-- two bytes decide what opens
line_by_two : (bytes : List ℕ) → opens_line (take 2 bytes) ≡ opens_line bytes
line_by_two bytes = ap (λ ys. pointwise nat_eq (codes "//") ys || pointwise nat_eq (codes "--") ys) (take-take 2 2 bytes (omega arith))

block_by_two : (bytes : List ℕ) → opens_block (take 2 bytes) ≡ opens_block bytes
block_by_two bytes = ap (λ ys. pointwise nat_eq (codes "/*") ys) (take-take 2 2 bytes (omega arith))

-- a mark of two bytes opens no comment
abbrev is_plain_mark : List ℕ → Bool
is_plain_mark mark = eqb (length mark) 2 && not (opens_line mark) && not (opens_block mark) && not (is_blank (get_or mark 0 0))

pub long_read : (word rest : List ℕ) → is_among long_marks word ≡ true → IsWord (word ++ rest) (Token Mark) 2
long_read word rest h =
    let found = any_in (λ entry. bytes_eq entry word) is_plain_mark long_marks refl h in
    let plain = subst (λ w. is_plain_mark w ≡ true) ((bytes_eq-Decides found.0 word).0 found.1) found.2 in
    let a = and_parts (eqb (length word) 2 && not (opens_line word) && not (opens_block word)) (not (is_blank (get_or word 0 0))) plain in
    let b = and_parts (eqb (length word) 2 && not (opens_line word)) (not (opens_block word)) a.0 in
    let c = and_parts (eqb (length word) 2) (not (opens_line word)) b.0 in
    let two = eqb-true (length word) 2 c.0 in
    let e = take_at word rest 2 two in
    token_word (word ++ rest)
    (sym (line_by_two (word ++ rest)) ∙ ap opens_line e ∙ not-true (opens_line word) c.1)
    (sym (block_by_two (word ++ rest)) ∙ ap opens_block e ∙ not-true (opens_block word) b.1)
    Mark 2
    (first_is (λ d. is_blank d ≡ false) word rest (omega arith) (not-true (is_blank (get_or word 0 0)) a.1))
    (mark_two (word ++ rest) (omega (arith, length-append word rest)) (subst (λ w. is_among long_marks w ≡ true) (sym e) h))

pub short_read : (mark : ℕ) (rest : List ℕ) → list_any (λ m. eqb m mark) short_marks ≡ true → is_among long_marks (take 2 (mark ∷ rest)) ≡ false
    → opens_line (mark ∷ rest) ≡ false → opens_block (mark ∷ rest) ≡ false → IsWord (mark ∷ rest) (Token Mark) 1
short_read mark rest s l line block =
    let other = and_parts (not (is_letter mark) && not (is_ascii_digit mark) && not (is_quote mark)) (not (is_blank mark)) (short_other mark s) in
    token_word (mark ∷ rest) line block Mark 1 (not-true (is_blank mark) other.1) (mark_one (mark ∷ rest) (omega arith) (λ _. l) s)

pub blank_read : (blank : ℕ) (rest : List ℕ) → is_blank blank ≡ true → IsWord (blank ∷ rest) Gap 1
blank_read blank rest h =
    blank_word (blank ∷ rest) (no_line (blank ∷ rest) (apart is_blank (blank ∷ rest) 47 h refl) (apart is_blank (blank ∷ rest) 45 h refl))
    (no_block (blank ∷ rest) (apart is_blank (blank ∷ rest) 47 h refl)) (omega arith) h
