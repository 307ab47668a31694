-- Words and literals that are followed by what they don't go on with are read.
use Rattle.std.proofs.Common.{◌≡◌, ℕ, ◌-◌, ◌<◌, Bool, true, false, not, ◌&&◌, eqb, ltb, nat_eq, List, [], ◌∷◌, ◌++◌, length, take, drop, get_or, refl, ap, ◌∙◌, subst, arith, codes, bytes_eq}
use Rattle.std.specs.List.{prefix_len, list_all, starts_with}
use Rattle.std.specs.Char.{is_ascii_digit}
use Rattle.std.proofs.lemmas.List.{take_at, get_or_append_left}
use Rattle.std.proofs.lemmas.List.Sums.{AllPass-from_list_all}
use Rattle.std.proofs.lemmas.Bool.{ltb-true, not-true}
use Rattle.std.proofs.lemmas.Bool.Decides.{nat_tests}
use Rattle.std.proofs.Math.Seq.{drop-append_seam}
use Rattle.nf_lemmas.proofs.BoolLemmas.{both}
use Rattle.nf_lex.specs.Bytes.{is_blank, is_inner}
use Rattle.nf_cparse.specs.declared.symbol.Sym.TheVariants as sym'
use Rattle.nf_cparse.specs.declared.piece.Piece.TheVariants.{Token}
use Rattle.nf_cparse.specs.Symbols.{c_marks, word_symbol}
use Rattle.nf_cparse.specs.Pieces.{token_or_fault, past_blanks, digits_at, past_digits, are_literal_digits, literal_open, literal_inside, literal_close, literal_piece, run_piece, piece_of}
use Rattle.nf_cparse.specs.Marks.{Mark, IsLongestMark}
use Rattle.nf_cparse.proofs.RunLemmas.{run_is}
use Rattle.nf_cparse.proofs.CommentLemmas.{begins}
use Rattle.nf_cparse.proofs.MarkLemmas.{longest_mark}

-- a byte of a run opens no comment and is no separator
inner_apart : (x : ℕ) → is_inner x ≡ true → (eqb 47 x ≡ false) × (is_blank x ≡ false)
inner_apart x h = (grind (arith, nat_tests), grind (arith, nat_tests))

-- a run is what stands there
run_first : (x : ℕ) (bytes : List ℕ) → is_inner x ≡ true → piece_of (x ∷ bytes) ≡ run_piece (x ∷ bytes)
unfolding piece_of
run_first x bytes h = rw ((inner_apart x h).0, (inner_apart x h).1, h) refl

pub word_read : (word rest : List ℕ) → 0 < length word → list_all is_inner word ≡ true → bytes_eq word (codes "INT64_C") ≡ false → is_inner (get_or rest 0 0) ≡ false
    → piece_of (word ++ rest) ≡ token_or_fault (word_symbol word) (length word)
unfolding run_piece
word_read [] rest some inner other ends = absurd (omega arith)
word_read (x ∷ word) rest some inner other ends =
    let run : take (prefix_len is_inner (x ∷ word ++ rest)) (x ∷ word ++ rest) ≡ x ∷ word =
    ap (λ n. take n (x ∷ word ++ rest)) (run_is is_inner (x ∷ word) rest inner ends) ∙ take_at (x ∷ word) rest (length (x ∷ word)) refl in
    run_first x (word ++ rest) (both (is_inner x) (list_all is_inner word) inner).0 ∙ rw (run, other) refl

-- separators, and what is none of them
pub blank_apart : (x : ℕ) → is_blank x ≡ true → (is_inner x ≡ false) × (is_ascii_digit x ≡ false)
blank_apart x h = (grind (arith, nat_tests), grind (arith, nat_tests))

digit_apart : (x : ℕ) → is_ascii_digit x ≡ true → is_blank x ≡ false
digit_apart x h = grind (arith, nat_tests)

-- behind separators, or at once, comes no byte of a class that has none of them
pub behind_first : (p : ℕ → Bool) → ((x : ℕ) → is_blank x ≡ true → p x ≡ false) → (blanks rest : List ℕ) → list_all is_blank blanks ≡ true → p (get_or rest 0 0) ≡ false → p (get_or (blanks ++ rest) 0 0) ≡ false
behind_first p apart [] rest h r = r
behind_first p apart (x ∷ blanks) rest h r = apart x (both (is_blank x) (list_all is_blank blanks) h).0

blanks_past : (blanks rest : List ℕ) → list_all is_blank blanks ≡ true → is_blank (get_or rest 0 0) ≡ false → past_blanks (blanks ++ rest) ≡ rest
unfolding past_blanks
blanks_past blanks rest h r = ap (λ n. drop n (blanks ++ rest)) (run_is is_blank blanks rest h r) ∙ drop-append_seam blanks rest

pub digits_front : (digits rest : List ℕ) → list_all is_ascii_digit digits ≡ true → is_ascii_digit (get_or rest 0 0) ≡ false → (digits_at (digits ++ rest) ≡ digits) × (past_digits (digits ++ rest) ≡ rest)
unfolding digits_at past_digits
digits_front digits rest h r =
    let n = run_is is_ascii_digit digits rest h r in
    (ap (λ k. take k (digits ++ rest)) n ∙ take_at digits rest (length digits) refl, ap (λ k. drop k (digits ++ rest)) n ∙ drop-append_seam digits rest)

-- digits of a literal begin with a digit
digits_first : (digits rest : List ℕ) → are_literal_digits digits ≡ true → list_all is_ascii_digit digits ≡ true → is_blank (get_or (digits ++ rest) 0 0) ≡ false
unfolding are_literal_digits
digits_first [] rest some h = absurd cc
digits_first (x ∷ digits) rest some h = digit_apart x (both (is_ascii_digit x) (list_all is_ascii_digit digits) h).0

module _ (first second digits third rest : List ℕ) (a : list_all is_blank first ≡ true) (b : list_all is_blank second ≡ true) (c : list_all is_blank third ≡ true)
    (d : list_all is_ascii_digit digits ≡ true) (sound : are_literal_digits digits ≡ true) where
  abbrev from_close : List ℕ
  from_close = 41 ∷ rest

  abbrev from_digits : List ℕ
  from_digits = digits ++ (third ++ from_close)

  abbrev from_open : List ℕ
  from_open = 40 ∷ (second ++ from_digits)

  abbrev from_word : List ℕ
  from_word = codes "INT64_C" ++ (first ++ from_open)

  is_open : literal_open from_word ≡ from_open
  unfolding literal_open
  is_open = blanks_past first from_open a refl

  is_inside : literal_inside from_word ≡ from_digits
  unfolding literal_inside
  is_inside = ap (λ xs. past_blanks (drop 1 xs)) is_open ∙ blanks_past second from_digits b (digits_first digits (third ++ from_close) sound d)

  no_digit : is_ascii_digit (get_or (third ++ from_close) 0 0) ≡ false
  no_digit = behind_first is_ascii_digit (λ x h. (blank_apart x h).1) third from_close c refl

  is_close : literal_close from_word ≡ from_close
  unfolding literal_close
  is_close = ap (λ xs. past_blanks (past_digits xs)) is_inside ∙ ap past_blanks (digits_front digits (third ++ from_close) d no_digit).1 ∙ blanks_past third from_close c refl

  are_digits : digits_at (literal_inside from_word) ≡ digits
  are_digits = ap digits_at is_inside ∙ (digits_front digits (third ++ from_close) d no_digit).0

  is_literal : literal_piece from_word ≡ Token sym'.Lit (length from_word - length rest)
  unfolding literal_piece
  is_literal = rw (is_open, are_digits, is_close, sound) refl

  pub literal_read : piece_of from_word ≡ Token sym'.Lit (length from_word - length rest)
  unfolding run_piece
  literal_read =
      let ends = behind_first is_inner (λ x h. (blank_apart x h).0) first from_open a refl in
      let run : take (prefix_len is_inner from_word) from_word ≡ codes "INT64_C" =
      ap (λ n. take n from_word) (run_is is_inner (codes "INT64_C") (first ++ from_open) refl ends) ∙ take_at (codes "INT64_C") (first ++ from_open) 7 refl in
      run_first 73 (codes "NT64_C" ++ (first ++ from_open)) refl ∙ rw run is_literal

-- the first byte of a mark is none of a run and no separator
abbrev begins_apart : Mark → Bool
begins_apart mark = ltb 0 (length mark.0) && not (is_blank (get_or mark.0 0 0)) && not (is_inner (get_or mark.0 0 0))

marks_apart : list_all begins_apart c_marks ≡ true
unfolding c_marks
marks_apart = refl

pub mark_read : (bytes : List ℕ) (mark : Mark) → IsLongestMark bytes mark → starts_with nat_eq bytes (codes "//") ≡ false → starts_with nat_eq bytes (codes "/*") ≡ false
    → piece_of bytes ≡ token_or_fault mark.1 (length mark.0)
unfolding piece_of
mark_read bytes mark h line block =
    let parts = subst (λ m. begins_apart m ≡ true) h.there.2 (AllPass-from_list_all begins_apart c_marks marks_apart h.there.0 mark h.there.1) in
    let front = both (ltb 0 (length mark.0) && not (is_blank (get_or mark.0 0 0))) (not (is_inner (get_or mark.0 0 0))) parts in
    let some = both (ltb 0 (length mark.0)) (not (is_blank (get_or mark.0 0 0))) front.0 in
    let first : get_or bytes 0 0 ≡ get_or mark.0 0 0 =
    ap (λ xs. get_or xs 0 0) (begins bytes mark.0 h.begins) ∙ get_or_append_left mark.0 (drop (length mark.0) bytes) 0 0 (ltb-true 0 (length mark.0) some.0) in
    let blank = ap is_blank first ∙ not-true (is_blank (get_or mark.0 0 0)) some.1 in
    let inner = ap is_inner first ∙ not-true (is_inner (get_or mark.0 0 0)) front.1 in
    rw (line, block, blank, inner) (longest_mark bytes mark h)
