-- The reading of tokens.
use Rattle.std.proofs.Common.{◌≡◌, ℕ, zero, suc, ◌+◌, ◌<◌, ◌≤◌, ◌==◌, true, false, List, [], ◌∷◌, length, take, drop, refl, sym, ap, ◌∙◌, subst, arith, Ok, Err}
use Rattle.std.specs.List.{count_by}
use Rattle.std.proofs.lemmas.List.{length-drop, length-take-le}
use Rattle.std.proofs.lemmas.Bool.{eqb-true}
use Rattle.nf_lex.specs.Bytes.{is_newline}
use Rattle.nf_cparse.specs.declared.symbol.Sym.{Sym}
use Rattle.nf_cparse.specs.declared.piece.Piece.{Piece}
use Rattle.nf_cparse.specs.declared.piece.Piece.TheVariants as piece
use Rattle.nf_cparse.specs.Pieces.{piece_of}
use Rattle.nf_cparse.specs.Lexing.{word_at, Answer, in_front, line_behind, Lexes, ends, skips, takes, fails}
use Rattle.nf_cparse.specs.inner.Tokens.{Place, place, IsNext, by_piece, answer_in, answer_at}
use Rattle.nf_cparse.specs.inner.Fitting.{FitsIn}
use Rattle.nf_cparse.proofs.PieceLemmas.{piece_fits}

-- between two places stand gaps: whatever stands behind the later place stands behind the earlier one
pub record IsSoFar (old new : Place) : Type 0 where
  pub within : new.line + length new.rest ≤ old.line + length old.rest
  pub shorter : length new.rest ≤ length old.rest
  pub goes_on : (answer : Answer) → Lexes new.line new.rest answer → Lexes old.line old.rest answer

pub so_far_start : (start : Place) → IsSoFar start start
so_far_start start = record { within = omega arith; shorter = omega arith; goes_on = λ answer l. l }

-- what a piece leaves, as it is read
module _ (rest : List ℕ) (here n : ℕ) (text behind : List ℕ) (lines : ℕ) (is_text : text ≡ take n rest) (is_behind : behind ≡ drop n rest) (is_lines : lines ≡ count_by is_newline text) where
  lines_are : here + lines ≡ line_behind here (take n rest)
  lines_are = ap (λ k. here + k) (is_lines ∙ ap (count_by is_newline) is_text)

  moved : (answer : Answer) → Lexes (here + lines) behind answer → Lexes (line_behind here (take n rest)) (drop n rest) answer
  moved answer l = subst (λ b. Lexes (line_behind here (take n rest)) b answer) is_behind (subst (λ k. Lexes k behind answer) lines_are l)

  module _ (old : Place) (s : IsSoFar old (place rest here)) (within : n ≤ length rest) where
    pub so_far_gap : 0 < n → lines ≤ length text → piece.Gap n ≡ piece_of rest → IsSoFar old (place behind (here + lines))
    so_far_gap some few p = record {
      within = omega (arith, few, ap length is_text, length-take-le n rest within, ap length is_behind, length-drop n rest, s.within, within);
      shorter = omega (arith, ap length is_behind, length-drop n rest, s.shorter);
      goes_on = λ answer l. s.goes_on answer (skips (omega (arith, some, within)) (sym p) (moved answer l));
    }

    pub so_far_token : 0 < n → (k : Sym) → piece.Token k n ≡ piece_of rest → IsNext old (word_at k text here) (place behind (here + lines))
    so_far_token some k p = record {
      shorter = omega (arith, ap length is_behind, length-drop n rest, s.shorter, some, within);
      goes_on = λ answer l. s.goes_on (in_front (word_at k text here) answer)
          (takes (omega (arith, some, within)) (sym p) (moved answer l) (ap (λ t. in_front (word_at k t here) answer) is_text));
    }

    pub so_far_fault : 0 < length rest → piece.Fault n ≡ piece_of rest → Lexes old.line old.rest (Err (here + lines))
    so_far_fault some p = subst (λ k. Lexes old.line old.rest (Err k)) (sym lines_are) (s.goes_on (Err (line_behind here (take n rest))) (fails some (sym p)))

-- whether bytes are left
none_left : (rest : List ℕ) → true ≡ (length rest == 0) → rest ≡ []
none_left [] e = refl
none_left (x ∷ rest) e = absurd (omega (arith, eqb-true (length (x ∷ rest)) 0 (sym e)))

pub some_left : (rest : List ℕ) → false ≡ (length rest == 0) → 0 < length rest
some_left [] e = absurd cc
some_left (x ∷ rest) e = omega arith

pub so_far_end : (old : Place) (rest : List ℕ) (here : ℕ) → IsSoFar old (place rest here) → true ≡ (length rest == 0) → Lexes old.line old.rest (Ok [])
so_far_end old rest here s e = s.goes_on (Ok []) (ends (none_left rest e))

-- one answer
abbrev gap : ℕ → Piece
gap n = piece.Gap n

abbrev token : Sym → ℕ → Piece
token k n = piece.Token k n

abbrev fault : ℕ → Piece
fault n = piece.Fault n

gap_len : (n m : ℕ) → gap n ≡ gap m → n ≡ m
gap_len n m e = cc

token_len : (k j : Sym) (n m : ℕ) → token k n ≡ token j m → (k ≡ j) × (n ≡ m)
token_len k j n m e = (cc, cc)

fault_len : (n m : ℕ) → fault n ≡ fault m → n ≡ m
fault_len n m e = cc

gap_token : (k : Sym) (n m : ℕ) → gap n ≡ token k m → ⊥
gap_token k n m e = cc

gap_fault : (n m : ℕ) → gap n ≡ fault m → ⊥
gap_fault n m e = cc

token_fault : (k : Sym) (n m : ℕ) → token k n ≡ fault m → ⊥
token_fault k n m e = cc

empty_some : (bytes : List ℕ) → bytes ≡ [] → 0 < length bytes → ⊥
empty_some bytes e l = omega (arith, ap length e, l)

pub lexes_one : (line : ℕ) (bytes : List ℕ) (a b : Answer) → Lexes line bytes a → Lexes line bytes b → a ≡ b
lexes_one line bytes _ _ (ends e) (ends f) = refl
lexes_one line bytes _ _ (ends e) (skips l p d) = absurd (empty_some bytes e l)
lexes_one line bytes _ _ (ends e) (takes l p d i) = absurd (empty_some bytes e l)
lexes_one line bytes _ _ (ends e) (fails l p) = absurd (empty_some bytes e l)
lexes_one line bytes _ _ (skips l p d) (ends e) = absurd (empty_some bytes e l)
lexes_one line bytes a b (skips {n = n} l p d) (skips {n = m} k q f) =
    let e = gap_len m n (sym q ∙ p) in
    lexes_one (line_behind line (take n bytes)) (drop n bytes) a b d (subst (λ j. Lexes (line_behind line (take j bytes)) (drop j bytes) b) e f)
lexes_one line bytes _ _ (skips {n = n} l p d) (takes {n = m} {s = k} h q f i) = absurd (gap_token k n m (sym p ∙ q))
lexes_one line bytes _ _ (skips {n = n} l p d) (fails {n = m} k q) = absurd (gap_fault n m (sym p ∙ q))
lexes_one line bytes _ _ (takes l p d i) (ends e) = absurd (empty_some bytes e l)
lexes_one line bytes _ _ (takes {n = m} {s = k} l p d i) (skips {n = n} h q f) = absurd (gap_token k n m (sym q ∙ p))
lexes_one line bytes a b (takes {n = n} {s = k} {rest = x} l p d i) (takes {n = m} {s = j} {rest = y} h q f g) =
    let e = token_len j k m n (sym q ∙ p) in
    let r = lexes_one (line_behind line (take n bytes)) (drop n bytes) x y d (subst (λ o. Lexes (line_behind line (take o bytes)) (drop o bytes) y) e.1 f) in
    i ∙ ap (in_front (word_at k (take n bytes) line)) r ∙ ap (λ o. in_front (word_at o (take n bytes) line) y) (sym e.0) ∙ ap (λ o. in_front (word_at j (take o bytes) line) y) (sym e.1) ∙ sym g
lexes_one line bytes _ _ (takes {n = m} {s = k} l p d i) (fails {n = n} h q) = absurd (token_fault k m n (sym p ∙ q))
lexes_one line bytes _ _ (fails l p) (ends e) = absurd (empty_some bytes e l)
lexes_one line bytes _ _ (fails {n = n} l p) (skips {n = m} h q f) = absurd (gap_fault m n (sym q ∙ p))
lexes_one line bytes _ _ (fails {n = n} l p) (takes {n = m} {s = k} h q f i) = absurd (token_fault k m n (sym q ∙ p))
lexes_one line bytes _ _ (fails {n = n} l p) (fails {n = m} k q) = ap (λ j. Err (line_behind line (take j bytes))) (fault_len n m (sym p ∙ q))

-- the answer that is defined by the first pieces is one
lexed_piece : (pieces line : ℕ) (bytes : List ℕ) → 0 < length bytes → (p : Piece) → piece_of bytes ≡ p
    → ((n : ℕ) → 0 < n → n ≤ length bytes → Lexes (line_behind line (take n bytes)) (drop n bytes) (answer_in pieces (line_behind line (take n bytes)) (drop n bytes)))
    → FitsIn bytes p → Lexes line bytes (by_piece (answer_in pieces) line bytes p)
lexed_piece pieces line bytes l (piece.Gap n) e rest fits = skips l e (rest n fits.0 fits.1)
lexed_piece pieces line bytes l (piece.Token k n) e rest fits = takes l e (rest n fits.0 fits.1) refl
lexed_piece pieces line bytes l (piece.Fault n) e rest fits = fails l e

lexed_in : (pieces line : ℕ) (bytes : List ℕ) → length bytes ≤ pieces → Lexes line bytes (answer_in pieces line bytes)
unfolding answer_in
lexed_in zero line [] h = ends refl
lexed_in (suc pieces) line [] h = ends refl
lexed_in zero line (b ∷ bytes) h = absurd (omega arith)
lexed_in (suc pieces) line (b ∷ bytes) h = lexed_piece pieces line (b ∷ bytes) (omega arith) (piece_of (b ∷ bytes)) refl
    (λ n some within. lexed_in pieces (line_behind line (take n (b ∷ bytes))) (drop n (b ∷ bytes)) (omega (arith, length-drop n (b ∷ bytes), h, some)))
    (piece_fits (b ∷ bytes) (omega arith))

pub lexed_at : (at : Place) → Lexes at.line at.rest (answer_at at)
unfolding answer_at
lexed_at at = lexed_in (length at.rest) at.line at.rest (omega arith)

-- every list of bytes has an answer
pub lexes_some : (line : ℕ) (bytes : List ℕ) → (answer : Answer) × Lexes line bytes answer
lexes_some line bytes = (answer_at (place bytes line), lexed_at (place bytes line))
