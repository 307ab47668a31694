-- Pieces lie within their bytes.
use Rattle.std.proofs.Common.{◌≡◌, ℕ, ◌+◌, ◌<◌, ◌≤◌, Bool, true, false, ◌&&◌, cond, ltb, List, [], ◌∷◌, length, take, drop, get_or, refl, ap, arith, codes, nat_eq, bytes_eq, Option, Some, None, length-append}
use Rattle.std.specs.List.{prefix_len, starts_with, list_all}
use Rattle.std.specs.Char.{is_ascii_digit}
use Rattle.std.proofs.lemmas.List.{length-drop, length-take-le}
use Rattle.std.proofs.lemmas.List.Sums.{prefix_len-le-length}
use Rattle.std.proofs.lemmas.Bool.{ltb-true}
use Rattle.std.proofs.lemmas.Slice.Eq.{bytes_eq-Decides}
use Rattle.nf_lex.specs.Bytes.{is_blank, is_inner, is_in_line}
use Rattle.nf_lex.specs.Words.{before_close}
use Rattle.nf_cparse.specs.declared.symbol.Sym.{Sym}
use Rattle.nf_lemmas.proofs.BoolLemmas.{both}
use Rattle.nf_cparse.specs.declared.piece.Piece.{Piece}
use Rattle.nf_cparse.specs.declared.piece.Piece.TheVariants.{Gap, Fault}
use Rattle.nf_cparse.specs.Symbols.{c_marks, word_symbol}
use Rattle.nf_cparse.specs.Pieces.{may_stand, token_or_fault, comment_piece, line_piece, block_piece, past_blanks, digits_at, past_digits, are_literal_digits, begins_with, literal_open, literal_inside, literal_close, literal_piece, run_piece, mark_in, piece_of}
use Rattle.nf_cparse.specs.inner.Fitting.{FitsIn}
use Rattle.nf_cparse.proofs.CommentLemmas.{begins, close_fits, block_long}

-- a run that is `INT64_C` has seven bytes
pub literal_long : (bytes : List ℕ) → bytes_eq (take (prefix_len is_inner bytes) bytes) (codes "INT64_C") ≡ true → 7 ≤ length bytes
literal_long bytes h =
    let e = (bytes_eq-Decides (take (prefix_len is_inner bytes) bytes) (codes "INT64_C")).0 h in
    omega (arith, ap length e, length-take-le (prefix_len is_inner bytes) bytes (prefix_len-le-length is_inner bytes), prefix_len-le-length is_inner bytes)

some_fits : (bytes : List ℕ) (s : Option Sym) (n : ℕ) → 0 < n → n ≤ length bytes → FitsIn bytes (token_or_fault s n)
some_fits bytes (Some s) n l h = (l, h)
some_fits bytes None n l h = omega arith

comment_fits : (n : ℕ) (bytes : List ℕ) → 0 < n → n ≤ length bytes → FitsIn bytes (comment_piece n bytes)
unfolding comment_piece
comment_fits n bytes l h = by (ltb (prefix_len may_stand (take n bytes)) n) refl
  where
    by : (b : Bool) → ltb (prefix_len may_stand (take n bytes)) n ≡ b → FitsIn bytes (cond b (Fault (prefix_len may_stand (take n bytes))) (Gap n))
    by true e = let k = ltb-true (prefix_len may_stand (take n bytes)) n e in omega (arith, k, h)
    by false e = (l, h)

-- a run whose first byte passes has a byte
first_runs : (p : ℕ → Bool) (bytes : List ℕ) → 0 < length bytes → p (get_or bytes 0 0) ≡ true → 0 < prefix_len p bytes
first_runs p [] l h = absurd (omega arith)
first_runs p (x ∷ bytes) l h = by (p x) h
  where
    by : (b : Bool) → b ≡ true → 0 < cond b (1 + prefix_len p bytes) 0
    by true e = omega arith
    by false e = absurd cc

line_fits : (bytes : List ℕ) → starts_with nat_eq bytes (codes "//") ≡ true → FitsIn bytes (line_piece bytes)
line_fits bytes h =
    let e = begins bytes (codes "//") h in
    comment_fits (prefix_len is_in_line bytes) bytes
    (first_runs is_in_line bytes (omega (arith, ap length e)) (ap (λ xs. is_in_line (get_or xs 0 0)) e))
    (prefix_len-le-length is_in_line bytes)

block_fits : (bytes : List ℕ) → starts_with nat_eq bytes (codes "/*") ≡ true → FitsIn bytes (block_piece bytes)
unfolding block_piece
block_fits bytes h = by (ltb (before_close (drop 2 bytes)) (length (drop 2 bytes))) refl
  where
    by : (b : Bool) → ltb (before_close (drop 2 bytes)) (length (drop 2 bytes)) ≡ b → FitsIn bytes (cond b (comment_piece (before_close (drop 2 bytes) + 4) bytes) (Fault 0))
    by true e =
        let close = close_fits (drop 2 bytes) (ltb-true (before_close (drop 2 bytes)) (length (drop 2 bytes)) e) in
        comment_fits (before_close (drop 2 bytes) + 4) bytes (omega arith) (omega (arith, close, block_long bytes h, length-drop 2 bytes))
    by false e = omega arith

-- the `)` of a literal stands behind its first byte
blanks_shorter : (bytes : List ℕ) → length (past_blanks bytes) ≤ length bytes
unfolding past_blanks
blanks_shorter bytes = omega (arith, length-drop (prefix_len is_blank bytes) bytes)

digits_shorter : (bytes : List ℕ) → length (past_digits bytes) ≤ length bytes
unfolding past_digits
digits_shorter bytes = omega (arith, length-drop (prefix_len is_ascii_digit bytes) bytes)

close_behind : (bytes : List ℕ) → 0 < length bytes → length (drop 1 (literal_close bytes)) < length bytes
unfolding literal_close literal_inside literal_open
close_behind bytes l =
    let opened = past_blanks (drop 7 bytes) in
    let inside = past_blanks (drop 1 opened) in
    let closed = past_blanks (past_digits inside) in
    omega (arith, length-drop 7 bytes, blanks_shorter (drop 7 bytes), length-drop 1 opened, blanks_shorter (drop 1 opened), digits_shorter inside, blanks_shorter (past_digits inside), length-drop 1 closed)

choose : (bytes : List ℕ) (b : Bool) (x y : Piece) → (b ≡ true → FitsIn bytes x) → (b ≡ false → FitsIn bytes y) → FitsIn bytes (cond b x y)
choose bytes true x y f g = f refl
choose bytes false x y f g = g refl

literal_fits : (bytes : List ℕ) → 0 < length bytes → FitsIn bytes (literal_piece bytes)
unfolding literal_piece
literal_fits bytes l = choose bytes (begins_with 40 (literal_open bytes) && are_literal_digits (digits_at (literal_inside bytes)) && begins_with 41 (literal_close bytes)) _ _
    (λ e. let k = close_behind bytes l in (omega (arith, k), omega (arith, k)))
    (λ e. omega arith)

run_fits : (bytes : List ℕ) → 0 < length bytes → is_inner (get_or bytes 0 0) ≡ true → FitsIn bytes (run_piece bytes)
unfolding run_piece
run_fits bytes l h =
    let n = prefix_len is_inner bytes in
    let run = take n bytes in
    let within = prefix_len-le-length is_inner bytes in
    choose bytes (bytes_eq run (codes "INT64_C")) (literal_piece bytes) (token_or_fault (word_symbol run) (length run))
    (λ e. literal_fits bytes l)
    (λ e. some_fits bytes (word_symbol run) (length run) (omega (arith, length-take-le n bytes within, first_runs is_inner bytes l h)) (omega (arith, length-take-le n bytes within, within)))

mark_fits : (marks : List (List ℕ × Option Sym)) → list_all (λ mark. ltb 0 (length mark.0)) marks ≡ true → (bytes : List ℕ) → FitsIn bytes (mark_in marks bytes)
mark_fits [] h bytes = omega arith
mark_fits (mark ∷ marks) h bytes =
    let p = both (ltb 0 (length mark.0)) (list_all (λ m. ltb 0 (length m.0)) marks) h in
    choose bytes (starts_with nat_eq bytes mark.0) (token_or_fault mark.1 (length mark.0)) (mark_in marks bytes)
    (λ e. some_fits bytes mark.1 (length mark.0) (ltb-true 0 (length mark.0) p.0) (omega (arith, ap length (begins bytes mark.0 e), length-append mark.0 (drop (length mark.0) bytes))))
    (λ e. mark_fits marks p.1 bytes)

marks_some : list_all (λ mark. ltb 0 (length mark.0)) c_marks ≡ true
unfolding c_marks
marks_some = refl

pub piece_fits : (bytes : List ℕ) → 0 < length bytes → FitsIn bytes (piece_of bytes)
unfolding piece_of
piece_fits bytes l =
    choose bytes (starts_with nat_eq bytes (codes "//")) (line_piece bytes) _ (λ e. line_fits bytes e) (λ e.
    choose bytes (starts_with nat_eq bytes (codes "/*")) (block_piece bytes) _ (λ f. block_fits bytes f) (λ f.
    choose bytes (is_blank (get_or bytes 0 0)) (Gap 1) _ (λ b. (omega arith, omega (arith, l))) (λ b.
    choose bytes (is_inner (get_or bytes 0 0)) (run_piece bytes) (mark_in c_marks bytes) (λ i. run_fits bytes l i) (λ i. mark_fits c_marks marks_some bytes))))
