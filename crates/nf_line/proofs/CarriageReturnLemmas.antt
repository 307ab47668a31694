-- A piece without the CR at its end.
use Rattle.std.proofs.Common.{◌≡◌, ℕ, zero, suc, ◌+◌, ◌-◌, ◌≤◌, Bool, true, false, eqb, ◌&&◌, List, [], ◌∷◌, length, take, drop, refl, ap, sym, ◌∙◌, arith}
use Rattle.std.specs.Cmp.Lexicographic.{pointwise}
use Rattle.std.specs.List.{list_any}
use Rattle.std.proofs.lemmas.Bool.{cond_both, or_parts, or_from}
use Rattle.nf_line.specs.Lines.{line_limit, without_return}
use Rattle.nf_line.specs.Cutting.{has_feed, CanBeRead}

tested : (b : Bool) → (b && true) ≡ b
tested true = refl
tested false = refl

ended : (xs : List ℕ) (n : ℕ) → n + 1 ≡ length xs → pointwise eqb (drop n xs) (13 ∷ []) ≡ true → without_return xs ≡ take n xs
unfolding without_return
ended [] n h e = absurd (omega arith)
ended (x ∷ []) zero h e = let is = sym (tested (eqb x 13)) ∙ e in rw is refl
ended (x ∷ []) (suc n) h e = absurd (omega arith)
ended (x ∷ y ∷ xs) zero h e = absurd (omega arith)
ended (x ∷ y ∷ xs) (suc n) h e = ap {B = List ℕ} (λ line. x ∷ line) (ended (y ∷ xs) n (omega arith) e)

open_at : (xs : List ℕ) (n : ℕ) → n + 1 ≡ length xs → pointwise eqb (drop n xs) (13 ∷ []) ≡ false → without_return xs ≡ xs
unfolding without_return
open_at [] n h e = absurd (omega arith)
open_at (x ∷ []) zero h e = let is = sym (tested (eqb x 13)) ∙ e in rw is refl
open_at (x ∷ []) (suc n) h e = absurd (omega arith)
open_at (x ∷ y ∷ xs) zero h e = absurd (omega arith)
open_at (x ∷ y ∷ xs) (suc n) h e = ap {B = List ℕ} (λ line. x ∷ line) (open_at (y ∷ xs) n (omega arith) e)

-- the last byte is CR, and is dropped
pub return_dropped : (xs : List ℕ) → pointwise eqb (drop (length xs - 1) xs) (13 ∷ []) ≡ true → without_return xs ≡ take (length xs - 1) xs
return_dropped [] e = absurd cc
return_dropped (x ∷ xs) e = ended (x ∷ xs) (length (x ∷ xs) - 1) (omega arith) e

-- the last byte isn't CR
pub no_return : (xs : List ℕ) → pointwise eqb (drop (length xs - 1) xs) (13 ∷ []) ≡ false → without_return xs ≡ xs
unfolding without_return
no_return [] e = refl
no_return (x ∷ xs) e = open_at (x ∷ xs) (length (x ∷ xs) - 1) (omega arith) e

-- without its CR a piece is no longer, and shorter by one byte at most
pub no_longer : (xs : List ℕ) → length (without_return xs) ≤ length xs
unfolding without_return
no_longer [] = omega arith
no_longer (x ∷ []) = cond_both (eqb x 13) [] (x ∷ []) (λ line. length line ≤ 1) (λ e. omega arith) (λ e. omega arith)
no_longer (x ∷ y ∷ xs) = let later = no_longer (y ∷ xs) in omega arith

pub one_shorter : (xs : List ℕ) → length xs ≤ length (without_return xs) + 1
unfolding without_return
one_shorter [] = omega arith
one_shorter (x ∷ []) = omega arith
one_shorter (x ∷ y ∷ xs) = let later = one_shorter (y ∷ xs) in omega arith

still_none : (test : ℕ → Bool) (xs : List ℕ) → list_any test xs ≡ false → list_any test (without_return xs) ≡ false
unfolding without_return
still_none test [] h = refl
still_none test (x ∷ []) h = cond_both (eqb x 13) [] (x ∷ []) (λ line. list_any test line ≡ false) (λ e. refl) (λ e. h)
still_none test (x ∷ y ∷ xs) h = let sides = or_parts (test x) (list_any test (y ∷ xs)) h in or_from _ _ sides.0 (still_none test (y ∷ xs) sides.1)

-- kept bytes without their CR can be read
pub can_be_read : (kept : List ℕ) → length kept ≤ line_limit → has_feed kept ≡ false → CanBeRead (without_return kept)
can_be_read kept within none = record { within = omega (arith, no_longer kept); no_feed = still_none (λ byte. eqb byte 10) kept none }
