-- The end of a block comment.
use Rattle.std.proofs.Common.{◌≡◌, ℕ, zero, suc, eqb, ◌+◌, ◌<◌, ◌≤◌, Bool, true, false, List, [], ◌∷◌, length, take, drop, get_or, refl, sym, ap, ◌∙◌, ⊎_elim, subst, arith, codes, nat_eq}
use Rattle.std.specs.List.{starts_with}
use Rattle.std.specs.Cmp.Lexicographic.{pointwise}
use Rattle.std.proofs.lemmas.List.{drop_more, take-take}
use Rattle.std.proofs.lemmas.Bool.{and_right, cases_Bool}
use Rattle.nf_lex.specs.Words.{before_close}
use Rattle.nf_lemmas.proofs.BoolLemmas.{choose_first, choose_second}

-- a `*/` begins the bytes
abbrev pub closes : List ℕ → Bool
closes bytes = starts_with nat_eq bytes (codes "*/")

pub close_more : (xs : List ℕ) (i : ℕ) → i < length xs → closes (drop i xs) ≡ false → before_close (drop i xs) ≡ 1 + before_close (drop (i + 1) xs)
close_more xs i h s =
    let e = drop_more xs i 0 h in
    ap before_close e ∙ choose_second (closes (get_or xs i 0 ∷ drop (i + 1) xs)) 0 (1 + before_close (drop (i + 1) xs)) (subst (λ b. closes b ≡ false) e s)

pub close_here : (xs : List ℕ) (i : ℕ) → i < length xs → closes (drop i xs) ≡ true → before_close (drop i xs) ≡ 0
close_here xs i h s =
    let e = drop_more xs i 0 h in
    ap before_close e ∙ choose_first (closes (get_or xs i 0 ∷ drop (i + 1) xs)) 0 (1 + before_close (drop (i + 1) xs)) (subst (λ b. closes b ≡ true) e s)

before_cons_here : (x : ℕ) (xs : List ℕ) → closes (x ∷ xs) ≡ true → before_close (x ∷ xs) ≡ 0
before_cons_here x xs e = choose_first (closes (x ∷ xs)) 0 (1 + before_close xs) e

before_cons_more : (x : ℕ) (xs : List ℕ) → closes (x ∷ xs) ≡ false → before_close (x ∷ xs) ≡ 1 + before_close xs
before_cons_more x xs e = choose_second (closes (x ∷ xs)) 0 (1 + before_close xs) e

-- one byte closes nothing, and a longer front closes as the whole
closes_one : (x : ℕ) → closes (x ∷ []) ≡ false
closes_one x = and_right (eqb 42 x) false refl

closes_take : (k : ℕ) (xs : List ℕ) → 2 ≤ k → closes (take k xs) ≡ closes xs
closes_take k xs h = ap (λ ys. pointwise nat_eq (codes "*/") ys) (take-take 2 k xs h)

-- a front that holds the first `*/` has it at the same place
pub close_in : (xs : List ℕ) (k : ℕ) → before_close xs + 2 ≤ k → k ≤ length xs → before_close (take k xs) ≡ before_close xs
close_in [] k h l = absurd (omega arith)
close_in (x ∷ xs) zero h l = absurd (omega arith)
close_in (x ∷ xs) (suc k) h l = ⊎_elim
    (λ e. before_cons_here x (take k xs) (closes_take (suc k) (x ∷ xs) (omega arith) ∙ e) ∙ sym (before_cons_here x xs e))
    (λ e.
    let more = before_cons_more x xs e in
    before_cons_more x (take k xs) (closes_take (suc k) (x ∷ xs) (omega arith) ∙ e) ∙ ap (λ n. 1 + n) (close_in xs k (omega arith) (omega arith)) ∙ sym more)
    (cases_Bool (closes (x ∷ xs)))

-- a shorter front has none
closes_short : (k x : ℕ) (xs : List ℕ) → closes (x ∷ xs) ≡ false → closes (x ∷ take k xs) ≡ false
closes_short zero x xs e = closes_one x
closes_short (suc k) x xs e = closes_take (suc (suc k)) (x ∷ xs) (omega arith) ∙ e

pub close_past : (xs : List ℕ) (k : ℕ) → k < before_close xs + 2 → k ≤ length xs → before_close (take k xs) ≡ k
close_past [] zero h l = refl
close_past [] (suc k) h l = absurd (omega arith)
close_past (x ∷ xs) zero h l = refl
close_past (x ∷ xs) (suc k) h l = ⊎_elim
    (λ e.
    let here = before_cons_here x xs e in
    let none : 0 ≡ k = omega arith in
    subst (λ n. before_close (x ∷ take n xs) ≡ suc n) none (before_cons_more x [] (closes_one x)))
    (λ e.
    let more = before_cons_more x xs e in
    before_cons_more x (take k xs) (closes_short k x xs e) ∙ ap (λ n. 1 + n) (close_past xs k (omega arith) (omega arith)) ∙ omega arith)
    (cases_Bool (closes (x ∷ xs)))

-- where one stands, both of its bytes do
pub close_fits : (xs : List ℕ) → before_close xs < length xs → before_close xs + 2 ≤ length xs
close_fits [] h = absurd (omega arith)
close_fits (x ∷ []) h = absurd (omega (arith, before_cons_more x [] (closes_one x)))
close_fits (x ∷ y ∷ xs) h = ⊎_elim
    (λ e. omega (arith, before_cons_here x (y ∷ xs) e))
    (λ e. omega (arith, before_cons_more x (y ∷ xs) e, close_fits (y ∷ xs) (omega (arith, before_cons_more x (y ∷ xs) e))))
    (cases_Bool (closes (x ∷ y ∷ xs)))
