-- The end of a block comment.
use Rattle.std.proofs.Common.{◌≡◌, ℕ, eqb, ◌+◌, ◌<◌, ◌≤◌, Bool, true, false, ◌++◌, List, [], ◌∷◌, length, drop, get_or, refl, ap, ◌∙◌, ⊎_elim, subst, arith, codes, nat_eq}
use Rattle.std.specs.List.{starts_with}
use Rattle.std.proofs.lemmas.List.{drop_more}
use Rattle.std.proofs.lemmas.Bool.{and_right, cases_Bool}
use Rattle.std.proofs.lemmas.Slice.Eq.{starts_is}
use Rattle.std.proofs.lemmas.Bool.Decides.{Decides-eqb}
use Rattle.nf_lex.specs.Words.{before_close}
use Rattle.nf_lemmas.proofs.BoolLemmas.{choose_first, choose_second}

-- a `*/` begins the bytes
abbrev pub closes : List ℕ → Bool
closes bytes = starts_with nat_eq bytes (codes "*/")

pub close_more : (xs : List ℕ) (i : ℕ) → i < length xs → closes (drop i xs) ≡ false → before_close (drop i xs) ≡ 1 + before_close (drop (i + 1) xs)
close_more xs i h s =
    let e = drop_more xs i 0 h in
    ap before_close e ∙ choose_second (closes (get_or xs i 0 ∷ drop (i + 1) xs)) 0 (1 + before_close (drop (i + 1) xs)) (subst (λ b. closes b ≡ false) e s)

pub close_here : (xs : List ℕ) (i : ℕ) → i < length xs → closes (drop i xs) ≡ true → before_close (drop i xs) ≡ 0
close_here xs i h s =
    let e = drop_more xs i 0 h in
    ap before_close e ∙ choose_first (closes (get_or xs i 0 ∷ drop (i + 1) xs)) 0 (1 + before_close (drop (i + 1) xs)) (subst (λ b. closes b ≡ true) e s)

before_cons_here : (x : ℕ) (xs : List ℕ) → closes (x ∷ xs) ≡ true → before_close (x ∷ xs) ≡ 0
before_cons_here x xs e = choose_first (closes (x ∷ xs)) 0 (1 + before_close xs) e

before_cons_more : (x : ℕ) (xs : List ℕ) → closes (x ∷ xs) ≡ false → before_close (x ∷ xs) ≡ 1 + before_close xs
before_cons_more x xs e = choose_second (closes (x ∷ xs)) 0 (1 + before_close xs) e

-- one byte closes nothing
closes_one : (x : ℕ) → closes (x ∷ []) ≡ false
closes_one x = and_right (eqb 42 x) false refl

-- where a `*/` stands, both of its bytes do
pub close_fits : (xs : List ℕ) → before_close xs < length xs → before_close xs + 2 ≤ length xs
close_fits [] h = absurd (omega arith)
close_fits (x ∷ []) h = absurd (omega (arith, before_cons_more x [] (closes_one x)))
close_fits (x ∷ y ∷ xs) h = ⊎_elim
    (λ e. omega (arith, before_cons_here x (y ∷ xs) e))
    (λ e. omega (arith, before_cons_more x (y ∷ xs) e, close_fits (y ∷ xs) (omega (arith, before_cons_more x (y ∷ xs) e))))
    (cases_Bool (closes (x ∷ y ∷ xs)))

-- what a list begins with
pub begins : (bytes p : List ℕ) → starts_with nat_eq bytes p ≡ true → bytes ≡ p ++ drop (length p) bytes
begins bytes p h = (starts_is Decides-eqb bytes p (starts_with nat_eq bytes p) refl).0 h

pub block_long : (bytes : List ℕ) → starts_with nat_eq bytes (codes "/*") ≡ true → 2 ≤ length bytes
block_long bytes h = omega (arith, ap length (begins bytes (codes "/*") h))
