-- Texts between `"`.
use Rattle.std.proofs.Common.{◌≡◌, ◌≢◌, ℕ, suc, ◌+◌, ◌-◌, true, List, [], ◌∷◌, ◌++◌, All, length, take, refl, sym, ap, ◌∙◌, arith}
use Rattle.std.specs.List.{position_or_len, AllByRecursion}
use Rattle.std.proofs.lemmas.List.{length-append}
use Rattle.std.proofs.lemmas.List.Elements.{recursion_from_All}
use Rattle.std.proofs.Math.Seq.{take-append_seam}
use borrow.Author.Tests.{eq-eqb, ne_eqb}
use Rattle.nf_lex.specs.Bytes.{is_quote}
use Rattle.nf_lex.specs.Words.{is_text, quoted}
use Rattle.nf_lex.specs.Faults.{body_of}

one_more : (n : ℕ) → suc n ≡ 1 + n
one_more n = omega arith

first_after : (xs : List ℕ) → AllByRecursion (λ byte. byte ≢ 34) xs → position_or_len is_quote (xs ++ 34 ∷ []) ≡ length xs
first_after [] h = refl
first_after (x ∷ xs) h = rw (ne_eqb x 34 h.0) (sym (one_more (position_or_len is_quote (xs ++ 34 ∷ []))) ∙ ap suc (first_after xs h.1))

-- a text without `"` is one between them
pub quoted_is_text : (text : List ℕ) → All (λ byte. byte ≢ 34) text → is_text (quoted text) ≡ true
quoted_is_text text h =
    let l = length-append text (34 ∷ []) in
    let first = first_after text (recursion_from_All (λ byte. byte ≢ 34) text h) in
    eq-eqb (position_or_len is_quote (text ++ 34 ∷ []) + 2) (length (quoted text)) (omega (arith, first, l))

-- and it is what stands between them
pub body_of_quoted : (text : List ℕ) → body_of (quoted text) ≡ text
body_of_quoted text =
    let l = length-append text (34 ∷ []) in
    let n : length (quoted text) - 1 - 1 ≡ length text = omega (arith, l) in
    ap (λ m. take m (text ++ 34 ∷ [])) n ∙ take-append_seam text (34 ∷ [])
