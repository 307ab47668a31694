-- The words of an expression spell it.
use Rattle.std.proofs.Common.{◌≡◌, ℕ, pos, negsuc, zero, suc, ◌+◌, ◌^◌, ◌≤◌, ◌<◌, true, false, List, ◌∷◌, refl, subst, arith, codes, decimal}
use Rattle.std.proofs.lemmas.Int.{ints}
use Rattle.std.specs.Prelude as prelude
use Rattle.std.specs.Prelude.{◌≤ℤ◌}
use Rattle.std.specs.Str.Parse.{digits_value}
use Rattle.std.proofs.lemmas.Fmt.{decimal_is_IsNumeral}
use Rattle.nf_core.specs.Texts.{int_greatest}
use Rattle.nf_core.specs.Trees.{Tree, Bool, Int, Text, Start, Stop, Key, Neg, Not, Bin, expr_of, level, op_level, operators, opened, open_parens, left_in_parens, right_in_parens, operand_in_parens, IsWrittenTree}
use Rattle.nf_core.specs.declared.trees.Expr.{Expr}
use Rattle.nf_core.specs.declared.trees.Expr.TheVariants as e
use Rattle.nf_lex.specs.Words.{quoted}
use Rattle.nf_lex.proofs.Public.QuotedTextLemmas.{body_of_quoted}
use Rattle.nf_lex.specs.declared.token.TokenKind.TheVariants as kind
use Rattle.nf_grammar.specs.State.{state}
use Rattle.nf_parse.specs.State.{Word, sym_of}
use Rattle.nf_parse.specs.Grammar.{Production, primary, paren}
use Rattle.nf_parse.proofs.Public.WordLemmas.{Counted}
use Rattle.nf_parse.proofs.Public.ProductionLemmas.{unary_minus, unary_bang, primary_number, primary_text, primary_true, primary_false, primary_key, primary_start, primary_stop, primary_paren}
use Rattle.nf_print.proofs.WordFrontLemmas.{name, keyword, mark, between, expression_words}
use Rattle.nf_core.specs.Spelling.{mark_of}
use Rattle.nf_print.proofs.LevelPartLemmas.{one_word, left_small, Part, loosest, left_level, left_free, right_free, operand_free, level_small, bin_part, paren_part}

-- a number is what its decimal is read as
pub decimal_value : (n : ℕ) → n < 2 ^ 63 → digits_value 10 (decimal n) ≡ n
decimal_value n h = (decimal_is_IsNumeral n (omega arith)).1

pub small_number : (n : ℕ) → pos n ≤ℤ int_greatest → n < 2 ^ 63
small_number n h = omega (arith, ints, h)

-- with so many parentheses and operators at hand, the words of a tree are a word of its level
abbrev pub IsSpelled : Tree → Type 0
IsSpelled y = (d n m : ℕ) (rest : List Word) → open_parens y ≤ d → n ≡ operators y + m → (Part (paren d) (level y)).word (state n (expression_words y rest)) (expr_of y) (state m rest)

-- an operand, in parentheses or not, is a word of each level that it has to have without parentheses
pub operand : (b : prelude.Bool) (need : ℕ) (y : Tree) → IsSpelled y → need ≤ 7 → (b ≡ false → need ≤ level y)
    → (d n m : ℕ) (rest : List Word) → opened b (open_parens y) ≤ d → n ≡ operators y + m → (Part (paren d) need).word (state n (between b (expression_words y) rest)) (expr_of y) (state m rest)
operand false need y h l f d n m rest o c = loosest (paren d) (state n (expression_words y rest)) (state m rest) (expr_of y) need (level y) (f refl) (h d n m rest o c)
operand true need y h l f zero n m rest o c = absurd (omega (arith, o))
operand true need y h l f (suc d) n m rest o c =
    let inside = h d n m (mark (codes ")") ∷ rest) (omega (arith, o)) c in
    let whole = loosest (paren d) (state n (expression_words y (mark (codes ")") ∷ rest))) (state m (mark (codes ")") ∷ rest)) (expr_of y) 0 (level y) (omega arith) inside in
    loosest (paren (suc d)) (state n (between true (expression_words y) rest)) (state m rest) (expr_of y) need 7 l
    (primary_paren (paren (suc d)) _ _ _ (paren_part d n m (expression_words y (mark (codes ")") ∷ rest)) rest (expr_of y) whole))

abbrev one_operator : (n m : ℕ) (bytes : List ℕ) (rest : List Word) → n ≡ suc m → Counted (state n (mark bytes ∷ rest)) (state m rest)
one_operator n m bytes rest c = record { token = mark bytes; words = refl; room = c }

abbrev P : ℕ → Production Expr
P d = paren d

pub spelled : (y : Tree) → IsWrittenTree y → IsSpelled y
unfolding expression_words level operators open_parens IsWrittenTree sym_of
spelled (Bool true) w d n m rest o c = primary_true (P d) _ _ _ (one_word kind.Keyword n m (codes "true") rest (omega (arith, c)))
spelled (Bool false) w d n m rest o c = primary_false (P d) _ _ _ (one_word kind.Keyword n m (codes "false") rest (omega (arith, c)))
spelled (Int (pos k)) w d n m rest o c =
    let v = decimal_value k (small_number k w.1) in
    subst (λ j. (primary (P d)).word (state n (expression_words (Int (pos k)) rest)) (e.Int (pos j)) (state m rest)) v (primary_number (P d) _ _ _ (one_word kind.Number n m (decimal k) rest (omega (arith, c))))
spelled (Int (negsuc k)) w d n m rest o c = absurd (omega (arith, ints, w.0))
spelled (Text t) w d n m rest o c =
    subst (λ bytes. (primary (P d)).word (state n (expression_words (Text t) rest)) (e.Text bytes) (state m rest)) (body_of_quoted t) (primary_text (P d) _ _ _ (one_word kind.Text n m (quoted t) rest (omega (arith, c))))
spelled (Start label) w d n m rest o c =
    primary_start (P d) _ _ _ _ _ _ _ (one_word kind.Ident n n label (mark (codes ".") ∷ keyword (codes "begin") ∷ rest) refl) (one_word kind.Mark n n (codes ".") (keyword (codes "begin") ∷ rest) refl) (one_word kind.Keyword n m (codes "begin") rest (omega (arith, c)))
spelled (Stop label) w d n m rest o c =
    primary_stop (P d) _ _ _ _ _ _ _ (one_word kind.Ident n n label (mark (codes ".") ∷ keyword (codes "end") ∷ rest) refl) (one_word kind.Mark n n (codes ".") (keyword (codes "end") ∷ rest) refl) (one_word kind.Keyword n m (codes "end") rest (omega (arith, c)))
spelled (Key label k) w d n m rest o c =
    primary_key (P d) _ _ _ _ _ _ _ (one_word kind.Ident n n label (mark (codes ".") ∷ name k ∷ rest) refl) (one_word kind.Mark n n (codes ".") (name k ∷ rest) refl) (one_word kind.Ident n m k rest (omega (arith, c)))
spelled (Neg a) w d n m rest o c =
    unary_minus (primary (P d)) _ _ _ _ (one_operator n (operators a + m) (codes "-") (between (operand_in_parens a) (expression_words a) rest) (omega (arith, c))) refl
    (operand (operand_in_parens a) 6 a (spelled a w) (omega arith) (operand_free (level a) 6) d (operators a + m) m rest o refl)
spelled (Not a) w d n m rest o c =
    unary_bang (primary (P d)) _ _ _ _ (one_operator n (operators a + m) (codes "!") (between (operand_in_parens a) (expression_words a) rest) (omega (arith, c))) refl
    (operand (operand_in_parens a) 6 a (spelled a w) (omega arith) (operand_free (level a) 6) d (operators a + m) m rest o refl)
spelled (Bin op a b) w d n m rest o c =
    let behind = mark (mark_of op) ∷ between (right_in_parens op b) (expression_words b) rest in
    bin_part (P d) op (state n (between (left_in_parens op a) (expression_words a) behind)) (state (suc (operators b + m)) behind) (state (operators b + m) (between (right_in_parens op b) (expression_words b) rest)) (state m rest) (expr_of a) (expr_of b)
    (operand (left_in_parens op a) (left_level (op_level op)) a (spelled a w.0) (left_small (op_level op) (level_small op)) (left_free (level a) (op_level op)) d n (suc (operators b + m)) behind (omega (arith, o)) (omega (arith, c)))
    (one_operator (suc (operators b + m)) (operators b + m) (mark_of op) (between (right_in_parens op b) (expression_words b) rest) refl) refl
    (operand (right_in_parens op b) (suc (op_level op)) b (spelled b w.1) (omega (arith, level_small op)) (right_free (level b) (op_level op)) d (operators b + m) m rest (omega (arith, o)) refl)
