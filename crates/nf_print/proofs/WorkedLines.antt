-- The definitions computed on worked cases. What is expected was worked out by hand from the rules.
use Rattle.std.specs.Prelude.{◌≡◌, refl, ℕ, pos, true, false, [], ◌∷◌, map, codes}
use Rattle.std.proofs.Common.{arith, decimal, lit<}
use Rattle.std.proofs.lemmas.Fmt.{decimal_digit, decimal-digits_value}
use Rattle.nf_lemmas.proofs.DigitLemmas.{digits_model}
use Rattle.nf_core.specs.Trees as t
use Rattle.nf_core.specs.Trees.{Tree, level, op_level}
use Rattle.nf_core.specs.declared.operators.BinOp.TheVariants as op
pub use Rattle.nf_core.proofs.Public.TreeLemmas.{tree_Bool, tree_Int, tree_Text, tree_Start, tree_Stop, tree_Key, tree_Neg, tree_Not, tree_Bin}
use Rattle.nf_print.proofs.WorkedRules.{filtered_rule, whole_rule, pair_rule}
use Rattle.nf_core.specs.Spelling.{mark_of, word_of_op, word_of_xop}
use Rattle.nf_print.specs.Canonical.{canonical, expression_text, minus_before, body_text}

pub digit_0 : decimal 0 ≡ codes "0"
digit_0 = decimal_digit 0 (omega arith)

pub digit_1 : decimal 1 ≡ codes "1"
digit_1 = decimal_digit 1 (omega arith)

pub digit_2 : decimal 2 ≡ codes "2"
digit_2 = decimal_digit 2 (omega arith)

pub digit_3 : decimal 3 ≡ codes "3"
digit_3 = decimal_digit 3 (omega arith)

pub digit_4 : decimal 4 ≡ codes "4"
digit_4 = decimal_digit 4 (omega arith)

pub digit_5 : decimal 5 ≡ codes "5"
digit_5 = decimal_digit 5 (omega arith)

pub greatest : decimal 9223372036854775807 ≡ codes "9223372036854775807"
greatest = decimal-digits_value digits_model (codes "9223372036854775807") refl (omega arith) (λ e. absurd (omega (arith, e))) (lit< tt)

pub ruleset shown = (tree_Bool, tree_Int, tree_Text, tree_Start, tree_Stop, tree_Key, tree_Neg, tree_Not, tree_Bin, digit_0, digit_1, digit_2, digit_3, digit_4, digit_5, greatest)

-- `w:-x:a where !(x.k&x.j)|1-(2-3)< - -x.n`
filtered_line : canonical filtered_rule ≡ codes "w :- x:a where !(x.k & x.j) | 1 - (2 - 3) < - -x.n\n"
unfolding canonical body_text expression_text minus_before mark_of level op_level
filtered_line = simp shown refl

-- all clauses
whole_line : canonical whole_rule ≡ codes "h :- a unless contain b:a where true map { k -> a.k, j -> 9223372036854775807 } begin a.begin end a.end + 0\n"
unfolding canonical body_text expression_text minus_before mark_of level op_level word_of_xop
whole_line = simp shown refl

-- no clause
pair_line : canonical pair_rule ≡ codes "h :- a before b\n"
unfolding canonical body_text word_of_op
pair_line = refl

-- ---- expressions
abbrev a : Tree
a = t.Key (codes "a") (codes "k")

abbrev n : ℕ → Tree
n k = t.Int (pos k)

-- `-` and `!` in front of each other, of the others, and of parentheses
unary : map expression_text (t.Neg (t.Neg a) ∷ t.Neg (t.Neg (t.Neg a)) ∷ t.Neg (t.Not a) ∷ t.Not (t.Neg a) ∷ t.Not (t.Not a) ∷ t.Neg (n 0) ∷ t.Neg (t.Bin op.Mul a (n 2)) ∷ t.Not (t.Bin op.Eq a a) ∷ t.Neg (t.Neg (t.Bin op.Add a a)) ∷ [])
    ≡ codes "- -a.k" ∷ codes "- - -a.k" ∷ codes "-!a.k" ∷ codes "!-a.k" ∷ codes "!!a.k" ∷ codes "-0" ∷ codes "-(a.k * 2)" ∷ codes "!(a.k = a.k)" ∷ codes "- -(a.k + a.k)" ∷ []
unfolding expression_text minus_before mark_of level op_level
unary = simp shown refl

-- equal levels stand in parentheses on the right only, comparisons on both sides
equal_levels : map expression_text (t.Bin op.Sub (t.Bin op.Sub (n 1) (n 2)) (n 3) ∷ t.Bin op.Sub (n 1) (t.Bin op.Add (n 2) (n 3)) ∷ t.Bin op.Div (t.Bin op.Mul (n 1) (n 2)) (t.Bin op.Rem (n 3) (n 4)) ∷ t.Bin op.And (t.Bin op.And a a) (t.Bin op.And a a)
    ∷ t.Bin op.Or (t.Bin op.Or a a) (t.Bin op.Or a a) ∷ t.Bin op.Lt (t.Bin op.Lt (n 1) (n 2)) (n 3) ∷ t.Bin op.Ne (n 1) (t.Bin op.Ge (n 2) (n 3)) ∷ [])
    ≡ codes "1 - 2 - 3" ∷ codes "1 - (2 + 3)" ∷ codes "1 * 2 / (3 % 4)" ∷ codes "a.k & a.k & (a.k & a.k)" ∷ codes "a.k | a.k | (a.k | a.k)" ∷ codes "(1 < 2) < 3" ∷ codes "1 != (2 >= 3)" ∷ []
unfolding expression_text mark_of level op_level
equal_levels = simp shown refl

-- looser operands stand in parentheses, tighter ones don't
other_levels : map expression_text (t.Bin op.Mul (t.Bin op.Add (n 1) (n 2)) (t.Bin op.Sub (n 3) (n 4)) ∷ t.Bin op.Add (t.Bin op.Mul (n 1) (n 2)) (t.Bin op.Div (n 3) (n 4)) ∷ t.Bin op.Or (t.Bin op.And a a) (t.Bin op.Le a a) ∷ t.Bin op.And (t.Bin op.Or a a) (t.Bin op.Gt a a)
    ∷ t.Bin op.Mul (t.Neg (n 1)) (t.Neg (n 2)) ∷ t.Bin op.Sub (n 1) (t.Neg (n 2)) ∷ [])
    ≡ codes "(1 + 2) * (3 - 4)" ∷ codes "1 * 2 + 3 / 4" ∷ codes "a.k & a.k | a.k <= a.k" ∷ codes "(a.k | a.k) & a.k > a.k" ∷ codes "-1 * -2" ∷ codes "1 - -2" ∷ []
unfolding expression_text minus_before mark_of level op_level
other_levels = simp shown refl

-- literals and reads
single : map expression_text (t.Bool true ∷ t.Bool false ∷ n 0 ∷ n 9223372036854775807 ∷ t.Text [] ∷ t.Text (codes "a b") ∷ t.Start (codes "x") ∷ t.Stop (codes "x") ∷ t.Key (codes "x") (codes "y") ∷ [])
    ≡ codes "true" ∷ codes "false" ∷ codes "0" ∷ codes "9223372036854775807" ∷ codes "\"\"" ∷ codes "\"a b\"" ∷ codes "x.begin" ∷ codes "x.end" ∷ codes "x.y" ∷ []
unfolding expression_text
single = simp shown refl
