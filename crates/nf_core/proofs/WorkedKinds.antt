-- Kinds, reads and operators of expressions computed on worked cases. What is expected was worked out by hand from the rules.
use Rattle.std.specs.Prelude.{◌≡◌, ℕ, pos, true, false, List, [], ◌∷◌, map, Some, None, codes}
use mathlib.Core.Path.{sym, ap, ◌∙◌}
use Rattle.nf_core.specs.Expressions.{reads_within, reads_within_node, operators_of, operators_of_node}
use Rattle.nf_core.specs.Kinds.{Number, Truth, Text, Any, kind_of_term, kind_of_node, kind_of_negated, kind_of_inverted, kind_of_binary}
use Rattle.nf_core.specs.declared.operators.BinOp.TheVariants as op
use Rattle.nf_core.specs.declared.terms.Term.{Term, Term-F, fold-Term, fold-roll-Term}
use Rattle.nf_core.specs.declared.terms.Term.TheOpen as n
use Rattle.nf_core.specs.declared.terms.Term.TheVariants as t
use Rattle.nf_core.proofs.Public.WorkedDefinitions.{terms}

fold_Text : (A : Type 0) (step : Term-F A → A) (text : List ℕ) → fold-Term A step (t.Text text) ≡ step (n.Text text)
fold_Text A step text = ap (fold-Term A step) (sym (t.rolls-Text text)) ∙ fold-roll-Term A step (n.Text text)

abbrev key : Term
key = t.Key 0 0

abbrev one : Term
one = t.Int (pos 1)

abbrev text : Term
text = t.Text (codes "x")

-- `true`, `1`, `"x"`, `a.k`, `a.end - b.begin`, `a.k + b.k`, `-a.k`, `a.k < 1`, `a.k & !a.k`, `"x" = 1`, `a.k != a.k`
kinds : map kind_of_term (t.Bool true ∷ one ∷ text ∷ key ∷ t.Bin op.Sub (t.Stop 0) (t.Start 1) ∷ t.Bin op.Add key (t.Key 1 0) ∷ t.Neg key ∷ t.Bin op.Lt key one ∷ t.Bin op.And key (t.Not key) ∷ t.Bin op.Eq text one ∷ t.Bin op.Ne key key ∷ [])
    ≡ Some Truth ∷ Some Number ∷ Some Text ∷ Some Any ∷ Some Number ∷ Some Number ∷ Some Number ∷ Some Truth ∷ Some Truth ∷ Some Truth ∷ Some Truth ∷ []
unfolding kind_of_term kind_of_node kind_of_negated kind_of_inverted kind_of_binary
kinds = simp (terms, fold_Text)

-- `a.k + "x"`, `(a.k + "x") > 1`, `-true`, `!1`, `1 | true`, `true < true`, `"x" <= "x"`, `true % 1`, `(1 & true) = 2`
no_kinds : map kind_of_term (t.Bin op.Add key text ∷ t.Bin op.Gt (t.Bin op.Add key text) one ∷ t.Neg (t.Bool true) ∷ t.Not one ∷ t.Bin op.Or one (t.Bool true) ∷ t.Bin op.Lt (t.Bool true) (t.Bool true) ∷ t.Bin op.Le text text ∷ t.Bin op.Rem (t.Bool true) one ∷ t.Bin op.Eq (t.Bin op.And one (t.Bool true)) one ∷ [])
    ≡ None ∷ None ∷ None ∷ None ∷ None ∷ None ∷ None ∷ None ∷ None ∷ []
unfolding kind_of_term kind_of_node kind_of_negated kind_of_inverted kind_of_binary
no_kinds = simp (terms, fold_Text)

-- one member with two keys: its times, its first, its second and its third key, a second member's begin and first key
one_member : map (reads_within (2 ∷ [])) (t.Bin op.Sub (t.Stop 0) (t.Start 0) ∷ t.Key 0 0 ∷ t.Key 0 1 ∷ t.Key 0 2 ∷ t.Start 1 ∷ t.Key 1 0 ∷ []) ≡ true ∷ true ∷ true ∷ false ∷ false ∷ false ∷ []
unfolding reads_within reads_within_node
one_member = simp terms

-- two members, the second with one key: its end, its first and its second key, a third member's end and first key, operands one of which reads too far
two_members : map (reads_within (0 ∷ 1 ∷ [])) (t.Stop 1 ∷ t.Key 1 0 ∷ t.Key 1 1 ∷ t.Stop 2 ∷ t.Key 2 0 ∷ t.Bin op.Eq (t.Key 1 0) (t.Key 0 0) ∷ t.Not (t.Key 0 0) ∷ []) ≡ true ∷ true ∷ false ∷ false ∷ false ∷ false ∷ false ∷ []
unfolding reads_within reads_within_node
two_members = simp terms

-- `1`, `!a.k`, `!a.k & (1 < -a.k)`
counts : map operators_of (one ∷ t.Not key ∷ t.Bin op.And (t.Not key) (t.Bin op.Lt one (t.Neg key)) ∷ []) ≡ 0 ∷ 1 ∷ 4 ∷ []
unfolding operators_of operators_of_node
counts = simp terms
