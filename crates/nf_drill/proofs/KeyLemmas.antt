-- The names of the six rules, and the keys of each.
use Rattle.std.proofs.Common.{◌≡◌, ℕ, pos, cond, List, [], ◌∷◌, ◌++◌, refl, ap, ◌∙◌, sym}
use Rattle.std.specs.Prelude.{codes, bytes_eq}
use Rattle.nf_core.specs.Written.{names_of, keys_of_name, keys_read, keys_at_node, ascending}
use Rattle.nf_core.specs.declared.operators.BinOp.TheVariants as operator
use Rattle.nf_core.specs.declared.trees.Expr.{Expr, fold-roll-Expr}
use Rattle.nf_core.specs.declared.trees.Expr.TheOpen as x
use Rattle.nf_core.specs.declared.trees.Expr.TheVariants as e
use Rattle.nf_drill.specs.Rules.{drill_rules}

-- ---- keys that an expression reads
key_read : (label own key : List ℕ) → keys_read label (e.Key own key) ≡ cond (bytes_eq own label) (key ∷ []) []
unfolding keys_read keys_at_node
key_read label own key = ap (keys_read label) (sym (e.rolls-Key own key)) ∙ fold-roll-Expr (List (List ℕ)) (keys_at_node label) (x.Key own key)

start_read : (label own : List ℕ) → keys_read label (e.Start own) ≡ []
unfolding keys_read keys_at_node
start_read label own = ap (keys_read label) (sym (e.rolls-Start own)) ∙ fold-roll-Expr (List (List ℕ)) (keys_at_node label) (x.Start own)

number_read : (label : List ℕ) → keys_read label (e.Int (pos 4)) ≡ []
unfolding keys_read keys_at_node
number_read label = ap (keys_read label) (sym (e.rolls-Int (pos 4))) ∙ fold-roll-Expr (List (List ℕ)) (keys_at_node label) (x.Int (pos 4))

sum_read : (label : List ℕ) (a b : Expr) → keys_read label (e.Bin operator.Add a b) ≡ (keys_read label a ++ keys_read label b)
unfolding keys_read keys_at_node
sum_read label a b = ap (keys_read label) (sym (e.rolls-Bin operator.Add a b)) ∙ fold-roll-Expr (List (List ℕ)) (keys_at_node label) (x.Bin operator.Add a b)

-- ---- names and keys
pub own_names : names_of drill_rules
    ≡ codes "pair" ∷ codes "a" ∷ codes "b" ∷ codes "lone" ∷ codes "c" ∷ codes "reach" ∷ codes "hit" ∷ codes "d" ∷ codes "calm" ∷ []
unfolding Rattle.nf_core.specs.Identifiers.is_wide_name
own_names = refl

end_read : keys_read (codes "a") (e.Bin operator.Add (e.Start (codes "a")) (e.Int (pos 4))) ≡ []
end_read = sum_read (codes "a") (e.Start (codes "a")) (e.Int (pos 4)) ∙ (λ i. start_read (codes "a") (codes "a") i ++ number_read (codes "a") i)

pub keys_of_a : keys_of_name drill_rules (codes "a") ≡ []
keys_of_a = λ i. ascending ((((key_read (codes "a") (codes "b") (codes "k") i ++ []) ++ []) ++ []) ++ ((((end_read i ++ []) ++ []) ++ []) ++ []))

pub keys_of_b : keys_of_name drill_rules (codes "b") ≡ codes "k" ∷ []
keys_of_b = λ i. ascending ((((key_read (codes "b") (codes "b") (codes "k") i ++ []) ++ []) ++ []) ++ [])
