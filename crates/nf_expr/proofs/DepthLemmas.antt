-- An expression is at most one deeper than it has operators.
use Rattle.std.proofs.Common.{◌≡◌, ℕ, ◌+◌, ◌≤◌, max, arith, subst}
use Rattle.nf_core.specs.Expressions.{operators_of, operators_of_node}
use Rattle.nf_core.specs.declared.terms.Term.{Term, Term-F, fold-roll-Term, map-Term, roll-Term, ind-Term}
use Rattle.nf_core.specs.declared.terms.Term.TheOpen as node
use Rattle.nf_expr.specs.Depth.{depth_of, depth_of_node}

abbrev Within : Term → Type 0
Within t = depth_of t ≤ operators_of t + 1

depth_rolled : (n : Term-F Term) → depth_of (roll-Term n) ≡ depth_of_node (map-Term Term ℕ depth_of n)
unfolding depth_of
depth_rolled n = fold-roll-Term ℕ depth_of_node n

operators_rolled : (n : Term-F Term) → operators_of (roll-Term n) ≡ operators_of_node (map-Term Term ℕ operators_of n)
unfolding operators_of
operators_rolled n = fold-roll-Term ℕ operators_of_node n

two : (a b m n : ℕ) → a ≤ m + 1 → b ≤ n + 1 → max a b + 1 ≤ m + n + 1 + 1
two a b m n g h = omega arith

-- a node, where each operand is so
node_within : (y : Term-F ((x : Term) × Within x)) → Within (roll-Term (map-Term ((x : Term) × Within x) Term (λ e. e.0) y))
unfolding depth_of_node operators_of_node
node_within (node.Bool b) = rw (depth_rolled, operators_rolled) (omega arith)
node_within (node.Int n) = rw (depth_rolled, operators_rolled) (omega arith)
node_within (node.Text t) = rw (depth_rolled, operators_rolled) (omega arith)
node_within (node.Start m) = rw (depth_rolled, operators_rolled) (omega arith)
node_within (node.Stop m) = rw (depth_rolled, operators_rolled) (omega arith)
node_within (node.Key m place) = rw (depth_rolled, operators_rolled) (omega arith)
node_within (node.Neg a) = rw (depth_rolled, operators_rolled) (omega (arith, a.1))
node_within (node.Not a) = rw (depth_rolled, operators_rolled) (omega (arith, a.1))
node_within (node.Bin o a b) = rw (depth_rolled, operators_rolled) (two _ _ _ _ a.1 b.1)

pub depth_within : (t : Term) → Within t
depth_within = ind-Term Within (λ x y e. subst (λ n. Within (roll-Term n)) e (node_within y))
