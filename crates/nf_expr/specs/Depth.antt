-- How deep expressions are.
use Rattle.std.specs.Prelude.{ℕ, ◌+◌, max}
use Rattle.nf_core.specs.declared.terms.Term as term
use Rattle.nf_core.specs.declared.terms.Term.TheOpen as node
use Rattle.nf_core.specs.declared.terms.Term.TheFolds.{fold-Term}

-- how deep a node is, given how deep its operands are: 1 without operands, else one more than the deepest
unfoldable pub depth_of_node : node.Term-F ℕ → ℕ
depth_of_node (node.Bool b) = 1
depth_of_node (node.Int n) = 1
depth_of_node (node.Text t) = 1
depth_of_node (node.Start m) = 1
depth_of_node (node.Stop m) = 1
depth_of_node (node.Key m place) = 1
depth_of_node (node.Neg a) = a + 1
depth_of_node (node.Not a) = a + 1
depth_of_node (node.Bin op a b) = max a b + 1

-- how deep an expression is: the number of nodes on its longest way down
unfoldable pub depth_of : term.Term → ℕ
depth_of = fold-Term ℕ depth_of_node
