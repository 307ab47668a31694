-- How the demands of a clause are collected.
use Rattle.std.specs.Prelude.{List, ◌++◌, option_to_list}
use Rattle.nf_core.specs.declared.operators.BinOp.TheVariants as op
use Rattle.nf_core.specs.declared.terms.Term as term
use Rattle.nf_core.specs.declared.terms.Term.TheOpen as node
use Rattle.nf_demands.specs.declared.clauses.Demand as demand
use Rattle.nf_demands.specs.Demands.{demand_of, demands_of}

-- the demands of an expression with this node at its top
unfoldable pub demands_at : node.Term-F term.Term → term.Term → List demand.Demand
demands_at (node.Bin op.And a b) t = demands_of a ++ demands_of b
demands_at n t = option_to_list (demand_of t)
