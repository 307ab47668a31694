use Rattle.nf_order.proofs.GraphLemmas.{IsGraph-graph_of}
use Rattle.nf_order.proofs.graph.Graph.of.Goals as goal

pub invariant_of-result : goal.invariant_of-result
invariant_of-result c = rw (c.in_ok-below.ensures, c.requires) (IsGraph-graph_of c.args.rules.now)
