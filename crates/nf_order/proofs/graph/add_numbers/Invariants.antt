use Rattle.std.proofs.Common.{◌≡◌, ◌-◌, ◌≤◌, ◌++◌, length, drop, map}
use Rattle.nf_core.specs.Trees.{atoms_of}
use Rattle.nf_core.specs.Written.{names_read, place_of}
use Rattle.nf_order.proofs.graph.add_numbers.Given as goal

-- the numbers so far, and then those that are left
abbrev pub invariant-loop-atom : goal.invariant-loop-atom
invariant-loop-atom l = record {
  within : l.place ≤ length (atoms_of l.rule.body);
  rest : l.numbers ++ map (place_of l.names) (drop l.place (names_read l.rule.body)) ≡ l.fn.numbers ++ map (place_of l.names) (names_read l.rule.body);
}

abbrev pub decreases-loop-atom : goal.decreases-loop-atom
decreases-loop-atom l = length (atoms_of l.rule.body) - l.place
