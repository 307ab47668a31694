use Rattle.std.proofs.Common.{◌≡◌, ◌-◌, ◌≤◌, length, drop, bytes_eq}
use Rattle.std.specs.List.{list_any}
use Rattle.nf_core.specs.Trees.{atoms_of}
use Rattle.nf_core.specs.Kinds.{labels_of}
use Rattle.nf_typing.proofs.labels.is_label.Given as goal

-- the label is that of an atom where it is that of one which is left
abbrev pub invariant-atoms : goal.invariant-atoms
invariant-atoms l = record {
  within : l.place ≤ length (atoms_of l.rule.body);
  rest : list_any (bytes_eq l.label) (labels_of l.rule.body) ≡ list_any (bytes_eq l.label) (drop l.place (labels_of l.rule.body));
}

abbrev pub decreases-atoms : goal.decreases-atoms
decreases-atoms l = length (atoms_of l.rule.body) - l.place
