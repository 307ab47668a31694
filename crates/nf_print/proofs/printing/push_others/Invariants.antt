use Rattle.std.proofs.Common.{◌≡◌, ◌++◌, take}
use Rattle.nf_print.specs.Canonical.{others_text}
use Rattle.nf_print.proofs.printing.push_others.Given as goal

abbrev pub invariant-loop-entry : goal.invariant-loop-entry
invariant-loop-entry l = l.lines ≡ l.initial.lines ++ others_text (take l.entry-index l.entries)
