use Rattle.std.proofs.Common.{All}
use Rattle.nf_announce.specs.Printed.{IsPrintable}
use Rattle.nf_evaluation_cases.proofs.announcing.items_of.Given as goal

-- all items can be printed
abbrev pub invariant-items : goal.invariant-items
invariant-items l = All IsPrintable l.items
