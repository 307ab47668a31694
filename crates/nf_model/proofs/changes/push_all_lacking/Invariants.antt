use Rattle.std.proofs.Common.{◌≡◌, ◌++◌}
use Rattle.nf_model.specs.Changes.{named, lacking}
use Rattle.nf_model.proofs.changes.push_all_lacking.Given as goal

-- the list so far, followed by what is lacking of what is left
abbrev pub invariant-loop-member : goal.invariant-loop-member
invariant-loop-member l = l.out ++ named l.name (lacking l.member-iterator l.others) ≡ l.fn.out ++ named l.name (lacking l.members l.others)
