use Rattle.std.proofs.Common.{◌≡◌, map, take}
use Rattle.nf_core.specs.inner.Numbered.{members_seen}
use Rattle.nf_core.specs.Written.{entry_of}
use Rattle.nf_core.proofs.numbered_rules.numbered_map.Given as goal

-- the entries so far
abbrev pub invariant-loop-entry : goal.invariant-loop-entry
invariant-loop-entry l = l.list ≡ map (entry_of l.keys (members_seen l.members)) (take l.entry-index l.entry-items)
