use Rattle.std.proofs.Common.{◌≡◌, ◌+◌, take}
use Rattle.nf_spec.specs.Sources.{specification_limit, total}
use Rattle.nf_spec.proofs.sources.are_too_long.Given as goal

-- the sources before the place leave so much room
abbrev pub invariant-sources : goal.invariant-sources
invariant-sources l = l.room + total (take l.source-index l.sources) ≡ specification_limit
