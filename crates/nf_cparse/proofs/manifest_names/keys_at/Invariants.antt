use Rattle.std.proofs.Common.{length}
use Rattle.nf_cparse.specs.inner.ManifestParts.{IsKeyAt, IsLineEnd}
use Rattle.nf_cparse.proofs.ListedLemmas.{IsSoFar}
use Rattle.nf_cparse.proofs.manifest_names.keys_at.Given as goal

abbrev pub invariant-keys : goal.invariant-keys
invariant-keys l = IsSoFar IsKeyAt IsLineEnd l.fn.bytes l.keys l.rest

abbrev pub decreases-keys : goal.decreases-keys
decreases-keys l = length l.rest
