use Rattle.std.proofs.Common.{length}
use Rattle.nf_cparse.specs.inner.ManifestParts.{IsNameAt, IsBehindNames}
use Rattle.nf_cparse.proofs.ListedLemmas.{IsSoFar}
use Rattle.nf_cparse.proofs.manifest_names.names_at.Given as goal

abbrev pub invariant-names : goal.invariant-names
invariant-names l = IsSoFar IsNameAt IsBehindNames l.fn.bytes l.names l.rest

abbrev pub decreases-names : goal.decreases-names
decreases-names l = length l.rest
