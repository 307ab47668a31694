use Rattle.std.proofs.Common.{length}
use Rattle.nf_cparse.specs.inner.ManifestParts.{IsTextAt, IsManifestEnd}
use Rattle.nf_cparse.proofs.ListedLemmas.{IsSoFar}
use Rattle.nf_cparse.proofs.manifest_texts.texts_at.Given as goal

abbrev pub invariant-texts : goal.invariant-texts
invariant-texts l = IsSoFar IsTextAt IsManifestEnd l.fn.bytes l.texts l.rest

abbrev pub decreases-texts : goal.decreases-texts
decreases-texts l = length l.rest
