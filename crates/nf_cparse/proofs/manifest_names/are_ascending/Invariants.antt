use Rattle.std.proofs.Common.{◌≡◌, length}
use Rattle.nf_cparse.specs.inner.ManifestParts.{ascend}
use Rattle.nf_cparse.proofs.manifest_names.are_ascending.Given as goal

abbrev pub invariant-texts : goal.invariant-texts
invariant-texts l = ascend l.texts ≡ ascend l.initial.texts

abbrev pub decreases-texts : goal.decreases-texts
decreases-texts l = length l.texts
