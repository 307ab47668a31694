use Rattle.nf_cparse.proofs.ManifestLemmas.{one_manifest}
use Rattle.nf_cparse.proofs.laws.manifest_is_one.Goals as goal

pub returns : goal.returns
returns c = one_manifest
