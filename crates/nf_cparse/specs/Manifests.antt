-- The manifest of a C text.
use Rattle.std.specs.Prelude.{◌≡◌, ℕ, List, ◌++◌}
use Rattle.nf_cast.specs.declared.manifests.CManifest.{CManifest}
use Rattle.nf_cast.specs.Program.{IsManifest}
use Rattle.nf_cast.specs.Text.{manifest_text}

-- a source begins with the text of a manifest, and this stands behind it; the manifest has the form of one
pub record BeginsWith (source : List ℕ) (m : CManifest) (rest : List ℕ) : Type 0 where
  pub text : source ≡ manifest_text m ++ rest
  pub form : IsManifest m
