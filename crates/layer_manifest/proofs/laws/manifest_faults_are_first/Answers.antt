use Rattle.layer_manifest.proofs.ManifestWalks.{manifest_faults-first}
use Rattle.layer_manifest.proofs.laws.manifest_faults_are_first.Goals as goal

pub returns : goal.returns
returns c = manifest_faults-first
