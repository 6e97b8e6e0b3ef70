use Rattle.layer_objects.proofs.Writable.{manifests-tell}
use Rattle.layer_objects.proofs.laws.manifests_tell.Goals as goal

pub returns : goal.returns
returns c = manifests-tell
