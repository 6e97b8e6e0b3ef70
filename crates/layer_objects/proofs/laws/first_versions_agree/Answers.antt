use Rattle.layer_objects.proofs.Writable.{versions-agree}
use Rattle.layer_objects.proofs.laws.first_versions_agree.Goals as goal

pub returns : goal.returns
returns c = versions-agree
