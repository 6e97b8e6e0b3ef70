use Rattle.layer_objects.proofs.Keys.{infos_proper}
use Rattle.layer_objects.proofs.laws.infos_are_proper.Goals as goal

pub returns : goal.returns
returns c = infos_proper
