use Rattle.layer_objects.proofs.Final.{layers-final}
use Rattle.layer_objects.proofs.laws.layers_are_final.Goals as goal

pub returns : goal.returns
returns c = layers-final
