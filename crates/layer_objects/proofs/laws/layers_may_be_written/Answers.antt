use Rattle.layer_objects.proofs.Writable.{layers-written}
use Rattle.layer_objects.proofs.laws.layers_may_be_written.Goals as goal

pub returns : goal.returns
returns c = layers-written
