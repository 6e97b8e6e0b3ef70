use Rattle.layer_objects.proofs.Final.{past-then}
use Rattle.layer_objects.proofs.laws.past_chains.Goals as goal

pub returns : goal.returns
returns c = past-then
