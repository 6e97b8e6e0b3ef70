use Rattle.layer_model.proofs.StandsLaws.{law_of_one_layer}
use Rattle.layer_model.proofs.laws.one_layer_may_change.Goals as goal

pub returns : goal.returns
returns c = law_of_one_layer
