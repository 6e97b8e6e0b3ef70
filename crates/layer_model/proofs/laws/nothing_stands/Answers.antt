use Rattle.layer_model.proofs.StandsLaws.{empty_stands}
use Rattle.layer_model.proofs.laws.nothing_stands.Goals as goal

pub returns : goal.returns
returns c = empty_stands
