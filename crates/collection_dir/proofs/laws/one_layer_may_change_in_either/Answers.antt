use Rattle.collection_dir.proofs.StandsLaws.{law-in-either}
use Rattle.collection_dir.proofs.laws.one_layer_may_change_in_either.Goals as goal

pub returns : goal.returns
returns c = law-in-either
