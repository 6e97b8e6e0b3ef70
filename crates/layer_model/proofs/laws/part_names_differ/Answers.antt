use Rattle.layer_model.proofs.LayerLaws.{name_apart}
use Rattle.layer_model.proofs.laws.part_names_differ.Goals as goal

pub returns : goal.returns
returns c = name_apart
