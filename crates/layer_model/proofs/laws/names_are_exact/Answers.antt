use Rattle.layer_model.proofs.NameLaws.{names-exact}
use Rattle.layer_model.proofs.laws.names_are_exact.Goals as goal

pub returns : goal.returns
returns c = names-exact
