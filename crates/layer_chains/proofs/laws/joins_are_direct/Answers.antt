use Rattle.layer_chains.proofs.Joined.{joins-made}
use Rattle.layer_chains.proofs.laws.joins_are_direct.Goals as goal

pub returns : goal.returns
returns c = joins-made
