use Rattle.layer_merge.proofs.JoinLaws.{joins-direct}
use Rattle.layer_merge.proofs.laws.joins_are_direct.Goals as goal

pub returns : goal.returns
returns c = joins-direct
