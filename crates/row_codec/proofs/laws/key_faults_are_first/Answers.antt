use Rattle.row_codec.proofs.KeyFaults.{key_faults-first}
use Rattle.row_codec.proofs.laws.key_faults_are_first.Goals as goal

pub returns : goal.returns
returns c = key_faults-first
