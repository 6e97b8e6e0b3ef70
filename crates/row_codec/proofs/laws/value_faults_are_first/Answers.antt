use Rattle.row_codec.proofs.KeyFaults.{value_faults-first}
use Rattle.row_codec.proofs.laws.value_faults_are_first.Goals as goal

pub returns : goal.returns
returns c = value_faults-first
