use Rattle.chunk_file.proofs.FaultLaws.{faults-first}
use Rattle.chunk_file.proofs.laws.faults_are_first.Goals as goal

pub returns : goal.returns
returns c = faults-first
