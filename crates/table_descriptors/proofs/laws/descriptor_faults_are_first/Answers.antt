use Rattle.table_descriptors.proofs.DescriptorWalks.{descriptor_faults-first}
use Rattle.table_descriptors.proofs.laws.descriptor_faults_are_first.Goals as goal

pub returns : goal.returns
returns c = descriptor_faults-first
