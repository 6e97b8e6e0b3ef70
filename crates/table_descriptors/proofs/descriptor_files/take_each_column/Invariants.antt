use Rattle.std.proofs.Common.{◌≡◌, []}
use Rattle.table_descriptors.specs.Fields.{read_items}
use Rattle.table_descriptors.specs.DescriptorFiles.{read_column}
use Rattle.table_descriptors.proofs.descriptor_files.take_each_column.Given as goal

abbrev pub invariant-columns : goal.invariant-columns
invariant-columns l = read_items read_column l.wanted l.columns.items l.left ≡ read_items read_column l.count [] l.b

abbrev pub decreases-columns : goal.decreases-columns
decreases-columns l = l.wanted
