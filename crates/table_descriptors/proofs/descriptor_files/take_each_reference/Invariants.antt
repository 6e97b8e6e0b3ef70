use Rattle.std.proofs.Common.{◌≡◌, []}
use Rattle.table_descriptors.specs.Fields.{read_items}
use Rattle.table_descriptors.specs.DescriptorFiles.{read_reference, IsSetOf}
use Rattle.table_descriptors.proofs.descriptor_files.take_each_reference.Given as goal

abbrev pub invariant-references : goal.invariant-references
invariant-references l = record {
  read : read_items read_reference l.wanted l.references.items l.left ≡ read_items read_reference l.count [] l.b;
  seen : IsSetOf l.seen l.references.items;
}

abbrev pub decreases-references : goal.decreases-references
decreases-references l = l.wanted
