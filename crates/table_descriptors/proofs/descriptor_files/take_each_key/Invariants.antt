use Rattle.std.proofs.Common.{◌≡◌, []}
use Rattle.table_descriptors.specs.Fields.{read_items}
use Rattle.table_descriptors.specs.DescriptorFiles.{read_key}
use Rattle.table_descriptors.proofs.descriptor_files.take_each_key.Given as goal

abbrev pub invariant-keys : goal.invariant-keys
invariant-keys l = read_items (read_key l.descends l.columns l.count) l.wanted l.keys.items l.left ≡ read_items (read_key l.descends l.columns l.count) l.count [] l.b

abbrev pub decreases-keys : goal.decreases-keys
decreases-keys l = l.wanted
