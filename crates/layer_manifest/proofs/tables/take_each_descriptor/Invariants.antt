use Rattle.std.proofs.Common.{◌≡◌, []}
use Rattle.table_descriptors.specs.Fields.{read_items}
use Rattle.layer_manifest.specs.ManifestFiles.{read_next_descriptor}
use Rattle.layer_manifest.proofs.tables.take_each_descriptor.Given as goal

abbrev pub invariant-descriptors : goal.invariant-descriptors
invariant-descriptors l = read_items (read_next_descriptor l.id) l.wanted l.descriptors.items l.left ≡ read_items (read_next_descriptor l.id) l.count [] l.b

abbrev pub decreases-descriptors : goal.decreases-descriptors
decreases-descriptors l = l.wanted
