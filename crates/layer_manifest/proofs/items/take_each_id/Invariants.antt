use Rattle.std.proofs.Common.{◌≡◌, []}
use Rattle.table_descriptors.specs.Fields.{read_items}
use Rattle.layer_manifest.specs.ManifestFiles.{read_scope_id}
use Rattle.layer_manifest.proofs.items.take_each_id.Given as goal

abbrev pub invariant-ids : goal.invariant-ids
invariant-ids l = read_items read_scope_id l.wanted l.ids.items l.left ≡ read_items read_scope_id l.count [] l.b

abbrev pub decreases-ids : goal.decreases-ids
decreases-ids l = l.wanted
