use Rattle.std.proofs.Common.{◌≡◌, ◌≤◌, []}
use Rattle.table_descriptors.specs.Fields.{read_items}
use Rattle.layer_manifest.specs.Manifests.{chunk_count}
use Rattle.layer_manifest.specs.ManifestFiles.{read_table}
use Rattle.layer_manifest.proofs.tables.take_each_table.Given as goal

abbrev pub invariant-tables : goal.invariant-tables
invariant-tables l = record {
  read : read_items (read_table l.version) l.wanted l.tables.items l.left ≡ read_items (read_table l.version) l.count [] l.b;
  counted : l.so_far ≡ chunk_count l.tables.items;
  few : l.so_far ≤ 1000000;
}

abbrev pub decreases-tables : goal.decreases-tables
decreases-tables l = l.wanted
