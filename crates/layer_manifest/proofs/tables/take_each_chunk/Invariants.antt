use Rattle.std.proofs.Common.{◌≡◌, ◌+◌, [], length}
use Rattle.table_descriptors.specs.Fields.{read_items}
use Rattle.layer_manifest.specs.ManifestFiles.{read_chunk}
use Rattle.layer_manifest.proofs.tables.take_each_chunk.Given as goal

abbrev pub invariant-chunks : goal.invariant-chunks
invariant-chunks l = record {
  read : read_items (λ before. read_chunk l.version l.table l.kinds) l.wanted l.chunks.items l.left ≡ read_items (λ before. read_chunk l.version l.table l.kinds) l.count [] l.b;
  all : length l.chunks.items + l.wanted ≡ l.count;
}

abbrev pub decreases-chunks : goal.decreases-chunks
decreases-chunks l = l.wanted
