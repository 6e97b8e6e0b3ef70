use Rattle.layer_manifest.specs.declared.manifest.Manifest.{Manifest}
use Rattle.layer_manifest.specs.Manifests.{IsProperManifest}
use Rattle.layer_model.specs.declared.names.LayerName.{LayerName}
use Rattle.stored_chunks.proofs.StoredParts.{all-at}
use Rattle.stored_chunks.proofs.parts.stored_parts.Goals as goal

pub part_of-requires : goal.part_of-requires
part_of-requires c = all-at (λ (entry : LayerName × Manifest). IsProperManifest entry.1) _ _ _ c.counted_layers-counted.ensures.proper c.loop-entry-test.true c.entry-item.is
