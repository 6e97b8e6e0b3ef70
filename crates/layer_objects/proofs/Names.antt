-- The name and the manifest of a layer's objects.
use Rattle.std.proofs.Common.{◌≡◌, refl, List}
use Rattle.history_model.specs.Histories.{Table}
use Rattle.history_model.specs.Layers.{LayerRecord}
use Rattle.layer_manifest.specs.ManifestFiles.{manifest_code}
use Rattle.layer_objects.specs.Objects.{manifest_of, name_of_record, objects_of}

-- the name is that of the layer's record
pub objects-name : (tables : List Table) (r : LayerRecord) → (objects_of tables r).name ≡ name_of_record r
unfolding objects_of
objects-name tables r = refl

-- the bytes are those of its manifest
pub objects-manifest : (tables : List Table) (r : LayerRecord) → (objects_of tables r).manifest ≡ manifest_code (manifest_of tables r)
unfolding objects_of
objects-manifest tables r = refl
