-- Layers with their manifests.
use Rattle.std.specs.Prelude.{List}
use Rattle.std.specs.List.{AllByRecursion}
use Rattle.layer_manifest.specs.declared.manifest.Manifest.{Manifest}
use Rattle.layer_manifest.specs.Manifests.{IsProperManifest}
use Rattle.layer_model.specs.declared.names.LayerName.{LayerName}

abbrev pub AreProperLayers : List (LayerName × Manifest) → Type 0
AreProperLayers layers = AllByRecursion (λ (entry : LayerName × Manifest). IsProperManifest entry.1) layers
