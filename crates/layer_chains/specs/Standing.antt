-- Layers that stand on a disk: each has the name and the manifest of its record, and its chunks are there.
use Rattle.std.specs.Prelude.{◌≡◌, ℕ, ◌<◌, List, [], ◌∷◌, length}
use Rattle.history_model.specs.Histories.{Table}
use Rattle.history_model.specs.Layers.{LayerRecord}
use Rattle.outside_world.specs.Objects.{Objects}
use Rattle.layer_manifest.specs.declared.manifest.Manifest.{Manifest}
use Rattle.layer_model.specs.declared.names.LayerName.{LayerName}
use Rattle.layer_model.specs.declared.names.Part.TheVariants.{Chunk}
use Rattle.layer_model.specs.Layers.{Holds}
use Rattle.layer_objects.specs.Objects.{manifest_of, name_of_record, objects_of}
use Rattle.layer_objects.specs.Storable.{MayBeWritten}

-- the layer of a record over the tables of its cluster, in the version that the record says
pub record IsStandingLayer (tables : List Table) (objects : Objects) (r : LayerRecord) (entry : LayerName × Manifest) : Type 0 where
  pub name : entry.0 ≡ name_of_record r
  pub manifest : entry.1 ≡ manifest_of tables r
  pub may : MayBeWritten tables r
  pub chunks : (i : ℕ) → i < length (objects_of tables r).chunks → Holds (objects_of tables r) (Chunk i) objects

-- one for each record
abbrev pub AreStandingLayers : List Table → Objects → List LayerRecord → List (LayerName × Manifest) → Type 0
AreStandingLayers tables objects [] [] = Unit {0}
AreStandingLayers tables objects [] (entry ∷ layers) = ⊥
AreStandingLayers tables objects (r ∷ rs) [] = ⊥
AreStandingLayers tables objects (r ∷ rs) (entry ∷ layers) = IsStandingLayer tables objects r entry × AreStandingLayers tables objects rs layers
