-- When a layer is finished already, and when its gate is open over another manifest.
use Rattle.std.specs.Prelude.{◌≡◌, ◌⊎◌, ℕ, List, [], ◌∷◌, Option, Some, option_map}
use Rattle.sha2.specs.Sha256.{sha256}
use Rattle.outside_world.specs.Objects.{Objects, at}
use Rattle.layer_manifest.specs.declared.manifest.Manifest.{Manifest}
use Rattle.layer_manifest.specs.ManifestFiles.{manifest_code}
use Rattle.layer_model.specs.declared.names.LayerName.{LayerName}
use Rattle.layer_model.specs.declared.names.Part.TheVariants as part
use Rattle.layer_model.specs.Names.{object_name}
use Rattle.collection_dir.specs.declared.fault.DirFault.{DirFault}
use Rattle.collection_dir.specs.declared.fault.DirFault.TheVariants.{Failed, Memory, Damaged, Malformed, LayerDiffers}
use Rattle.collection_dir.specs.Versions.{first_version}

-- the gate holds exactly the byte 1
abbrev pub IsGateOpen : LayerName → Objects → Type 0
IsGateOpen layer objects = at objects (object_name layer part.Gate) ≡ Some (1 ∷ [])

-- where the gate is open now and wasn't, the manifest is there in these bytes
abbrev pub OpensOver : LayerName → List ℕ → Objects → Objects → Type 0
OpensOver layer bytes old new = ¬ IsGateOpen layer old → IsGateOpen layer new → at new (object_name layer part.Manifest) ≡ Some bytes

-- where the gate is open still, the manifest is as it was
abbrev pub StaysOver : LayerName → Objects → Objects → Type 0
StaysOver layer old new = IsGateOpen layer new → at new (object_name layer part.Manifest) ≡ at old (object_name layer part.Manifest)

-- what is found are the bytes of the manifest, in version 2 or in version 1
abbrev pub IsManifestOf : Manifest → Option (List ℕ) → Type 0
IsManifestOf m found = (found ≡ Some (manifest_code m)) ⊎ (found ≡ Some (manifest_code (first_version m)))

-- What finishing a layer may answer: the disk's faults, want of memory, or that the manifest there isn't its own. The digest wanted is that of version 2.
abbrev pub IsFinishFault : LayerName → Manifest → DirFault → Type 0
IsFinishFault layer m Failed = Unit {0}
IsFinishFault layer m Memory = Unit {0}
IsFinishFault layer m (LayerDiffers object wanted found) = (object ≡ object_name layer part.Manifest) × (wanted ≡ sha256 (manifest_code m))
IsFinishFault layer m (Damaged object wanted found) = ⊥
IsFinishFault layer m (Malformed object offset) = ⊥

-- It differs only where the gate is open over bytes that are the manifest's in neither version, or over none; the digest found is that of those bytes.
abbrev pub DiffersOnlyOver : LayerName → Manifest → Objects → DirFault → Type 0
DiffersOnlyOver layer m objects (LayerDiffers object wanted found) =
    IsGateOpen layer objects × ¬ IsManifestOf m (at objects (object_name layer part.Manifest)) × (found ≡ option_map sha256 (at objects (object_name layer part.Manifest)))
DiffersOnlyOver layer m objects e = Unit {0}

-- Want of memory, or that what is there are the bytes of the manifest in neither version. The digest wanted is that of version 2.
abbrev pub IsDifference : LayerName → Manifest → Option (List ℕ) → DirFault → Type 0
IsDifference layer m there Memory = Unit {0}
IsDifference layer m there (LayerDiffers object wanted found) =
    (object ≡ object_name layer part.Manifest) × (wanted ≡ sha256 (manifest_code m)) × (¬ IsManifestOf m there) × (found ≡ option_map sha256 there)
IsDifference layer m there Failed = ⊥
IsDifference layer m there (Damaged object wanted found) = ⊥
IsDifference layer m there (Malformed object offset) = ⊥
