-- What is read of a layer: a chunk by the digest that its manifest tells, and a manifest by the name of its layer.
use Rattle.std.specs.Prelude.{◌≡◌, ◌≢◌, ℕ, Bool, ◌&&◌, ◌==◌, List, Option, Some, None, option_map, Result, Ok, Err, if◌then◌else◌}
use Rattle.std.specs.Str.{bytes_eq}
use Rattle.sha2.specs.Sha256.{sha256}
use Rattle.outside_world.specs.Objects.{Objects, at}
use Rattle.layer_manifest.specs.declared.manifest.Manifest.{Manifest}
use Rattle.layer_manifest.specs.ManifestFiles as files
use Rattle.mvcc_keys.specs.Times.{time_eq}
use Rattle.layer_model.specs.declared.names.LayerName.{LayerName}
use Rattle.layer_model.specs.declared.names.Part.TheVariants as part
use Rattle.layer_model.specs.Names.{object_name}
use Rattle.collection_dir.specs.declared.fault.DirFault.{DirFault}
use Rattle.collection_dir.specs.declared.fault.DirFault.TheVariants.{Failed, Memory, Damaged, Malformed, LayerDiffers}

-- ---- chunks

-- what reading a chunk may answer: the disk's faults, want of memory, or that its digest isn't the one that is wanted
abbrev pub IsChunkFault : LayerName → ℕ → List ℕ → DirFault → Type 0
IsChunkFault layer i digest Failed = Unit {0}
IsChunkFault layer i digest Memory = Unit {0}
IsChunkFault layer i digest (Damaged object wanted found) = (object ≡ object_name layer (part.Chunk i)) × (wanted ≡ digest) × (found ≢ Some digest)
IsChunkFault layer i digest (Malformed object offset) = ⊥
IsChunkFault layer i digest (LayerDiffers object wanted found) = ⊥

-- the digest found is that of the object's bytes, and none where it is absent
abbrev pub DamagedAsHeld : LayerName → ℕ → Objects → DirFault → Type 0
DamagedAsHeld layer i objects (Damaged object wanted found) = found ≡ option_map sha256 (at objects (object_name layer (part.Chunk i)))
DamagedAsHeld layer i objects e = Unit {0}

-- ---- manifests

-- its cluster, job and times are those of the layer's name
abbrev pub is_manifest_of : LayerName → Manifest → Bool
is_manifest_of layer m = bytes_eq m.cluster layer.cluster && (m.job == layer.job) && time_eq m.full layer.full && time_eq m.start layer.start && time_eq m.end layer.end

-- one that reads, but belongs to another name, is malformed at 4, where its first item after the version begins
abbrev pub named_manifest : LayerName → Result Manifest ℕ → Result Manifest ℕ
named_manifest layer (Ok m) = if is_manifest_of layer m then Ok m else Err 4
named_manifest layer (Err offset) = Err offset

-- the manifest of a layer in the bytes that are there, or the place where it is malformed: 0 where there are none
abbrev pub stored_manifest : LayerName → Option (List ℕ) → Result Manifest ℕ
stored_manifest layer None = Err 0
stored_manifest layer (Some bytes) = named_manifest layer (files.read_manifest bytes)

-- what was returned is that reading, unless the disk failed or memory ran out
abbrev pub ManifestAnswers : Result Manifest DirFault → Result Manifest ℕ → Type 0
ManifestAnswers (Ok m) read = read ≡ Ok m
ManifestAnswers (Err (Malformed object offset)) read = read ≡ Err offset
ManifestAnswers (Err e) read = Unit {0}

-- what reading a manifest may answer: the disk's faults, want of memory, or that it is malformed
abbrev pub IsManifestFault : LayerName → DirFault → Type 0
IsManifestFault layer Failed = Unit {0}
IsManifestFault layer Memory = Unit {0}
IsManifestFault layer (Malformed object offset) = object ≡ object_name layer part.Manifest
IsManifestFault layer (Damaged object wanted found) = ⊥
IsManifestFault layer (LayerDiffers object wanted found) = ⊥
