-- Loads of chunks from a disk, and what they answer.
use Rattle.std.specs.Prelude.{◌≡◌, ◌≢◌, ◌≤◌, ◌^◌, ◌-◌, ℕ, Bool, true, false, List, Option, Some, None, Result, Ok, Err, if◌then◌else◌}
use Rattle.std.specs.List.{slice_get}
use Rattle.std.specs.Str.{bytes_eq}
use Rattle.sha2.specs.Sha256.{sha256}
use Rattle.mvcc_keys.specs.declared.entries.Entry.{Entry}
use Rattle.row_codec.specs.declared.rows.Kind.{Kind}
use Rattle.chunk_file.specs.Chunks.{IsSpelled}
use Rattle.outside_world.specs.Causes.{Rose}
use Rattle.outside_world.specs.Disk.{OnlyReads, Tells, View}
use Rattle.outside_world.specs.Objects.{Objects, at}
use Rattle.layer_manifest.specs.declared.manifest.ChunkInfo.{ChunkInfo}
use Rattle.layer_model.specs.declared.names.LayerName.{LayerName}
use Rattle.layer_model.specs.declared.names.Part.TheVariants.{Chunk}
use Rattle.layer_model.specs.Names.{object_name}
use Rattle.collection_dir.specs.declared.fault.DirFault.{DirFault}
use Rattle.collection_dir.specs.declared.fault.DirFault.TheVariants.{Failed, Memory, Damaged, Malformed, LayerDiffers}
use Rattle.collection_dir.specs.Faults.{is_failure}
use Rattle.stored_chunks.specs.Told.{read_told}
use Rattle.stored_chunks.specs.Places.{Stored, index_of, number_of}

-- ---- a chunk in its bytes

-- no fault was found in the bytes, which are a chunk of the table as the manifest tells; or they are malformed at this place
abbrev pub Reads : ℕ → List Kind → ChunkInfo → List ℕ → Option ℕ → Type 0
Reads table kinds info bytes None = (entries : List Entry) × ((read_told table kinds info bytes ≡ Ok entries) × IsSpelled table kinds bytes entries)
Reads table kinds info bytes (Some offset) = read_told table kinds info bytes ≡ Err offset

-- ---- a chunk on the disk

abbrev pub or_malformed : List ℕ → Result (List Entry) ℕ → Result (List Entry) DirFault
or_malformed object (Ok entries) = Ok entries
or_malformed object (Err offset) = Err (Malformed object offset)

-- bytes of another digest are damaged, and so are none
abbrev pub held : List ℕ → ℕ → List Kind → ChunkInfo → Option (List ℕ) → Result (List Entry) DirFault
held object table kinds info None = Err (Damaged object info.digest None)
held object table kinds info (Some bytes) =
    if bytes_eq (sha256 bytes) info.digest then or_malformed object (read_told table kinds info bytes)
    else Err (Damaged object info.digest (Some (sha256 bytes)))

-- the entries of the chunk of a number in a layer, or its fault
unfoldable pub chunk_at : LayerName → ℕ → ℕ → List Kind → ChunkInfo → Objects → Result (List Entry) DirFault
chunk_at layer number table kinds info objects = held (object_name layer (Chunk number)) table kinds info (at objects (object_name layer (Chunk number)))

-- a fault is that of the objects, unless the disk failed or memory ran out
abbrev pub FaultIs : {X : Type 0} → DirFault → Result X DirFault → Type 0
FaultIs Failed stored = Unit {0}
FaultIs Memory stored = Unit {0}
FaultIs (Damaged object wanted found) stored = stored ≡ Err (Damaged object wanted found)
FaultIs (Malformed object offset) stored = stored ≡ Err (Malformed object offset)
FaultIs (LayerDiffers object wanted found) stored = stored ≡ Err (LayerDiffers object wanted found)

-- What reading a chunk may answer, whatever the disk tells: the disk's faults, want of memory, another digest than the one that is told, or
-- bytes of that digest that are malformed.
abbrev pub IsToldFault : List ℕ → ℕ → List Kind → ChunkInfo → DirFault → Type 0
IsToldFault name table kinds info Failed = Unit {0}
IsToldFault name table kinds info Memory = Unit {0}
IsToldFault name table kinds info (Damaged object wanted found) = (object ≡ name) × (wanted ≡ info.digest) × (found ≢ Some info.digest)
IsToldFault name table kinds info (Malformed object offset) = (object ≡ name) × (bytes : List ℕ) × ((sha256 bytes ≡ info.digest) × (read_told table kinds info bytes ≡ Err offset))
IsToldFault name table kinds info (LayerDiffers object wanted found) = ⊥

-- ---- loads

-- bytes that were answered: they have the digest that is told, read as a chunk of the table, and are those of the object where the disk tells
pub record IsGiven (layer : LayerName) (number table : ℕ) (kinds : List Kind) (info : ChunkInfo) (disk : View) (bytes : List ℕ) : Type 0 where
  pub entries : List Entry
  pub spelled : IsSpelled table kinds bytes entries
  pub digest : sha256 bytes ≡ info.digest
  pub told : read_told table kinds info bytes ≡ Ok entries
  pub bytes_are : Tells disk → at disk.objects (object_name layer (Chunk number)) ≡ Some bytes
  pub stored : Tells disk → chunk_at layer number table kinds info disk.objects ≡ Ok entries

-- the disk failed
abbrev pub failed_in : {X : Type 0} → Result X DirFault → Bool
failed_in (Ok x) = false
failed_in (Err e) = is_failure e

-- a fault that was answered: it is one of this chunk, and that of the object where the disk tells; the disk failed in the load where it says so
pub record IsRefused (layer : LayerName) (number table : ℕ) (kinds : List Kind) (info : ChunkInfo) (disk : View) (failed : Bool) (fault : DirFault) : Type 0 where
  pub of_chunk : IsToldFault (object_name layer (Chunk number)) table kinds info fault
  pub stored : Tells disk → FaultIs fault (chunk_at layer number table kinds info disk.objects)
  pub failed_is : fault ≡ Failed → failed ≡ true

abbrev pub Answers : LayerName → ℕ → ℕ → List Kind → ChunkInfo → View → Bool → Result (List ℕ) DirFault → Type 0
Answers layer number table kinds info disk failed (Ok bytes) = IsGiven layer number table kinds info disk bytes
Answers layer number table kinds info disk failed (Err fault) = IsRefused layer number table kinds info disk failed fault

-- what a load of a chunk of a part answered, over a disk as it was before, and whether the disk has failed since
pub record Came (p : Stored) (chunk table : ℕ) (kinds : List Kind) (disk : View) (failed : Bool) (r : Result (List ℕ) DirFault) : Type 0 where
  pub info : ChunkInfo
  pub there : slice_get p.chunks (index_of p chunk) ≡ Some info
  pub answers : Answers p.layer (number_of p chunk) table kinds info disk failed r

-- What loads leave: the disk was only read, its count of faults never falls, rose where it failed in a load, and else is as before.
pub record IsKept (old new : View) (failed_old failed_new : Bool) : Type 0 where
  pub reads : OnlyReads old new
  pub later : old.faults ≤ new.faults
  pub capped : old.faults ≤ 2 ^ 64 - 1 → new.faults ≤ 2 ^ 64 - 1
  pub stays : failed_old ≡ true → failed_new ≡ true
  pub same : failed_new ≡ false → new.faults ≡ old.faults
  pub rose : failed_old ≡ false → failed_new ≡ true → Rose old.faults new.faults
