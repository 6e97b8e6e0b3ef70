-- What is read of a table out of the layers of a chain.
use Rattle.std.specs.Prelude.{◌≡◌, ◌⊎◌, ◌<◌, ℕ, ◌+◌, false, List, [], ◌∷◌, length, Option, Some, None, Result, Ok, Err}
use Rattle.std.specs.List.{slice_get}
use Rattle.sha2.specs.Sha256.{sha256}
use Rattle.mvcc_keys.specs.Times.{Time}
use Rattle.mvcc_keys.specs.declared.entries.Entry.{Entry}
use Rattle.list_laws.specs.Members.{Has}
use Rattle.row_codec.specs.declared.rows.Kind.{Kind}
use Rattle.chunk_file.specs.Chunks.{head_code}
use Rattle.layer_merge.specs.declared.chunks.MergeFault.{MergeFault}
use Rattle.layer_merge.specs.declared.chunks.MergeFault.TheVariants as merge
use Rattle.layer_merge.specs.declared.parts.Part.{Part}
use Rattle.layer_merge.specs.Loads.{World}
use Rattle.layer_merge.specs.Parts.{AreProper, merge_rows}
use Rattle.layer_merge.specs.Stands.{first_of, goes_on}
use Rattle.outside_world.specs.Disk.{View}
use Rattle.outside_world.specs.Objects.{Objects}
use Rattle.layer_manifest.specs.declared.manifest.ChunkInfo.{ChunkInfo}
use Rattle.layer_model.specs.declared.names.Part.TheVariants.{Chunk}
use Rattle.layer_model.specs.Names.{object_name}
use Rattle.collection_dir.specs.declared.fault.DirFault.{DirFault}
use Rattle.collection_dir.specs.declared.fault.DirFault.TheVariants.{Memory, Malformed}
use Rattle.collection_dir.specs.Faults.{IsDiskFault}
use Rattle.stored_chunks.specs.Told.{read_told}
use Rattle.stored_chunks.specs.Loads.{IsGiven, IsToldFault, chunk_at}
use Rattle.stored_chunks.specs.Places.{AreParts, Stored, index_of, number_of, part_at}
use Rattle.restore_rows.specs.Checks.{last_after}

-- ---- what is given, whatever the disk tells

-- An entry of a chunk of one of the parts, which was loaded with the digest that its manifest tells.
pub record IsReadOf (table : ℕ) (kinds : List Kind) (parts : List Stored) (disk : View) (e : Entry) : Type 0 where
  pub part : Stored
  pub among : Has part parts
  pub chunk : ℕ
  pub info : ChunkInfo
  pub there : slice_get part.chunks chunk ≡ Some info
  pub bytes : List ℕ
  pub given : IsGiven part.layer (part.first + chunk) table kinds info disk bytes
  pub holds : Has e given.entries

-- ---- faults, whatever the disk tells

-- bytes with the digest of a chunk of a part read as a chunk of the table, with these entries, as its manifest tells
pub record IsOfDigest (p : Stored) (table : ℕ) (kinds : List Kind) (chunk : ℕ) (entries : List Entry) : Type 0 where
  pub info : ChunkInfo
  pub there : slice_get p.chunks chunk ≡ Some info
  pub bytes : List ℕ
  pub digest : sha256 bytes ≡ info.digest
  pub reads : read_told table kinds info bytes ≡ Ok entries

-- the chunk of a number is malformed where its first entry begins, which doesn't come after the last entry before
pub record IsCut (p : Stored) (table : ℕ) (kinds : List Kind) (chunk : ℕ) (last : Option Entry) (fault : DirFault) : Type 0 where
  pub entries : List Entry
  pub own : IsOfDigest p table kinds chunk entries
  pub order : goes_on last (first_of entries) ≡ false
  pub fault_is : fault ≡ Malformed (object_name p.layer (Chunk (p.first + chunk))) (length (head_code entries))

-- it doesn't go on where the chunk before it ended
pub record IsBreak (p : Stored) (table : ℕ) (kinds : List Kind) (chunk : ℕ) (fault : DirFault) : Type 0 where
  pub number : ℕ
  pub before : List Entry
  pub next : chunk ≡ number + 1
  pub own : IsOfDigest p table kinds number before
  pub cut : IsCut p table kinds chunk (last_after None before) fault

-- a fault of the chunk of a number in its part: that of a chunk by itself, or of one that doesn't go on
abbrev pub IsNextFault : Stored → ℕ → List Kind → ℕ → Option Entry → DirFault → Type 0
IsNextFault p table kinds chunk last fault = (info : ChunkInfo) × (slice_get p.chunks chunk ≡ Some info) × (IsToldFault (object_name p.layer (Chunk (p.first + chunk))) table kinds info fault ⊎ IsCut p table kinds chunk last fault)

abbrev pub IsFaultAt : Stored → ℕ → List Kind → ℕ → DirFault → Type 0
IsFaultAt p table kinds chunk fault = (info : ChunkInfo) × (slice_get p.chunks chunk ≡ Some info) × (IsToldFault (object_name p.layer (Chunk (p.first + chunk))) table kinds info fault ⊎ IsBreak p table kinds chunk fault)

abbrev pub IsFaultOf : ℕ → List Kind → Stored → DirFault → Type 0
IsFaultOf table kinds p fault = (chunk : ℕ) × IsFaultAt p table kinds chunk fault

-- the disk's failure or want of memory, or a fault of a chunk of one of the parts
abbrev pub IsFaultIn : ℕ → List Kind → List Stored → DirFault → Type 0
IsFaultIn table kinds parts fault = IsDiskFault fault ⊎ ((p : Stored) × (Has p parts × IsFaultOf table kinds p fault))

-- ---- the merge of parts

-- what was read, and none where it is a fault
abbrev pub or_none : Result (List Entry) DirFault → List Entry
or_none (Ok entries) = entries
or_none (Err fault) = []

abbrev pub info_entries : Stored → ℕ → ℕ → List Kind → Objects → Option ChunkInfo → List Entry
info_entries p number table kinds objects None = []
info_entries p number table kinds objects (Some info) = or_none (chunk_at p.layer number table kinds info objects)

-- the entries of a chunk of a part as the objects hold them, and none where it has a fault
abbrev pub entries_at : ℕ → List Kind → Objects → Stored → ℕ → List Entry
entries_at table kinds objects p chunk = info_entries p (number_of p chunk) table kinds objects (slice_get p.chunks (index_of p chunk))

-- the entries of all chunks of some parts, the first of which stands for places without a part
abbrev pub world_of : ℕ → List Kind → Objects → List Stored → World
world_of table kinds objects [] place chunk = []
world_of table kinds objects (p ∷ ps) place chunk = entries_at table kinds objects (part_at (p ∷ ps) p place) chunk

-- a merge of the parts as of a time is proper, and gives these rows
abbrev pub Merges : World → List Stored → Time → List Entry → Type 0
Merges w stored t rows = (parts : List Part) → AreParts stored parts → AreProper w parts × (merge_rows w parts t ≡ rows)

-- a merge's fault, said of the objects of the parts
abbrev pub Names : List Stored → MergeFault DirFault → DirFault → Type 0
Names parts (merge.Chunk fault) named = named ≡ fault
Names parts (merge.Malformed place chunk offset) named = (named ≡ Memory) ⊎ ((p : Stored) × (slice_get parts place ≡ Some p) × (named ≡ Malformed (object_name p.layer (Chunk (number_of p chunk))) offset))
Names parts merge.Memory named = named ≡ Memory

-- it names a part that is there
abbrev pub IsNamed : ℕ → MergeFault DirFault → Type 0
IsNamed count (merge.Chunk fault) = Unit {0}
IsNamed count (merge.Malformed place chunk offset) = place < count
IsNamed count merge.Memory = Unit {0}
