-- The chunks that count, read and tested in the order of their numbers before a row is merged.
use Rattle.std.specs.Prelude.{◌≡◌, ◌↔◌, ℕ, ◌+◌, true, List, [], ◌∷◌, length, Option, Some, None, Result, Ok, Err, if◌then◌else◌}
use Rattle.std.specs.List.{AllByRecursion, slice_get}
use Rattle.sha2.specs.Sha256.{sha256}
use Rattle.mvcc_keys.specs.declared.entries.Entry.{Entry}
use Rattle.row_codec.specs.declared.rows.Kind.{Kind}
use Rattle.chunk_file.specs.Chunks.{head_code, read_chunk}
use Rattle.layer_merge.specs.Stands.{first_of, goes_on}
use Rattle.outside_world.specs.Objects.{Objects, at}
use Rattle.layer_manifest.specs.declared.manifest.ChunkInfo.{ChunkInfo}
use Rattle.layer_model.specs.declared.names.LayerName.{LayerName}
use Rattle.layer_model.specs.declared.names.Part.TheVariants.{Chunk}
use Rattle.layer_model.specs.Names.{object_name}
use Rattle.collection_dir.specs.declared.fault.DirFault.{DirFault}
use Rattle.collection_dir.specs.declared.fault.DirFault.TheVariants.{Malformed}
use Rattle.stored_chunks.specs.Told.{is_told}
use Rattle.stored_chunks.specs.Loads.{FaultIs, chunk_at}
use Rattle.stored_chunks.specs.Places.{Stored}

-- the last of some entries, or the one before them where there is none
abbrev pub last_after : Option Entry → List Entry → Option Entry
last_after last [] = last
last_after last (e ∷ es) = last_after (Some e) es

-- the last entry of the chunk before, if there is one
abbrev pub last_in : Option (List Entry) → Option Entry
last_in None = None
last_in (Some entries) = last_after None entries

-- a chunk goes on where the one before it ended, and so do those after it; or it is malformed where its first entry begins
abbrev pub goes_after : {X : Type 0} → List ℕ → Option Entry → (List Entry → Result X DirFault) → Result (List Entry) DirFault → Result X DirFault
goes_after object last more (Err fault) = Err fault
goes_after object last more (Ok entries) = if goes_on last (first_of entries) then more entries else Err (Malformed object (length (head_code entries)))

-- the chunk of a number in its part, after the entry that is the last one before
abbrev pub check_chunk : Stored → ℕ → List Kind → Objects → ℕ → Option Entry → ChunkInfo → Result (List Entry) DirFault
check_chunk p table kinds objects chunk last info = goes_after (object_name p.layer (Chunk (p.first + chunk))) last (λ entries. Ok entries) (chunk_at p.layer (p.first + chunk) table kinds info objects)

abbrev pub then_check : {X Y : Type 0} → (X → Result Y DirFault) → Result X DirFault → Result Y DirFault
then_check more (Err fault) = Err fault
then_check more (Ok x) = more x

-- those from a number on
abbrev pub check_from : Stored → ℕ → List Kind → Objects → ℕ → Option Entry → List ChunkInfo → Result (Unit {0}) DirFault
check_from p table kinds objects chunk last [] = Ok tt
check_from p table kinds objects chunk last (info ∷ infos) = then_check (λ entries. check_from p table kinds objects (chunk + 1) (last_after None entries) infos) (check_chunk p table kinds objects chunk last info)

abbrev pub check_part : ℕ → List Kind → Objects → Stored → Result (Unit {0}) DirFault
check_part table kinds objects p = check_from p table kinds objects 0 None p.chunks

-- The first fault of the chunks of some parts, in their order and by number: a chunk that is absent, has another digest, is malformed, isn't
-- as its manifest tells, or doesn't go on where the one before it ended.
abbrev pub check_parts : ℕ → List Kind → Objects → List Stored → Result (Unit {0}) DirFault
check_parts table kinds objects [] = Ok tt
check_parts table kinds objects (p ∷ ps) = then_check (λ u. check_parts table kinds objects ps) (check_part table kinds objects p)

-- what was returned is that, unless the disk failed or memory ran out
abbrev pub Finds : {X Y : Type 0} → (X → Y) → Result X DirFault → Result Y DirFault → Type 0
Finds value (Ok x) found = found ≡ Ok (value x)
Finds value (Err fault) found = FaultIs fault found

-- ---- parts without a fault

-- the object of a chunk has bytes of the digest that is told, which read as a chunk of the table with these entries, as the manifest tells
pub record HoldsChunk (layer : LayerName) (number table : ℕ) (kinds : List Kind) (info : ChunkInfo) (objects : Objects) (entries : List Entry) : Type 0 where
  pub bytes : List ℕ
  pub there : at objects (object_name layer (Chunk number)) ≡ Some bytes
  pub digest : sha256 bytes ≡ info.digest
  pub reads : read_chunk table kinds bytes ≡ Ok entries
  pub told : is_told info (length bytes) entries ≡ true

-- each chunk of a part is there, and its entries go on where those of the chunk before it ended
pub record IsWholePart (table : ℕ) (kinds : List Kind) (objects : Objects) (p : Stored) : Type 0 where
  pub chunks : List (List Entry)
  pub counted : length chunks ≡ length p.chunks
  pub holds : (i : ℕ) (info : ChunkInfo) (entries : List Entry) → slice_get p.chunks i ≡ Some info → slice_get chunks i ≡ Some entries → HoldsChunk p.layer (p.first + i) table kinds info objects entries
  pub ordered : (i : ℕ) (before after : List Entry) → slice_get chunks i ≡ Some before → slice_get chunks (i + 1) ≡ Some after → goes_on (last_after None before) (first_of after) ≡ true

-- No fault is found exactly where each part is whole.
abbrev pub ChecksFindFaults : Type 0
ChecksFindFaults = (table : ℕ) (kinds : List Kind) (objects : Objects) (parts : List Stored) → (check_parts table kinds objects parts ≡ Ok tt) ↔ AllByRecursion (IsWholePart table kinds objects) parts
