-- What one unit of a job does to the job and to the disk.
use Rattle.std.specs.Prelude.{◌≡◌, ◌≢◌, ℕ, zero, suc, ◌<◌, Bool, false, List, [], ◌∷◌, ◌++◌, length, Option, Result, OnOk, IfErr, IsTrue, ◌↔◌}
use Rattle.mvcc_keys.specs.declared.entries.Entry.{Entry}
use Rattle.version_store.specs.Tables.{Tables}
use Rattle.span_export.specs.declared.cursor.Place.{Place}
use Rattle.introduced_spans.specs.declared.plans.TablePlan.{TablePlan}
use Rattle.outside_world.specs.Disk.{View, Tells, IsSameContent}
use Rattle.outside_world.specs.Moments.{ChangesOnly, InEachImage, IsSettled, LeavesOnly, NoName}
use Rattle.outside_world.specs.Objects.{at}
use Rattle.layer_manifest.specs.declared.manifest.ChunkInfo.{ChunkInfo}
use Rattle.layer_manifest.specs.declared.manifest.TablePart.{TablePart}
use Rattle.layer_manifest.specs.declared.manifest.Manifest.{Manifest}
use Rattle.layer_model.specs.declared.names.LayerName.{LayerName}
use Rattle.layer_model.specs.declared.names.Part.{Part}
use Rattle.layer_model.specs.declared.names.Part.TheVariants as part
use Rattle.layer_model.specs.Layers.{LayerObjects, Holds, IsMarked, IsOpen, IsWhole, name_of_part}
use Rattle.layer_model.specs.Names.{IsNumbered, object_name}
use Rattle.collection_dir.specs.declared.fault.DirFault.{DirFault}
use Rattle.collection_dir.specs.Faults.{IsDiskFault}
use Rattle.collection_dir.specs.Finishing.{DiffersOnlyOver, IsFinishFault, IsManifestOf}
use Rattle.collection_dir.specs.Footprints.{AtChunk, AtFinish, chunk_calls, finish_calls}
use Rattle.collection_dir.specs.Safety.{IsKept, IsWholeInEither, MayBegin, MayFinish}
use Rattle.backup_job.specs.declared.job.Progress.{Progress}
use Rattle.backup_job.specs.declared.job.Progress.TheVariants.{Running, Done}
use Rattle.backup_job.specs.Jobs.{Job, IsAbout, IsReached, MayRun, completed, left, remaining_from, written}

-- ---- the job

-- a chunk more in the table at a place
abbrev pub with_info : ℕ → ChunkInfo → List TablePart → List TablePart
with_info place info [] = []
with_info zero info (t ∷ ts) = record { id = t.id; introduced = t.introduced; descriptors = t.descriptors; chunks = t.chunks ++ info ∷ [] } ∷ ts
with_info (suc place) info (t ∷ ts) = t ∷ with_info place info ts

-- the job after a chunk of the table at a place
abbrev pub with_chunk : Job → ℕ → Option Place → ChunkInfo → Job
with_chunk job place cursor info = record { name = job.name; plans = job.plans; place = place; cursor = cursor; manifest = record job.manifest { tables = with_info place info job.manifest.tables } }

-- a piece in front of those of the table at a place
abbrev pub put_front : ℕ → List Entry → List (List (List Entry)) → List (List (List Entry))
put_front place piece [] = []
put_front zero piece (pieces ∷ tables) = (piece ∷ pieces) ∷ tables
put_front (suc place) piece (pieces ∷ tables) = pieces ∷ put_front place piece tables

-- What was left begins with this piece, of the table at this place, and goes on after this cursor.
pub record IsFirst (h : Tables) (plans : List TablePlan) (tables : List (List (List Entry))) (place : ℕ) (cursor : Option Place) (piece : List Entry) : Type 0 where
  pub within : place < length plans
  pub parts : tables ≡ put_front place piece (remaining_from h place cursor plans)
  pub reached : IsReached h place cursor plans

-- a unit wrote the first of the chunks that were left, its number has six digits, and the layer that the job makes is the same
pub record TakesFirst (h : Tables) (w : LayerObjects) (old new : Job) : Type 0 where
  pub number : written old < 1000000
  pub piece : List Entry
  pub takes : left h old ≡ piece ∷ left h new
  pub counts : written new ≡ suc (written old)
  pub same : completed h new ≡ completed h old
  pub may : MayRun h new
  pub about : IsAbout h new w

-- a unit was the last: no chunk was left, the job is as it was, and its manifest is complete
pub record IsLast (h : Tables) (old new : Job) : Type 0 where
  pub none : left h old ≡ []
  pub same : new ≡ old
  pub whole : new.manifest ≡ completed h old

-- Running where a chunk was left, Done where none was
abbrev pub Steps : Tables → LayerObjects → Job → Job → Progress → Type 0
Steps h w old new Running = TakesFirst h w old new
Steps h w old new Done = IsLast h old new

-- ---- the disk

-- the names of a layer's objects
abbrev pub AtLayer : LayerName → List ℕ → Type 0
AtLayer name n = (p : Part) × IsNumbered p × (n ≡ object_name name p)

-- The disk after a unit that was to write chunk i of a layer: where the layer was safe it is so in each image at each moment, and at Ok
-- the chunk is there in each image. A chunk that is marked isn't put again.
pub record WritesChunk {T : Type 0} (w : LayerObjects) (i : ℕ) (result : Result T DirFault) (old new : View) : Type 0 where
  pub layer : (older : List ℕ) → MayBegin w older w.name old → old.touched (name_of_part w (part.Mark i)) ≡ false → LeavesOnly old new (IsKept (AtChunk w.name i) w older old)
  pub stored : (older : List ℕ) → MayBegin w older w.name old → old.touched (name_of_part w (part.Mark i)) ≡ false → OnOk result (InEachImage new (Holds w (part.Chunk i)))
  pub calls : Tells old → OnOk result ((wrote : Bool) × (IsTrue wrote ↔ (¬ IsMarked w i old.objects)) × (new.calls ≡ old.calls ++ chunk_calls w.name i wrote))
  pub put : Tells old → ¬ IsMarked w i old.objects → OnOk result (Holds w (part.Chunk i) new.objects)
  pub same : Tells old → IsMarked w i old.objects → IsSameContent old new
  pub marked : Tells old → OnOk result (IsMarked w i new.objects)
  pub settled : Tells old → OnOk result ((n : List ℕ) → n ≢ name_of_part w (part.Mark i) → old.touched n ≡ false → new.touched n ≡ false)
  pub changes : ChangesOnly (AtChunk w.name i) NoName old new
  pub fault : IfErr result IsDiskFault

-- The disk after a unit that was to finish a layer: where the layer was safe, with all chunks and marks there, it is safe in each image at
-- each moment, and at Ok it is whole in each image. One that was open over its manifest, in either version, is as it was; one that wasn't
-- has its own manifest wherever its gate is open.
pub record Finishes {T : Type 0} (w : LayerObjects) (m : Manifest) (result : Result T DirFault) (old new : View) : Type 0 where
  pub layer : (older : List ℕ) → MayFinish w older w.name w.manifest old → LeavesOnly old new (IsKept (AtFinish w.name) w older old)
  pub whole : (older : List ℕ) → MayFinish w older w.name w.manifest old → OnOk result (InEachImage new (IsWholeInEither w older))
  pub fresh : (older : List ℕ) → MayFinish w older w.name w.manifest old → ¬ IsOpen w old.objects → OnOk result (InEachImage new (IsWhole w))
  pub opens : Tells old → ¬ IsOpen w old.objects → IsOpen w new.objects → Holds w part.Manifest new.objects
  pub finished : Tells old → OnOk result (IsOpen w old.objects → IsManifestOf m (at old.objects (name_of_part w part.Manifest)))
  pub same : Tells old → IsOpen w old.objects → IsSameContent old new
  pub calls : Tells old → ¬ IsOpen w old.objects → OnOk result (new.calls ≡ old.calls ++ finish_calls w.name)
  pub put : Tells old → ¬ IsOpen w old.objects → OnOk result (Holds w part.Manifest new.objects)
  pub is_open : Tells old → OnOk result (IsOpen w new.objects)
  pub settled : Tells old → ¬ IsOpen w old.objects → OnOk result (IsSettled new)
  pub differs : Tells old → IfErr result (DiffersOnlyOver w.name m old.objects)
  pub changes : ChangesOnly (AtFinish w.name) NoName old new
  pub fault : IfErr result (IsFinishFault w.name m)

-- the one where chunks are left, and otherwise the other
abbrev pub UnitWrites : {T : Type 0} → Tables → Job → List (List Entry) → LayerObjects → Result T DirFault → View → View → Type 0
UnitWrites h job [] w result old new = Finishes w (completed h job) result old new
UnitWrites h job (piece ∷ more) w result old new = WritesChunk w (written job) result old new
