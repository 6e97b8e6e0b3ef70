-- A job that is run to its end, over a disk of which each image stands for some layers.
use Rattle.std.specs.Prelude.{◌≡◌, ◌≤◌, ◌<◌, ℕ, true, false, List, [], ◌∷◌, length, Result, Ok, IfErr, OnOk}
use Rattle.std.specs.List.{Contains}
use Rattle.outside_world.specs.Disk.{View, IsKnown, IsSameContent}
use Rattle.outside_world.specs.Moments.{ChangesOnly, InEachImage, IsSettled, LeavesOnly, NoName}
use Rattle.mvcc_keys.specs.declared.entries.Entry.{Entry}
use Rattle.version_store.specs.Tables.{Tables}
use Rattle.outside_world.specs.Objects.{at}
use Rattle.layer_manifest.specs.declared.manifest.Manifest.{Manifest}
use Rattle.layer_manifest.specs.ManifestFiles.{manifest_code}
use Rattle.layer_model.specs.declared.names.LayerName.{LayerName}
use Rattle.layer_model.specs.declared.names.Part.TheVariants as part
use Rattle.layer_model.specs.Layers.{Holds, IsMarked, IsOpen, IsPartName, IsWhole, LayerObjects, name_of_part}
use Rattle.layer_model.specs.Names.{object_name}
use Rattle.layer_model.specs.Stands.{IsProper, Setting}
use Rattle.collection_dir.specs.declared.fault.DirFault.{DirFault}
use Rattle.collection_dir.specs.Faults.{IsDiskFault}
use Rattle.collection_dir.specs.Footprints.{AtUnmarked}
use Rattle.collection_dir.specs.Safety.{IsWholeInEither}
use Rattle.collection_dir.specs.Standing.{KeepsManifest, StandsInEither}
use Rattle.collection_dir.specs.Versions.{first_version}
use Rattle.backup_job.specs.declared.job.Progress.{Progress}
use Rattle.backup_job.specs.declared.job.Progress.TheVariants.{Running, Done}
use Rattle.backup_job.specs.Jobs.{Job, IsAbout, MayRun, completed, written}

-- the layer is one that is started among the layers that objects stand for
pub record IsStarted (s : Setting) (w : LayerObjects) : Type 0 where
  pub proper : IsProper s
  pub among : Contains s.started w

-- and it is one that is finished
pub record IsAmong (s : Setting) (w : LayerObjects) : Type 0 where
  pub started : IsStarted s w
  pub finished : Contains s.finished w

-- a unit that writes a chunk asks no more than that its layer is started; the last unit, which finishes it, that it is finished too
abbrev pub IsAsked : Setting → LayerObjects → List (List Entry) → Type 0
IsAsked s w [] = IsAmong s w
IsAsked s w (piece ∷ more) = IsStarted s w

-- no name is touched but those of marks, and none of this layer where its gate is open
pub record TouchesMarks (w : LayerObjects) (now : View) : Type 0 where
  pub marks : (n : List ℕ) → now.touched n ≡ true → (layer : LayerName) × (i : ℕ) × (n ≡ object_name layer (part.Mark i))
  pub shut : IsOpen w now.objects → (n : List ℕ) → IsPartName w n → now.touched n ≡ false

-- The job writes the layer, over a disk that stands in each image: the chunks so far are there with their marks, and the marks to come and
-- the gate aren't touched; only marks are, of this layer and of others.
pub record IsWriting (older : LayerObjects → List ℕ) (s : Setting) (w : LayerObjects) (h : Tables) (job : Job) (now : View) : Type 0 where
  pub known : IsKnown now
  pub may : MayRun h job
  pub about : IsAbout h job w
  pub stands : InEachImage now (StandsInEither older s)
  pub gate : now.touched (name_of_part w part.Gate) ≡ false
  pub ahead : (i : ℕ) → written job ≤ i → i < length w.chunks → now.touched (name_of_part w (part.Mark i)) ≡ false
  pub chunks : (i : ℕ) → i < written job → Holds w (part.Chunk i) now.objects
  pub marks : (i : ℕ) → i < written job → IsMarked w i now.objects
  pub calm : TouchesMarks w now

-- the layer is open and whole in each image, and none of its names is touched
pub record IsWritten (older : LayerObjects → List ℕ) (w : LayerObjects) (now : View) : Type 0 where
  pub known : IsKnown now
  pub whole : InEachImage now (IsWholeInEither w (older w))
  pub is_open : IsOpen w now.objects
  pub calm : TouchesMarks w now

-- What units leave: whatever they answered, a crash at any moment leaves what stands; no other names than the layer's are put, and of its
-- chunks none that was marked; nothing is done where its gate was open. Where the gate is open only now, the manifest has version 2. Once
-- they are through, the layer is written, whole in version 2 where it wasn't open, nothing is touched where nothing was, and the job has
-- its manifest m. Where an older manifest is the same in version 1, nothing is refused but by a fault of the disk or want of memory.
pub record RunWrites {T : Type 0} (older : LayerObjects → List ℕ) (s : Setting) (w : LayerObjects) (m : Manifest) (result : Result T DirFault) (job : Job) (first now : View) : Type 0 where
  pub moments : LeavesOnly first now (StandsInEither older s)
  pub changes : ChangesOnly (AtUnmarked w first.objects) NoName first now
  pub calm : IsOpen w first.objects → IsSameContent first now
  pub keeps : KeepsManifest w first.objects now.objects
  pub is_written : OnOk result (IsWritten older w now)
  pub fresh : ¬ IsOpen w first.objects → OnOk result (InEachImage now (IsWhole w))
  pub settled : IsSettled first → OnOk result (IsSettled now)
  pub manifest : OnOk result (job.manifest ≡ m)
  pub fault : older w ≡ manifest_code (first_version m) → IfErr result IsDiskFault

-- units so far: the job writes the layer, it makes the same manifest, a crash left what stands, and gate and manifest are as they were
pub record IsUnderWay (older : LayerObjects → List ℕ) (s : Setting) (w : LayerObjects) (h : Tables) (began job : Job) (first now : View) : Type 0 where
  pub writing : IsWriting older s w h job now
  pub same : completed h job ≡ completed h began
  pub moments : LeavesOnly first now (StandsInEither older s)
  pub changes : ChangesOnly (AtUnmarked w first.objects) NoName first now
  pub calm : IsOpen w first.objects → IsSameContent first now
  pub gate : at now.objects (name_of_part w part.Gate) ≡ at first.objects (name_of_part w part.Gate)
  pub manifest : at now.objects (name_of_part w part.Manifest) ≡ at first.objects (name_of_part w part.Manifest)

-- What one unit leaves, whatever it answered: a crash at any moment leaves what stands, and no other names than the layer's are put, and of
-- its chunks none that was marked. At Running the job goes on writing the layer, at Done it is written.
pub record UnitLeaves (older : LayerObjects → List ℕ) (s : Setting) (w : LayerObjects) (h : Tables) (result : Result Progress DirFault) (job : Job) (first now : View) : Type 0 where
  pub moments : LeavesOnly first now (StandsInEither older s)
  pub changes : ChangesOnly (AtUnmarked w first.objects) NoName first now
  pub running : result ≡ Ok Running → IsWriting older s w h job now
  pub done : result ≡ Ok Done → IsWritten older w now
