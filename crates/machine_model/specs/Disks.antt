-- A disk that stands for a script: what its objects may hold of the own cluster's layers, by the machine that the script ends in; and what it
-- holds of them while a machine is on its way there.
use Rattle.std.specs.Prelude.{◌≡◌, ◌⊎◌, ℕ, ◌+◌, ◌^◌, Bool, ◌&&◌, ◌==◌, nat_lt, nat_le, List, [], ◌∷◌, length, Option, Some, None, if◌then◌else◌}
use Rattle.std.specs.List.{Contains}
use Rattle.std.specs.Str.{bytes_eq}
use Rattle.mvcc_keys.specs.Times.{Time}
use Rattle.list_laws.specs.Members.{Has}
use Rattle.table_descriptors.specs.Names.{is_name}
use Rattle.history_model.specs.Histories.{Table}
use Rattle.history_model.specs.Layers as recorded
use Rattle.outside_world.specs.Disk.{View, IsKnown}
use Rattle.outside_world.specs.Moments.{IsSettled}
use Rattle.outside_world.specs.Objects.{Objects, at}
use Rattle.layer_model.specs.declared.names.LayerName.{LayerName}
use Rattle.layer_model.specs.declared.names.Part.{Part}
use Rattle.layer_model.specs.Names.{IsLayerName}
use Rattle.layer_model.specs.Layers.{HasPart, IsOpen, LayerObjects, name_of_part}
use Rattle.layer_model.specs.Stands.{IsOpenName, Setting}
use Rattle.collection_dir.specs.Safety.{IsWholeInEither}
use Rattle.collection_dir.specs.Standing.{StandsInEither}
use Rattle.layer_objects.specs.Objects.{name_of_record, objects_of}
use Rattle.layer_objects.specs.Storable.{older_manifest}
use Rattle.machine_model.specs.Machine.{Backup, Job, Machine, Restore}

-- ---- layers of jobs

abbrev pub is_time : Time → Bool
is_time t = nat_lt t.wall (2 ^ 64) && nat_le t.logical 2147483647

-- objects can be named for the layer, which is this job's of the cluster
abbrev pub is_named_for : List ℕ → ℕ → LayerObjects → Bool
is_named_for cluster job w =
    (is_name w.name.collection && (is_name w.name.cluster && bytes_eq w.name.cluster cluster))
    && ((is_time w.name.full && (is_time w.name.start && is_time w.name.end)) && (w.name.job == job && nat_lt job (2 ^ 32)))

-- the layer can be stored: its objects can be named, and it has at most 1,000,000 chunks. So can each that a cluster makes within its limits.
abbrev pub can_be_stored : List ℕ → ℕ → LayerObjects → Bool
can_be_stored cluster job w = is_named_for cluster job w && nat_le (length w.chunks) 1000000

abbrev pub kept_if : Bool → LayerObjects → List LayerObjects → List LayerObjects
kept_if test w layers = if test then w ∷ layers else layers

-- the layers of jobs, from this number on, over the tables of their cluster
abbrev pub layers_from : List ℕ → List Table → ℕ → List Job → List LayerObjects
layers_from cluster tables job [] = []
layers_from cluster tables job (Restore ∷ jobs) = layers_from cluster tables (job + 1) jobs
layers_from cluster tables job (Backup r ∷ jobs) = kept_if (can_be_stored cluster job (objects_of tables r)) (objects_of tables r) (layers_from cluster tables (job + 1) jobs)

-- the layers that a machine's jobs made
unfoldable pub made_layers : Machine → List LayerObjects
made_layers m = layers_from m.name m.history.tables 1 m.jobs

-- the layers of a machine at its end: each that its jobs started was finished
abbrev pub setting_of : Machine → Setting
setting_of m = record { cluster = m.name; started = made_layers m; finished = made_layers m; foreign = [] }

-- objects stand for a script that ends in this machine; without a command there is no own cluster
abbrev pub StandsUntil : Option Machine → Objects → Type 0
StandsUntil None objects = Unit {0}
StandsUntil (Some m) objects = StandsInEither older_manifest (setting_of m) objects

-- ---- the way to the end

-- no object of the layer is there
abbrev pub IsGone : LayerObjects → Objects → Type 0
IsGone w objects = (part : Part) → HasPart w part → at objects (name_of_part w part) ≡ None

-- the layer is whole, its manifest in either version
abbrev pub IsThere : LayerObjects → Objects → Type 0
IsThere w objects = IsWholeInEither w (older_manifest w) objects

-- A machine on its way to an end: each of its own layers is open and whole, and of each that it forgot nothing is there.
pub record AreKept (m end : Machine) (objects : Objects) : Type 0 where
  pub there : (r : recorded.LayerRecord) → Has r m.layers → IsThere (objects_of end.history.tables r) objects
  pub gone : (r : recorded.LayerRecord) → Has (Backup r) m.jobs → Has r m.layers ⊎ IsGone (objects_of end.history.tables r) objects

abbrev pub AreKeptIn : Option Machine → Option Machine → Objects → Type 0
AreKeptIn (Some m) (Some end) objects = AreKept m end objects
AreKeptIn m end objects = Unit {0}

-- each layer that a script makes is open, and none of them is forgotten where it ends
abbrev pub IsDone : Machine → Objects → Type 0
IsDone end objects = (w : LayerObjects) → Contains (made_layers end) w → IsOpen w objects × ((r : recorded.LayerRecord) × Has r end.layers × (name_of_record r ≡ w.name))

abbrev pub IsDoneIn : Option Machine → Objects → Type 0
IsDoneIn None objects = Unit {0}
IsDoneIn (Some end) objects = IsDone end objects

-- no object was put or removed, and the disk wasn't asked to
pub record IsIdle (old new : View) : Type 0 where
  pub objects : new.objects ≡ old.objects
  pub calls : new.calls ≡ old.calls

-- Before a command, or after the last: the disk tells what it holds, is honest, has no touched name, its objects stand for a script that ends
-- in one machine, and hold the layers of the other, which is on its way there.
pub record IsReady (m end : Option Machine) (v : View) : Type 0 where
  pub known : IsKnown v
  pub settled : IsSettled v
  pub stands : StandsUntil end v.objects
  pub kept : AreKeptIn m end v.objects

-- ---- laws

-- a disk that is known and settled and holds no object is ready before every script
abbrev pub EmptyIsReady : View → Type 0
EmptyIsReady v = (end : Option Machine) → IsKnown v → IsSettled v → ((n : List ℕ) → at v.objects n ≡ None) → IsReady None end v

-- Where a disk is ready at the end of a script, each open layer of the own cluster is one of the machine's.
abbrev pub OpenLayersAreKept : View → Type 0
OpenLayersAreKept v = (m : Machine) → IsReady (Some m) (Some m) v → (n : LayerName) → IsLayerName n → n.cluster ≡ m.name → IsOpenName n v.objects → (r : recorded.LayerRecord) × Has r m.layers × (name_of_record r ≡ n)

-- After a complete run that forgets nothing all layers are done.
abbrev pub CompleteIsDone : View → Type 0
CompleteIsDone v = (m : Machine) → IsReady (Some m) (Some m) v → ((r : recorded.LayerRecord) → Has (Backup r) m.jobs → Has r m.layers) → IsDone m v.objects
