-- The machine for which a cluster stands.
use Rattle.std.specs.Prelude.{◌≡◌, ◌≢◌, ℕ, ◌+◌, ◌<◌, Bool, true, false, List, [], slice_get, map, length, Option, Some, Result, Ok, Err}
use Rattle.mvcc_keys.specs.Times.{Time, zero_time, time_le, time_lt}
use Rattle.row_codec.specs.declared.rows.Kind.{Kind}
use Rattle.table_descriptors.specs.Descriptors.{Schema, key_kinds}
use Rattle.fact_model.specs.Facts.{date}
use Rattle.std.specs.List.{AllByRecursion, Contains}
use Rattle.list_laws.specs.Members.{Has}
use Rattle.history_model.specs.Rows.{RowFact}
use Rattle.history_model.specs.Histories.{Table, schemas_of, accepted}
use Rattle.history_model.specs.Layers.{LayerRecord}
use Rattle.introduced_spans.specs.PlanLaws.{ascend_after}
use Rattle.version_store.specs.MapHolding.{KeepsAll}
use Rattle.table_rows.specs.RowTables.{HasRows}
use Rattle.layer_manifest.specs.declared.manifest.Manifest.{Manifest}
use Rattle.layer_manifest.specs.declared.manifest.TablePart.{TablePart}
use Rattle.layer_manifest.specs.Manifests.{IsProperManifest, chunk_count}
use Rattle.layer_manifest.specs.ManifestFiles.{manifest_code}
use Rattle.layer_model.specs.declared.names.LayerName.{LayerName}
use Rattle.layer_model.specs.Layers.{IsLayer}
use Rattle.layer_objects.specs.Objects.{bare, objects_of, rows_of, table_kinds}
use Rattle.layer_objects.specs.Storable.{AreListable, IsRecord, IsSized}
use Rattle.reply_texts.specs.declared.refusals.Refusal.{Refusal}
use Rattle.reply_texts.specs.declared.answers.Answer.{Answer}
use Rattle.reply_texts.specs.declared.replies.Response.{Response}
use Rattle.reply_texts.specs.declared.replies.Response.TheVariants.{Answered}
use Rattle.reply_texts.specs.declared.replies.Response.TheVariants as response
use Rattle.outside_world.specs.Causes.{Counted, HasCauseBy}
use Rattle.outside_world.specs.Disk.{View}
use Rattle.outside_world.specs.Moments.{ChangesOnly, LeavesOnly}
use Rattle.outside_world.specs.Objects.{Objects, at}
use Rattle.layer_model.specs.Layers as stored
use Rattle.layer_model.specs.Names.{IsOwnName}
use Rattle.collection_dir.specs.Footprints.{AtMarked}
use Rattle.collection_dir.specs.Standing.{KeepManifests}
use Rattle.machine_model.specs.Disks.{IsDone, IsIdle, IsReady, StandsUntil, made_layers}
use Rattle.machine_model.specs.Past.{IsLater}
use Rattle.machine_model.specs.Machine.{Backup, Job, Machine, Stepped, refused}
use Rattle.cluster_core.specs.declared.halts.Halt.{Halt}
use Rattle.cluster_core.specs.declared.halts.Halt.TheVariants.{Refused, Disk, Memory}
use Rattle.cluster_core.specs.ClusterView.{ClusterState, record_of}

-- ---- what is true of the tables of a cluster

-- a descriptor of the table of an id
pub record IsOwn (id : ℕ) (kinds : List Kind) (d : Schema) : Type 0 where
  pub id_is : d.id ≡ id
  pub kinds_are : kinds ≡ key_kinds d

-- the table of an id: it has a descriptor, their dates ascend and they have the same key columns, its facts are dated after zero_time, nothing of it is dated after the clock, and a layer can hold its facts
pub record IsOrderly (clock : Time) (id : ℕ) (table : Table) : Type 0 where
  pub id_is : table.id ≡ id
  pub schemas : (d : Schema) → Has d table.descriptors → IsOwn id (table_kinds table) d
  pub facts : (f : RowFact) → Has f table.facts → time_le (date f) clock ≡ true
  pub after : (f : RowFact) → Has f table.facts → time_lt zero_time (date f) ≡ true
  pub threshold : time_le table.threshold clock ≡ true
  pub sized : (f : RowFact) → Has f table.facts → IsSized (table_kinds table) f
  pub dated : (d : Schema) → Has d table.descriptors → time_le d.modified clock ≡ true
  pub ascend : ascend_after zero_time table.descriptors ≡ true
  pub begun : table.descriptors ≢ []
  pub keyed : (d e : Schema) → Has d table.descriptors → Has e table.descriptors → d.key_columns ≡ e.key_columns

-- the cluster has these tables: its catalog their descriptors, its store their facts
pub record Keeps (c : ClusterState) (tables : List Table) : Type 0 where
  pub schemas : schemas_of tables ≡ c.schemas.tables
  pub rows : HasRows (λ h. KeepsAll c.store.tables.entries h) (rows_of tables)
  pub events : accepted tables ≡ c.events
  pub orderly : (i : ℕ) (table : Table) → slice_get tables i ≡ Some table → IsOrderly c.clock (100 + i) table

abbrev pub machine_of : ClusterState → List Table → Machine
machine_of c tables = record { name = c.name; limits = record { events = c.most_events; tables = c.schemas.limit }; clock = c.clock; history = record { databases = c.schemas.databases; tables = tables }; layers = map record_of c.book.layers; jobs = c.jobs }

-- the cluster has the tables of the machine: what was collected is in no store, so it has those of several
pub record HasTables (c : ClusterState) (m : Machine) : Type 0 where
  pub tables : List Table
  pub keeps : Keeps c tables
  pub machine_is : m ≡ machine_of c tables

-- ---- what is true of its backups

-- the record of the backup at a place among the jobs
pub record IsOwnBackup (c : ClusterState) (tables : List Table) (place : ℕ) (r : LayerRecord) : Type 0 where
  pub number : r.job ≡ place + 1
  pub cluster : r.cluster ≡ c.name
  pub is : IsRecord r
  pub version : r.version ≡ 2
  pub over : time_le r.end c.clock ≡ true
  pub few : IsLayer (objects_of tables r)
  pub listed : AllByRecursion (λ (t : TablePart). AreListable t.descriptors) (bare tables r).tables

-- a layer in the book is one of a backup, and its manifest there is that of its objects
pub record IsBooked (jobs : List Job) (tables : List Table) (p : LayerName × Manifest) : Type 0 where
  pub among : Has (Backup (record_of p)) jobs
  pub manifest : manifest_code p.1 ≡ (objects_of tables (record_of p)).manifest
  pub chunks : chunk_count p.1.tables ≡ length (objects_of tables (record_of p)).chunks
  pub proper : IsProperManifest p.1

-- layers of one subdirectory have one scope
abbrev pub AreOfOneScope : List LayerRecord → Type 0
AreOfOneScope rs = (q r : LayerRecord) → Has q rs → Has r rs → q.collection ≡ r.collection → q.full ≡ r.full → q.scope ≡ r.scope

-- the cluster keeps the records of its backups, and the manifests of its own layers
pub record HasBackups (c : ClusterState) (tables : List Table) : Type 0 where
  pub backups : (place : ℕ) (r : LayerRecord) → slice_get c.jobs place ≡ Some (Backup r) → IsOwnBackup c tables place r
  pub layers : (p : LayerName × Manifest) → Has p c.book.layers → IsBooked c.jobs tables p
  pub scopes : AreOfOneScope (map record_of c.book.layers)

-- the cluster stands for the machine
pub record StandsFor (c : ClusterState) (m : Machine) : Type 0 where
  pub tables : List Table
  pub keeps : Keeps c tables
  pub machine_is : m ≡ machine_of c tables
  pub backups : HasBackups c tables

-- ---- what commands make of it

-- after a step the cluster has the tables of its machine, and the response is its response
pub record IsStepped (c : ClusterState) (response : Response) (s : Stepped) : Type 0 where
  pub stands : HasTables c s.machine
  pub response_is : response ≡ s.response

-- this test refuses, unless memory was wanting
abbrev pub RefusedBy : Halt → Option Refusal → Type 0
RefusedBy (Refused refusal) test = test ≡ Some refusal
RefusedBy Disk test = ⊥
RefusedBy Memory test = Unit {0}

-- a command of this meaning is refused by that
abbrev pub Refuses : ClusterState → (Machine → Stepped) → Refusal → Type 0
Refuses c meaning refusal = (tables : List Table) → Keeps c tables → meaning (machine_of c tables) ≡ refused (machine_of c tables) refusal

-- a command of this meaning is answered by that, and leaves what it means
abbrev pub Does : ClusterState → ClusterState → (Machine → Stepped) → Result Answer Halt → Type 0
Does old new meaning (Ok answer) = (tables : List Table) → Keeps old tables → IsStepped new (Answered answer) (meaning (machine_of old tables))
Does old new meaning (Err (Refused refusal)) = (new ≡ old) × Refuses old meaning refusal
Does old new meaning (Err Disk) = ⊥
Does old new meaning (Err Memory) = Unit {0}

-- what such commands leave as it was
pub record LeavesRest (old new : ClusterState) : Type 0 where
  pub steps : new.steps ≡ old.steps
  pub book : new.book ≡ old.book
  pub jobs : new.jobs ≡ old.jobs

-- ---- what commands make of it, and of the disk

-- after a step the cluster stands for its machine, with its response, unless the disk failed or memory was wanting
abbrev pub Responds : ClusterState → Stepped → Result Answer Halt → Type 0
Responds c s (Ok answer) = StandsFor c s.machine × (s.response ≡ Answered answer)
Responds c s (Err (Refused refusal)) = StandsFor c s.machine × (s.response ≡ response.Refused refusal)
Responds c s (Err Disk) = Unit {0}
Responds c s (Err Memory) = Unit {0}

-- the same of the disk
abbrev pub IsReadyAfter : Result Answer Halt → Machine → Machine → View → Type 0
IsReadyAfter (Ok answer) m end v = IsReady (Some m) (Some end) v
IsReadyAfter (Err (Refused refusal)) m end v = IsReady (Some m) (Some end) v
IsReadyAfter (Err Disk) m end v = Unit {0}
IsReadyAfter (Err Memory) m end v = Unit {0}

-- the name of an object of one of the machine's layers
abbrev pub IsOfLayers : Machine → Machine → List ℕ → Type 0
IsOfLayers m end n = (r : LayerRecord) × Has r m.layers × Contains (made_layers end) (objects_of end.history.tables r) × stored.IsPartName (objects_of end.history.tables r) n

-- the names of the own cluster's objects that are of layers of the machine after the command, and, of all layers that the script makes, none of a chunk that is marked there
abbrev pub MayPut : Machine → Machine → Objects → List ℕ → Type 0
MayPut m end objects n = IsOwnName end.name n × ((w : stored.LayerObjects) → Contains (made_layers end) w → ¬ AtMarked w objects n) × IsOfLayers m end n

-- the objects of layers of jobs that are still to come are as they were
abbrev pub AreAhead : Machine → Machine → Objects → Objects → Type 0
AreAhead m end old new = (w : stored.LayerObjects) → Contains (made_layers end) w → length m.jobs < w.name.job → (n : List ℕ) → stored.IsPartName w n → at new n ≡ at old n

-- What a command does over a disk that was ready: by its step, and on the way to the end. It puts and removes objects of its cluster, and puts no chunk that was marked as it began.
-- A layer that is open afterwards and wasn't before has its manifest in version 2. Where all layers of the script are done, it does nothing to the disk.
pub record Runs (c : ClusterState) (s : Stepped) (end : Machine) (result : Result Answer Halt) (old new : View) : Type 0 where
  pub responds : Responds c s result
  pub ready : IsReadyAfter result s.machine end new
  pub leaves : LeavesOnly old new (StandsUntil (Some end))
  pub changes : ChangesOnly (MayPut s.machine end old.objects) (IsOwnName end.name) old new
  pub ahead : AreAhead s.machine end old.objects new.objects
  pub manifests : KeepManifests (made_layers end) old.objects new.objects
  pub idle : IsDone end old.objects → IsIdle old new

-- the cluster stands for the machine, the disk is ready, and the end is one to which this step leads
pub record MayStep (c : ClusterState) (m : Machine) (s : Stepped) (end : Machine) (v : View) : Type 0 where
  pub stands : StandsFor c m
  pub ready : IsReady (Some m) (Some end) v
  pub later : IsLater s.machine end

-- the disk failed
abbrev pub is_disk_halt : Halt → Bool
is_disk_halt Disk = true
is_disk_halt (Refused refusal) = false
is_disk_halt Memory = false

-- the disk failed just where the halt says so
abbrev pub HaltCounts : Halt → ℕ → ℕ → Type 0
HaltCounts e before now = Counted (is_disk_halt e) before now

abbrev pub HaltHasCause : {T : Type 0} → ℕ → ℕ → Result T Halt → Type 0
HaltHasCause before now result = HasCauseBy is_disk_halt before now result
