-- What is seen of a cluster in memory.
use Rattle.std.specs.Prelude.{ℕ, ◌+◌, ◌≤◌, Bool, List, length, map}
use Rattle.mvcc_keys.specs.Times.{Time}
use Rattle.table_descriptors.specs.Descriptors.{Schema}
use Rattle.list_laws.specs.Members.{Has}
use Rattle.schema_catalog.specs.Catalogs.{Schemas}
use Rattle.version_store.specs.declared.mvcc_map.MvccMap.{MvccMap}
use Rattle.history_model.specs.Layers.{LayerRecord}
use Rattle.layer_manifest.specs.declared.manifest.Manifest.{Manifest}
use Rattle.layer_model.specs.declared.names.LayerName.{LayerName}
use Rattle.layer_book.specs.Books.{Book}
use Rattle.machine_model.specs.Machine as machine
use Rattle.cluster_core.specs.declared.jobs.Job.{Job}
use Rattle.cluster_core.specs.declared.jobs.Job.TheVariants.{Backup, Restore}
use Rattle.cluster_core.specs.declared.cluster.Cluster.TheInside.{Inside}

-- ---- jobs and layers

-- the record of a layer of that name with this manifest
abbrev pub record_of : LayerName × Manifest → LayerRecord
record_of p = record {
  collection = p.0.collection;
  cluster = p.0.cluster;
  full = p.0.full;
  start = p.0.start;
  end = p.0.end;
  job = p.0.job;
  floor = p.1.floor;
  history = p.1.history;
  scope = p.1.scope;
  version = p.1.version;
}

-- what a machine keeps of a job
abbrev pub recorded : Job → machine.Job
recorded (Backup job) = machine.Backup (record_of (job.name, job.manifest))
recorded Restore = machine.Restore

-- ---- the cluster

-- its name; how many facts may ever be accepted; its clock, catalog and store, own layers and jobs; how many facts were accepted, commands
-- executed and descriptors made; whether a command ended it
pub record ClusterState : Type 0 where
  pub name : List ℕ
  pub most_events : ℕ
  pub clock : Time
  pub schemas : Schemas
  pub store : MvccMap
  pub book : Book
  pub jobs : List machine.Job
  pub events : ℕ
  pub steps : ℕ
  pub changes : ℕ
  pub ended : Bool

abbrev pub view_of : Inside → ClusterState
view_of c = record { name = c.name; most_events = c.most_events; clock = c.clock; schemas = c.catalog; store = c.rows; book = c.book; jobs = map recorded c.jobs.items; events = c.events; steps = c.steps; changes = c.changes; ended = c.ended }

-- no descriptor has a greater version
abbrev pub AreWithin : ℕ → List (List Schema) → Type 0
AreWithin n tables = (ds : List Schema) (d : Schema) → Has ds tables → Has d ds → d.version ≤ n

-- each command but a restore makes at most one descriptor and one job; a restore's tables have two, which aren't counted, so no version is
-- above the number of counted ones by more than two
pub record IsSound (c : Inside) : Type 0 where
  pub room : c.events ≤ c.most_events
  pub versions : AreWithin (c.changes + 2) c.catalog.tables
  pub changes : c.changes ≤ c.steps
  pub steps : c.steps ≤ 67108864
  pub few : c.most_events ≤ 1000000
  pub jobs : length c.jobs.items ≤ c.steps
