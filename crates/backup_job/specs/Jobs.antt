-- A backup as a job: what it wrote, and what it has still to write.
use Rattle.std.specs.Prelude.{◌≡◌, ℕ, zero, suc, ◌≤◌, true, Bool, List, [], ◌∷◌, ◌++◌, length, map, drop, slice_get, Option, Some, None}
use Rattle.std.specs.List.{AllByRecursion}
use Rattle.mvcc_keys.specs.Times.{time_le}
use Rattle.mvcc_keys.specs.declared.entries.Entry.{Entry}
use Rattle.table_descriptors.specs.declared.scopes.Scope.{Scope}
use Rattle.schema_catalog.specs.Catalogs.{Schemas}
use Rattle.version_store.specs.Tables.{Tables}
use Rattle.span_export.specs.declared.cursor.Place.{Place}
use Rattle.span_export.specs.Plans.{start_of}
use Rattle.span_export.specs.Pieces.{after_place}
use Rattle.introduced_spans.specs.declared.plans.LayerPlan.{LayerPlan}
use Rattle.introduced_spans.specs.declared.plans.TablePlan.{TablePlan}
use Rattle.chunk_file.specs.Chunks.{chunk_bytes}
use Rattle.layer_manifest.specs.declared.manifest.Manifest.{Manifest}
use Rattle.layer_manifest.specs.Manifests.{IsProperManifest, chunk_count}
use Rattle.layer_manifest.specs.ManifestFiles.{manifest_code}
use Rattle.layer_model.specs.declared.names.LayerName.{LayerName}
use Rattle.layer_model.specs.Layers.{LayerObjects}
use Rattle.layer_objects.specs.Contents.{bare_manifest, chunk_size, cut, entries_in, in_a_row, layer_of, pieces_of, with_each, with_tables}

-- the layer's name, the plans of its tables, the place of the table of which entries are written now, the cursor in it, and the manifest
-- with the chunks so far
pub record Job : Type 0 where
  pub name : LayerName
  pub plans : List TablePlan
  pub place : ℕ
  pub cursor : Option Place
  pub manifest : Manifest

-- a job that wrote nothing yet
abbrev pub started : LayerName → Bool → Scope → LayerPlan → Schemas → Job
started name history scope plan catalog = record { name = name; plans = plan.tables; place = 0; cursor = None; manifest = bare_manifest name history scope plan catalog }

-- ---- what is left

-- the pieces of a table's entries after a cursor
abbrev pub pieces_after : Tables → Option Place → TablePlan → List (List Entry)
pieces_after h cursor plan = cut chunk_size (after_place cursor (entries_in h plan))

-- the pieces of each table that are left: none of those before a place, those after the cursor at it, and all after it
abbrev pub remaining_from : Tables → ℕ → Option Place → List TablePlan → List (List (List Entry))
remaining_from h place cursor [] = []
remaining_from h zero cursor (plan ∷ plans) = pieces_after h cursor plan ∷ map (pieces_of h) plans
remaining_from h (suc place) cursor (plan ∷ plans) = [] ∷ remaining_from h place cursor plans

abbrev pub remaining : Tables → Job → List (List (List Entry))
remaining h job = remaining_from h job.place job.cursor job.plans

-- the same in a row, as they are written
abbrev pub left : Tables → Job → List (List Entry)
left h job = in_a_row (remaining h job)

-- the manifest with the chunks so far and those that are left
abbrev pub completed : Tables → Job → Manifest
completed h job = with_tables job.manifest (with_each job.manifest.tables (remaining h job))

-- how many chunks are written, which is the number of the next
abbrev pub written : Job → ℕ
written job = chunk_count job.manifest.tables

-- ---- what a job goes on from

-- what is exported of a table isn't before its threshold
abbrev pub IsStillKept : Tables → TablePlan → Type 0
IsStillKept h plan = time_le (h.threshold plan.id) (start_of plan.plan) ≡ true

-- the cursor is in the entries of the table at a place: they are some that are done, and then those after it
abbrev pub IsReached : Tables → ℕ → Option Place → List TablePlan → Type 0
IsReached h place cursor plans = (plan : TablePlan) → slice_get plans place ≡ Some plan → (done : List Entry) × (entries_in h plan ≡ done ++ after_place cursor (entries_in h plan))

-- Over these facts of the store the job can go on: what its plans export is kept, its cursor was reached, and once it is complete its
-- manifest is a proper one of version 2.
pub record MayRun (h : Tables) (job : Job) : Type 0 where
  pub kept : AllByRecursion (IsStillKept h) job.plans
  pub reached : IsReached h job.place job.cursor job.plans
  pub proper : IsProperManifest (completed h job)
  pub version : job.manifest.version ≡ 2

-- the job still makes the same layer
pub record IsSameJob (h : Tables) (old new : Job) : Type 0 where
  pub name : new.name ≡ old.name
  pub manifest : completed h new ≡ completed h old

-- The job writes this layer over these facts: the layer has its name and its manifest once it is complete, and the chunks from the next
-- number on are those that are left.
pub record IsAbout (h : Tables) (job : Job) (w : LayerObjects) : Type 0 where
  pub name : w.name ≡ job.name
  pub manifest : w.manifest ≡ manifest_code (completed h job)
  pub within : written job ≤ length w.chunks
  pub chunks : drop (written job) w.chunks ≡ map chunk_bytes (left h job)

-- the layer that a job is about which wrote nothing yet
abbrev pub layer_to_write : Tables → Job → LayerObjects
layer_to_write h job = layer_of job.name (completed h job) (left h job)

-- A job that is started over a proper manifest may run, and is about its layer.
abbrev pub StartedJobsRun : Type 0
StartedJobsRun = (h : Tables) (name : LayerName) (history : Bool) (scope : Scope) (plan : LayerPlan) (catalog : Schemas)
    → AllByRecursion (IsStillKept h) plan.tables → IsProperManifest (completed h (started name history scope plan catalog))
    → MayRun h (started name history scope plan catalog) × IsAbout h (started name history scope plan catalog) (layer_to_write h (started name history scope plan catalog))
