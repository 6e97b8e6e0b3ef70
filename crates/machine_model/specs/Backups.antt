-- The commands on backups, one definition each. The job of a backup is run whole.
use Rattle.std.specs.Prelude.{ℕ, ◌+◌, ◌-◌, Bool, not, ◌&&◌, List, [], ◌∷◌, ◌++◌, length, filter, slice_get, Option, Some, None, option_and_then}
use Rattle.std.specs.List.{find, list_any}
use Rattle.std.specs.Str.{bytes_eq}
use Rattle.mvcc_keys.specs.Times.{Time, zero_time, time_eq, time_le}
use Rattle.table_descriptors.specs.declared.scopes.Scope.{Scope}
use Rattle.table_descriptors.specs.declared.scopes.Scope.TheVariants.{Database, Tables}
use Rattle.table_descriptors.specs.Descriptors.{Schema}
use Rattle.history_model.specs.Histories.{schemas_of, is_named}
use Rattle.history_model.specs.Layers.{LayerRecord}
use Rattle.schema_catalog.specs.Catalogs.{Schemas, has_database, missing_fault, offline_fault}
use Rattle.introduced_spans.specs.declared.plans.PlanFault.{PlanFault}
use Rattle.introduced_spans.specs.declared.plans.PlanFault.TheVariants as plan
use Rattle.introduced_spans.specs.Spans.{descriptors_of, floor_of, plan_fault, table_ids}
use Rattle.layer_manifest.specs.declared.manifest.Manifest.{Manifest}
use Rattle.layer_manifest.specs.Manifests.{chunk_count, entry_count}
use Rattle.layer_objects.specs.Objects.{by_id, manifest_of, name_of_record, table_threshold}
use Rattle.layer_book.specs.Books.{same_name}
use Rattle.layer_book.specs.Subdirectories.{first_of, last_end_of, last_full_of, layers_of, subdirectories_of}
use Rattle.script_grammar.specs.declared.backups.Src.{Src}
use Rattle.script_grammar.specs.declared.backups.Src.TheVariants.{Latest, Named}
use Rattle.reply_texts.specs.declared.refusals.Refusal.{Refusal}
use Rattle.reply_texts.specs.declared.refusals.Refusal.TheVariants.{NoSuchDatabase, NoSuchBackup, NoSuchLayer, EndNotAfter, StartCollected, Collected}
use Rattle.reply_texts.specs.declared.answers.Answer.{Answer}
use Rattle.reply_texts.specs.declared.answers.Answer.TheVariants.{Plain, BackupDone, BackupsShown}
use Rattle.machine_model.specs.declared.extents.Extent.{Extent}
use Rattle.machine_model.specs.Machine.{Backup, Machine, Stepped, catalog_of, answered, refusal_if, judged, drawing, with_found}
use Rattle.machine_model.specs.Refusals.{catalog_refusal}
use Rattle.machine_model.specs.TableRows.{future_refusal}

-- ---- BACKUP

-- What is done up to an end: the time that is given, where that isn't after the clock, or a time that is drawn. The second time is the
-- clock after it.
abbrev pub ending : Machine → Option Time → (Time → Time → Stepped) → Stepped
ending m None change = drawing m (λ t. change t t)
ending m (Some t) change = judged m (future_refusal m t ∷ []) (change t m.clock)

-- the number of the next job
abbrev pub next_job : Machine → ℕ
next_job m = length m.jobs + 1

abbrev pub thresholds : Machine → ℕ → Time
thresholds m = by_id zero_time table_threshold m.history.tables

-- with history the floor isn't before what was collected of the tables that the layer introduces
abbrev pub floor_over : Machine → Extent → Time
floor_over m x = floor_of (schemas_of m.history.tables) x.scope x.start x.end x.history (thresholds m)

-- the record of the layer that the next job makes
abbrev pub layer_record : Machine → Extent → LayerRecord
layer_record m x = record {
  collection = x.collection;
  cluster = m.name;
  full = x.full;
  start = x.start;
  end = x.end;
  job = next_job m;
  floor = floor_over m x;
  history = x.history;
  scope = x.scope;
  version = 2;
}

-- the end isn't after the last one
abbrev pub end_refusal : Time → Time → Option Refusal
end_refusal end last = refusal_if (time_le end last) (EndNotAfter end last)

abbrev pub refusal_of_plan : PlanFault → Option Refusal
refusal_of_plan (plan.StartCollected table at start) = Some (StartCollected table at start)
refusal_of_plan (plan.Collected table at) = Some (Collected table at)
refusal_of_plan plan.Memory = None

-- what the layer asks for was collected
abbrev pub plan_refusal : Machine → Extent → Option Refusal
plan_refusal m x = option_and_then refusal_of_plan (plan_fault (schemas_of m.history.tables) x.scope x.start x.end x.history (thresholds m))

-- the numbers of the layer are those of its manifest
abbrev pub backup_done : LayerRecord → Manifest → Answer
backup_done r manifest = BackupDone r.job r.cluster r.full r.start r.end (entry_count manifest.tables) (chunk_count manifest.tables)

abbrev pub with_backup : Machine → Time → LayerRecord → Machine
with_backup m clock r = record m { clock = clock; layers = m.layers ++ r ∷ []; jobs = m.jobs ++ Backup r ∷ [] }

-- a backup whose end has to be after the last one, where a first list of tests refuses nothing
abbrev pub backup : Machine → List (Option Refusal) → Extent → Time → Time → Stepped
backup m tests x last clock =
    let r = layer_record m x in
    judged m (tests ++ end_refusal x.end last ∷ plan_refusal m x ∷ []) (answered (with_backup m clock r) (backup_done r (manifest_of m.history.tables r)))

-- ---- full backups

abbrev pub full_extent : List ℕ → Scope → Bool → Time → Extent
full_extent collection scope history end = record { collection = collection; full = end; start = zero_time; end = end; history = history; scope = scope }

-- the greatest end of a full backup in an own subdirectory of the collection, or zero
abbrev pub last_full : Machine → List ℕ → Time
last_full m collection = last_full_of name_of_record collection m.layers

abbrev pub full_backup : Machine → List (Option Refusal) → List ℕ → Scope → Bool → Time → Time → Stepped
full_backup m tests collection scope history end clock = backup m tests (full_extent collection scope history end) (last_full m collection) clock

-- the database isn't there
abbrev pub absent_refusal : Schemas → List ℕ → Option Refusal
absent_refusal s database = refusal_if (not (has_database s database)) (NoSuchDatabase database)

-- BACKUP DATABASE
unfoldable pub backup_database : Machine → List ℕ → List ℕ → Option Time → Bool → Stepped
backup_database m database collection at history = ending m at (λ end clock. full_backup m (absent_refusal (catalog_of m) database ∷ []) collection (Database database) history end clock)

-- one of the names belongs at t to the table with these descriptors
abbrev pub has_one_of : List (List ℕ × List ℕ) → Time → List Schema → Bool
has_one_of names t ds = list_any (λ name. is_named name t ds) names

-- the ids of the tables to which names belong at t, ascending
unfoldable pub ids_named : List (List Schema) → List (List ℕ × List ℕ) → Time → List ℕ
ids_named tables names t = filter (λ id. has_one_of names t (descriptors_of tables id)) (table_ids tables)

-- BACKUP TABLE: names are looked up as of the end, each before the state of any is asked for
unfoldable pub backup_tables : Machine → List (List ℕ × List ℕ) → List ℕ → Option Time → Bool → Stepped
backup_tables m names collection at history = ending m at (λ end clock.
    full_backup m (catalog_refusal (missing_fault (catalog_of m) end names) ∷ catalog_refusal (offline_fault (catalog_of m) end names) ∷ [])
    collection (Tables (ids_named (schemas_of m.history.tables) names end)) history end clock)

-- ---- SHOW BACKUPS

-- the subdirectories of a collection that have an own layer
abbrev pub own_subdirectories : Machine → List ℕ → List (List ℕ × Time)
own_subdirectories m collection = subdirectories_of name_of_record collection m.layers

-- SHOW BACKUPS
unfoldable pub show_backups : Machine → List ℕ → Stepped
show_backups m collection = answered m (BackupsShown (own_subdirectories m collection))

-- ---- subdirectories

abbrev pub is_subdirectory : List ℕ → Time → List ℕ × Time → Bool
is_subdirectory cluster full s = bytes_eq s.0 cluster && time_eq s.1 full

-- the one of some subdirectories that is meant: LATEST is the last
abbrev pub source_among : Src → List (List ℕ × Time) → Option (List ℕ × Time)
source_among Latest subdirectories = slice_get subdirectories (length subdirectories - 1)
source_among (Named cluster full) subdirectories = find (is_subdirectory cluster full) subdirectories

-- what is done with the subdirectory that a source names
abbrev pub with_source : Machine → Src → List ℕ → (List ℕ × Time → Stepped) → Stepped
with_source m source collection change = with_found m NoSuchBackup (source_among source (own_subdirectories m collection)) change

-- its layers by start, end, job
abbrev pub layers_in : Machine → List ℕ → List ℕ × Time → List LayerRecord
layers_in m collection s = layers_of name_of_record collection s.0 s.1 m.layers

-- ---- BACKUP INTO LATEST

-- after the layers of a subdirectory, of which this is one and the last end is this: all of them have one scope
abbrev pub next_extent : List ℕ → LayerRecord → Time → Bool → Time → Extent
next_extent collection r last history end = record { collection = collection; full = r.full; start = last; end = end; history = history; scope = r.scope }

-- the greatest end of the layers of a subdirectory, or zero
abbrev pub last_end_in : Machine → List ℕ → List ℕ × Time → Time
last_end_in m collection s = last_end_of name_of_record collection s.0 s.1 m.layers

-- an increment in a subdirectory, of the scope of its first layer: it has at least one
abbrev pub increment_in : Machine → List ℕ → List ℕ × Time → Bool → Time → Time → Stepped
increment_in m collection s history end clock = with_found m NoSuchBackup (first_of name_of_record collection s.0 s.1 m.layers) (λ r. backup m [] (next_extent collection r (last_end_in m collection s) history end) (last_end_in m collection s) clock)

-- BACKUP INTO LATEST
unfoldable pub backup_latest : Machine → List ℕ → Option Time → Bool → Stepped
backup_latest m collection at history = ending m at (λ end clock. with_source m Latest collection (λ s. increment_in m collection s history end clock))

-- ---- FORGET

abbrev pub is_between_times : Time → Time → LayerRecord → Bool
is_between_times start end r = time_eq r.start start && time_eq r.end end

-- without the layer of that name
abbrev pub forgetting : Machine → LayerRecord → Machine
forgetting m r = record m { layers = filter (λ x. not (same_name (name_of_record x) (name_of_record r))) m.layers }

-- FORGET
unfoldable pub forget : Machine → Src → List ℕ → Time → Time → Stepped
forget m source collection start end =
    with_source m source collection (λ s. with_found m NoSuchLayer (find (is_between_times start end) (layers_in m collection s)) (λ r. answered (forgetting m r) Plain))
