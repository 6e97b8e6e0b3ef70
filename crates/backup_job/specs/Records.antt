-- The jobs that write the layers of records, and that jobs go on while more is added to their tables.
use Rattle.std.specs.Prelude.{◌≡◌, List}
use Rattle.std.specs.List.{AllByRecursion}
use Rattle.history_model.specs.Histories.{Table}
use Rattle.history_model.specs.Layers.{LayerRecord}
use Rattle.version_store.specs.Tables.{Tables}
use Rattle.introduced_spans.specs.declared.plans.TablePlan.{TablePlan}
use Rattle.table_rows.specs.RowTables.{bytes_of}
use Rattle.layer_model.specs.Layers as stored
use Rattle.layer_objects.specs.Contents.{entries_in}
use Rattle.layer_objects.specs.Objects.{described, manifest_of, name_of_record, objects_of, plan_of, rows_of}
use Rattle.layer_objects.specs.Storable.{MayBeWritten}
use Rattle.backup_job.specs.Jobs.{IsAbout, IsStillKept, Job, MayRun, completed, left, started}

-- the job that writes the layer of a record, over the tables of its cluster
abbrev pub job_of : List Table → LayerRecord → Job
job_of tables r = started (name_of_record r) r.history r.scope (plan_of tables r) (described tables)

-- it may run, is about the record's objects, and makes its manifest
pub record WritesLayer (tables : List Table) (r : LayerRecord) : Type 0 where
  pub may : MayRun (bytes_of (rows_of tables)) (job_of tables r)
  pub about : IsAbout (bytes_of (rows_of tables)) (job_of tables r) (objects_of tables r)
  pub manifest : completed (bytes_of (rows_of tables)) (job_of tables r) ≡ manifest_of tables r

-- A job writes the layer of each record of version 2 that may be written, where what its plan exports is still kept.
abbrev pub JobsWriteLayers : Type 0
JobsWriteLayers = (tables : List Table) (r : LayerRecord) → MayBeWritten tables r → r.version ≡ 2 → AllByRecursion (IsStillKept (bytes_of (rows_of tables))) (plan_of tables r).tables → WritesLayer tables r

-- ---- other facts

-- the table's entries are the same over other facts, and what is exported of it is still kept there
pub record StaysAlike (old new : Tables) (plan : TablePlan) : Type 0 where
  pub entries : entries_in new plan ≡ entries_in old plan
  pub kept : IsStillKept new plan

-- the job may run over them, is about the same layers, has the same chunks to write, and makes the same manifest
pub record GoesOn (old new : Tables) (job : Job) : Type 0 where
  pub may : MayRun new job
  pub about : (w : stored.LayerObjects) → IsAbout old job w → IsAbout new job w
  pub rest : left new job ≡ left old job
  pub manifest : completed new job ≡ completed old job

-- Wherever a job came, it goes on over other facts where each of its tables stays alike.
abbrev pub JobsGoOn : Type 0
JobsGoOn = (old new : Tables) (job : Job) → MayRun old job → AllByRecursion (StaysAlike old new) job.plans → GoesOn old new job
