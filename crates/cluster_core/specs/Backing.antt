-- What the steps of BACKUP and of FORGET find and leave.
use Rattle.std.specs.Prelude.{◌≡◌, ◌⊎◌, ℕ, true, List, [], ◌∷◌, ◌++◌, map, Option, Some, None, Result, Ok, Err}
use Rattle.std.specs.List.{AllByRecursion}
use Rattle.mvcc_keys.specs.Times.{Time, next, time_le, time_lt}
use Rattle.list_laws.specs.Members.{Has}
use Rattle.history_model.specs.Layers.{LayerRecord}
use Rattle.layer_manifest.specs.declared.manifest.Manifest.{Manifest}
use Rattle.layer_manifest.specs.declared.manifest.TablePart.{TablePart}
use Rattle.layer_manifest.specs.Manifests.{IsProperScope, chunk_count, entry_count}
use Rattle.layer_model.specs.declared.names.LayerName.{LayerName}
use Rattle.backup_job.specs.Jobs.{Job}
use Rattle.backup_job.specs.Records.{WritesLayer, job_of}
use Rattle.layer_objects.specs.Objects.{bare}
use Rattle.layer_objects.specs.Storable.{AreListable, IsRecord, MayBeWritten}
use Rattle.layer_book.specs.Books.{Book, name_in, with_layer}
use Rattle.layer_book.specs.Subdirectories.{layers_of, subdirectories_of}
use Rattle.script_grammar.specs.declared.backups.Src.{Src}
use Rattle.reply_texts.specs.declared.refusals.Refusal.{Refusal}
use Rattle.reply_texts.specs.declared.refusals.Refusal.TheVariants.{ClockFull, Future, NoSuchBackup}
use Rattle.reply_texts.specs.declared.answers.Answer.{Answer}
use Rattle.reply_texts.specs.declared.answers.Answer.TheVariants.{BackupDone}
use Rattle.machine_model.specs.Machine as machine
use Rattle.machine_model.specs.Machine.{Machine, first_refusal, refusal_if}
use Rattle.machine_model.specs.declared.extents.Extent.{Extent}
use Rattle.machine_model.specs.Backups.{end_refusal, layer_record, plan_refusal, source_among}
use Rattle.cluster_core.specs.declared.halts.Halt.{Halt}
use Rattle.cluster_core.specs.declared.halts.Halt.TheVariants.{Refused, Disk, Memory}
use Rattle.cluster_core.specs.ClusterView.{ClusterState, record_of}
use Rattle.cluster_core.specs.Standing.{RefusedBy, StandsFor}

-- ---- the end of a backup

-- the end that is given or drawn, and the clock after it, where no test refuses that
abbrev pub IsEnding : Time → Option Time → Time × Time → Type 0
IsEnding clock None x = (next clock ≡ Some x.0) × (x.1 ≡ x.0)
IsEnding clock (Some t) x = (refusal_if (time_lt clock t) (Future clock) ≡ None) × (x.0 ≡ t) × (x.1 ≡ clock)

-- why there is none
abbrev pub IsEndingFault : Time → Option Time → Halt → Type 0
IsEndingFault clock None e = (next clock ≡ None) × (e ≡ Refused ClockFull)
IsEndingFault clock (Some t) e = RefusedBy e (refusal_if (time_lt clock t) (Future clock))

-- ---- the job of a backup

-- the first test that refuses a layer
abbrev pub layer_refusal : Machine → Extent → Time → Option Refusal
layer_refusal m x last = first_refusal (end_refusal x.end last ∷ plan_refusal m x ∷ [])

-- A layer that is to go on after the last end: its scope is a proper one, its start isn't after that end, and its full backup is itself or one
-- that doesn't end after it.
pub record IsNext (x : Extent) (last : Time) : Type 0 where
  pub scope : IsProperScope x.scope
  pub from : time_le x.start last ≡ true
  pub full : (x.full ≡ x.end) ⊎ (time_le x.full last ≡ true)

-- the own layers of the subdirectory have the scope
abbrev pub IsOfScopeOf : Book → Extent → Type 0
IsOfScopeOf book x = (r : LayerRecord) → Has r (map record_of book.layers) → r.collection ≡ x.collection → r.full ≡ x.full → r.scope ≡ x.scope

-- a job for a layer that no test refuses; it may run, and writes the layer
pub record IsBackupJob (m : Machine) (x : Extent) (last : Time) (job : Job) : Type 0 where
  pub passed : layer_refusal m x last ≡ None
  pub is : job ≡ job_of m.history.tables (layer_record m x)
  pub form : IsRecord (layer_record m x)
  pub listed : AllByRecursion (λ (t : TablePart). AreListable t.descriptors) (bare m.history.tables (layer_record m x)).tables
  pub may : MayBeWritten m.history.tables (layer_record m x)
  pub writes : WritesLayer m.history.tables (layer_record m x)

-- what a backup that is done is answered
abbrev pub done_of : LayerName → Manifest → Answer
done_of n m = BackupDone n.job n.cluster n.full n.start n.end (entry_count m.tables) (chunk_count m.tables)

-- a job more, which is done or failed
abbrev pub with_job : ClusterState → Job → ClusterState
with_job c job = record c { jobs = c.jobs ++ machine.Backup (record_of (job.name, job.manifest)) ∷ [] }

-- and its layer, which is finished
abbrev pub with_backup : ClusterState → Job → ClusterState
with_backup c job = record (with_job c job) { book = with_layer c.book job.name job.manifest }

-- ---- the layers of a source

-- the own layers of the subdirectory that a source names
pub record AreLayersFrom (book : Book) (source : Src) (collection : List ℕ) (layers : List (LayerName × Manifest)) : Type 0 where
  pub subdirectory : List ℕ × Time
  pub among : source_among source (subdirectories_of name_in collection book.layers) ≡ Some subdirectory
  pub are : layers ≡ layers_of name_in collection subdirectory.0 subdirectory.1 book.layers

abbrev pub IsSourceFault : Book → Src → List ℕ → Halt → Type 0
IsSourceFault book source collection (Refused refusal) = (refusal ≡ NoSuchBackup) × (source_among source (subdirectories_of name_in collection book.layers) ≡ None)
IsSourceFault book source collection Disk = ⊥
IsSourceFault book source collection Memory = Unit {0}

-- ---- every disk

-- the cluster stands for some machine, unless the disk failed or memory was wanting
abbrev pub StandsStill : Result Answer Halt → ClusterState → Type 0
StandsStill (Ok answer) c = (m : Machine) × StandsFor c m
StandsStill (Err (Refused refusal)) c = (m : Machine) × StandsFor c m
StandsStill (Err Disk) c = Unit {0}
StandsStill (Err Memory) c = Unit {0}
