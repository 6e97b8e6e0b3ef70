-- What is so of every machine that a script's commands lead to: how its tables and its jobs are dated.
use Rattle.std.specs.Prelude.{◌≡◌, ℕ, true, List, Some, slice_get}
use Rattle.mvcc_keys.specs.Times.{Time, time_le}
use Rattle.table_descriptors.specs.Descriptors.{Schema}
use Rattle.list_laws.specs.Members.{Has}
use Rattle.history_model.specs.Histories.{Table}
use Rattle.history_model.specs.Layers.{LayerRecord}
use Rattle.layer_objects.specs.Past.{IsBegun}
use Rattle.command_lang.specs.declared.command.Command.{Command}
use Rattle.machine_model.specs.Machine.{Backup, Job, Machine, World}
use Rattle.machine_model.specs.Step.{step}

-- a table has a descriptor, and the dates of its descriptors ascend up to a time
pub record IsTableUpTo (t : Time) (table : Table) : Type 0 where
  pub begun : IsBegun table
  pub dated : (d : Schema) → Has d table.descriptors → time_le d.modified t ≡ true

abbrev pub AreTablesUpTo : Time → List Table → Type 0
AreTablesUpTo t tables = (i : ℕ) (table : Table) → slice_get tables i ≡ Some table → IsTableUpTo t table

-- a layer ends up to a time, and its floor isn't after its end
pub record IsLayerUpTo (t : Time) (r : LayerRecord) : Type 0 where
  pub floor : time_le r.floor r.end ≡ true
  pub over : time_le r.end t ≡ true

abbrev pub AreBackupsUpTo : Time → List Job → Type 0
AreBackupsUpTo t jobs = (place : ℕ) (r : LayerRecord) → slice_get jobs place ≡ Some (Backup r) → IsLayerUpTo t r

-- tables are described, and layers end, up to the clock
pub record IsInOrder (m : Machine) : Type 0 where
  pub tables : AreTablesUpTo m.clock m.history.tables
  pub backups : AreBackupsUpTo m.clock m.jobs

-- whatever the command, the machine after it is in order again
abbrev pub StepsKeepOrder : Type 0
StepsKeepOrder = (worlds : List World) (m : Machine) (c : Command) → IsInOrder m → IsInOrder (step worlds m c).machine
