-- One command is one step of the machine.
use Rattle.std.specs.Prelude.{List}
use Rattle.table_descriptors.specs.declared.changes.Change.TheVariants.{Add, Remove, RenameColumn as Renamed, Rename}
use Rattle.command_lang.specs.declared.command.Command.{Command}
use Rattle.command_lang.specs.declared.command.Command.TheVariants.{Cluster, Tick, CreateDatabase, CreateTable, AddColumn, DropColumn, RenameColumn, RenameTable, DropTable, Upsert, Delete, DeleteRange, Select, Gc, BackupDatabase, BackupTables, BackupLatest, RestoreDatabase, Forget, ShowBackups}
use Rattle.reply_texts.specs.declared.answers.Answer.TheVariants.{Nothing}
use Rattle.machine_model.specs.Machine.{World, Machine, Stepped, answered}
use Rattle.machine_model.specs.Tables.{tick, create_database, create_table, alter, drop_table}
use Rattle.machine_model.specs.Backups.{backup_database, backup_latest, backup_tables, show_backups, forget}
use Rattle.machine_model.specs.Restores.{restore_database}
use Rattle.machine_model.specs.TableRows.{upsert, delete, delete_range, select, collect}

-- one case for each command
unfoldable pub step : List World → Machine → Command → Stepped
step worlds m (Cluster name) = answered m Nothing
step worlds m (Tick wall) = tick m wall
step worlds m (CreateDatabase name) = create_database m name
step worlds m (CreateTable table columns key references) = create_table m table columns key references
step worlds m (AddColumn table name kind) = alter m table (Add name kind)
step worlds m (DropColumn table name) = alter m table (Remove name)
step worlds m (RenameColumn table name to) = alter m table (Renamed name to)
step worlds m (RenameTable table to) = alter m table (Rename to)
step worlds m (DropTable table) = drop_table m table
step worlds m (Upsert table rows) = upsert m table rows
step worlds m (Delete table keys) = delete m table keys
step worlds m (DeleteRange table lo hi) = delete_range m table lo hi
step worlds m (Select table at) = select m table at
step worlds m (Gc table before) = collect m table before
step worlds m (BackupDatabase database collection at history) = backup_database m database collection at history
step worlds m (BackupTables tables collection at history) = backup_tables m tables collection at history
step worlds m (BackupLatest collection at history) = backup_latest m collection at history
step worlds m (RestoreDatabase database source collection at new) = restore_database m database source collection at new
step worlds m (Forget source collection start end) = forget m source collection start end
step worlds m (ShowBackups collection) = show_backups m collection
