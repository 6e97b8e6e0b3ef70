-- Every command leads from a proper machine to a proper one.
use Rattle.std.proofs.Common.{ℕ, ◌+◌, ◌-◌, ◌<◌, ◌≤◌, ◌^◌, sym, subst, List}
use Rattle.table_descriptors.specs.declared.changes.Change.TheVariants.{Add, Remove, RenameColumn as Renamed, Rename}
use Rattle.command_lang.specs.declared.command.Command.{Command}
use Rattle.command_lang.specs.declared.command.Command.TheVariants.{Cluster, Tick, CreateDatabase, CreateTable, AddColumn, DropColumn, RenameColumn, RenameTable, DropTable, Upsert, Delete, DeleteRange, Select, Gc, BackupDatabase, BackupTables, BackupLatest, RestoreDatabase, Forget, ShowBackups}
use Rattle.command_lang.specs.Typed.{IsTyped}
use Rattle.machine_model.specs.Machine.{Limits, Machine, World}
use Rattle.machine_model.specs.Orders.{IsInOrder}
use Rattle.machine_model.specs.ProperMachines.{StepsKeepHistory}
use Rattle.machine_model.specs.Backups.{show_backups}
use Rattle.machine_model.specs.Step.{step}
use Rattle.machine_model.proofs.Orders.{steps-order}
use Rattle.machine_model.proofs.Past.{steps-later}
use Rattle.machine_model.proofs.ProperCommands.{IsTypedChange}
use Rattle.machine_model.proofs.ProperSteps.{HasProper, keeps-same}
use Rattle.machine_model.proofs.ProperRestores.{restore-proper}
use Rattle.machine_model.proofs.ProperWalk.{alter-proper, backup-proper, collect-proper, create-proper, database-proper, delete-proper, drop-proper, forget-proper, latest-proper, range-proper, select-proper, tables-proper, tick-proper, upsert-proper}

step-proper : (worlds : List World) (n : ℕ) (m : Machine) (c : Command) → n < 2 ^ 32 - 2 → HasProper n m → IsInOrder m → m.limits.tables ≤ 4096 → m.limits.events ≤ 1000000 → IsTyped c → HasProper (n + 1) (step worlds m c).machine
unfolding step IsTypedChange show_backups
step-proper worlds n m (Cluster name) s p o f r typed = keeps-same n m p
step-proper worlds n m (Tick wall) s p o f r typed = tick-proper n m s p o f r wall typed
step-proper worlds n m (CreateDatabase name) s p o f r typed = database-proper n m s p o f r name typed
step-proper worlds n m (CreateTable table columns key references) s p o f r typed = create-proper n m s p o f r table columns key references typed.0 typed.1 typed.2
step-proper worlds n m (AddColumn table name kind) s p o f r typed = alter-proper n m s p o f r table (Add name kind) typed.1
step-proper worlds n m (DropColumn table name) s p o f r typed = alter-proper n m s p o f r table (Remove name) tt
step-proper worlds n m (RenameColumn table name to) s p o f r typed = alter-proper n m s p o f r table (Renamed name to) typed.2
step-proper worlds n m (RenameTable table to) s p o f r typed = alter-proper n m s p o f r table (Rename to) typed.1
step-proper worlds n m (DropTable table) s p o f r typed = drop-proper n m s p o f r table
step-proper worlds n m (Upsert table rows) s p o f r typed = upsert-proper n m s p o f r table rows typed.1
step-proper worlds n m (Delete table keys) s p o f r typed = delete-proper n m s p o f r table keys typed.1
step-proper worlds n m (DeleteRange table lo hi) s p o f r typed = range-proper n m s p o f r table lo hi typed.1 typed.2
step-proper worlds n m (Select table at) s p o f r typed = select-proper n m s p o f r table at
step-proper worlds n m (Gc table before) s p o f r typed = collect-proper n m s p o f r table before
step-proper worlds n m (BackupDatabase database collection at history) s p o f r typed = backup-proper n m s p o f r database collection at history
step-proper worlds n m (BackupTables tables collection at history) s p o f r typed = tables-proper n m s p o f r tables collection at history
step-proper worlds n m (BackupLatest collection at history) s p o f r typed = latest-proper n m s p o f r collection at history
step-proper worlds n m (RestoreDatabase database source collection at new) s p o f r typed = restore-proper n m s p o f r database source collection at new typed.0 typed.4
step-proper worlds n m (Forget source collection start end) s p o f r typed = forget-proper n m s p o f r source collection start end
step-proper worlds n m (ShowBackups collection) s p o f r typed = keeps-shown
  where
    keeps-shown : HasProper (n + 1) m
    keeps-shown = keeps-same n m p

pub steps-proper : StepsKeepHistory
steps-proper worlds n m c s after typed =
    let q = step-proper worlds n m c s (record { history = after.history; tables = after.tables; clock = after.clock }) after.order after.few after.events typed in
    let later = steps-later worlds m c in
    record {
      history = q.history;
      order = steps-order worlds m c after.order;
      tables = q.tables;
      clock = q.clock;
      few = subst (λ (l : Limits). l.tables ≤ 4096) (sym later.limits) after.few;
      events = subst (λ (l : Limits). l.events ≤ 1000000) (sym later.limits) after.events;
    }
