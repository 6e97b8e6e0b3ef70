-- Every machine that a script's commands lead to has a proper history.
use Rattle.std.specs.Prelude.{◌≡◌, ◌<◌, ◌≤◌, ◌^◌, ◌-◌, ℕ, ◌+◌, true, List, Some, slice_get}
use Rattle.list_laws.specs.Bytes.{AreBytes}
use Rattle.list_laws.specs.Members.{Has}
use Rattle.mvcc_keys.specs.Times.{IsTime, Time, time_le}
use Rattle.table_descriptors.specs.Descriptors.{Schema}
use Rattle.fact_model.specs.Facts.{date}
use Rattle.history_model.specs.Rows.{RowFact}
use Rattle.history_model.specs.Histories.{Table}
use Rattle.command_lang.specs.declared.command.Command.{Command}
use Rattle.command_lang.specs.Typed.{IsTyped}
use Rattle.machine_model.specs.Machine.{Machine, World}
use Rattle.machine_model.specs.Orders.{IsInOrder}
use Rattle.machine_model.specs.Proper.{IsProperHistory}
use Rattle.machine_model.specs.Script.{script_outcome}
use Rattle.machine_model.specs.Step.{step}

-- facts are dated up to t, and versions go up to n
pub record IsTableWithin (n : ℕ) (t : Time) (table : Table) : Type 0 where
  pub facts : (f : RowFact) → Has f table.facts → time_le (date f) t ≡ true
  pub versions : (d : Schema) → Has d table.descriptors → d.version ≤ n

-- What is so of a machine that n commands lead to. A restore makes two versions of a table at once.
pub record IsProperAfter (n : ℕ) (m : Machine) : Type 0 where
  pub history : IsProperHistory m.history
  pub order : IsInOrder m
  pub tables : (i : ℕ) (table : Table) → slice_get m.history.tables i ≡ Some table → IsTableWithin (n + 1) m.clock table
  pub clock : IsTime m.clock
  pub few : m.limits.tables ≤ 4096
  pub events : m.limits.events ≤ 1000000

-- a command in form leads from a proper machine to a proper one
abbrev pub StepsKeepHistory : Type 0
StepsKeepHistory = (worlds : List World) (n : ℕ) (m : Machine) (c : Command) → n < 2 ^ 32 - 2 → IsProperAfter n m → IsTyped c → IsProperAfter (n + 1) (step worlds m c).machine

-- the machine at the end of a script of bytes has a proper history, in order
abbrev pub ScriptsHaveProperHistories : Type 0
ScriptsHaveProperHistories = (worlds : List World) (script : List ℕ) (m : Machine) → AreBytes script → (script_outcome worlds script).machine ≡ Some m → IsProperHistory m.history × IsInOrder m
