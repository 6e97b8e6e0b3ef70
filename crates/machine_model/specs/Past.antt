-- No command changes what was true up to the clock.
use Rattle.std.specs.Prelude.{◌≡◌, ◌⊎◌, ◌<◌, true, List, ◌++◌, length, Option, Some, None}
use Rattle.mvcc_keys.specs.Times.{time_le}
use Rattle.list_laws.specs.Members.{Has}
use Rattle.history_model.specs.Layers.{LayerRecord}
use Rattle.layer_objects.specs.Past.{KeepsPast}
use Rattle.command_lang.specs.declared.command.Command.{Command}
use Rattle.machine_model.specs.Machine.{World, Job, Machine}
use Rattle.machine_model.specs.Step.{step}

-- a later state of the same cluster: what it has more of are later facts, further jobs, and layers of these
pub record IsLater (old new : Machine) : Type 0 where
  pub name : new.name ≡ old.name
  pub limits : new.limits ≡ old.limits
  pub clock : time_le old.clock new.clock ≡ true
  pub tables : KeepsPast old.clock old.history.tables new.history.tables
  pub more : List Job
  pub jobs : new.jobs ≡ old.jobs ++ more
  pub layers : (r : LayerRecord) → Has r new.layers → Has r old.layers ⊎ (length old.jobs < r.job)

-- the same, where there may be no cluster yet
abbrev pub IsLaterIn : Option Machine → Option Machine → Type 0
IsLaterIn None new = Unit {0}
IsLaterIn (Some old) None = ⊥
IsLaterIn (Some old) (Some new) = IsLater old new

-- whatever the command, the state after it is a later one
abbrev pub StepsAreLater : Type 0
StepsAreLater = (worlds : List World) (m : Machine) (c : Command) → IsLater m (step worlds m c).machine
