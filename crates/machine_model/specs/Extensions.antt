-- Scripts that go on where others end: what is stored for a script serves each longer one.
use Rattle.std.specs.Prelude.{◌≡◌, ℕ, Bool, true, false, List, [], ◌∷◌, ◌++◌, Option, Some, None}
use Rattle.outside_world.specs.Objects.{Objects}
use Rattle.command_lang.specs.declared.command.Command.{Command}
use Rattle.command_lang.specs.Lines.{Reading, Skipped, Reads, Malformed, reading}
use Rattle.machine_model.specs.declared.limits.TheConstants.{SCRIPT_BYTES_MAX}
use Rattle.machine_model.specs.Machine.{Machine, Stepped, World}
use Rattle.machine_model.specs.Past.{IsLater}
use Rattle.machine_model.specs.Orders.{IsInOrder}
use Rattle.machine_model.specs.Disks.{StandsUntil}
use Rattle.machine_model.specs.Script.{Line, Within, Beyond, command_step, lines, machine_in, script_outcome}

-- ---- the commands of a script

-- what a line has of commands, in front of those that follow; a line that is malformed ends them
abbrev pub commands_with : Reading → List Command → List Command → List Command
commands_with Skipped same more = same
commands_with (Reads c) same more = c ∷ more
commands_with (Malformed column) same more = []

-- the commands of some lines up to the first malformed one; whether a command came before says how a line is read
abbrev pub commands_in : Bool → List Line → List Command
commands_in first [] = []
commands_in first (Beyond bytes ∷ ls) = []
commands_in first (Within line ∷ ls) = commands_with (reading first line) (commands_in first ls) (commands_in false ls)

-- the commands of a script
unfoldable pub script_commands : List ℕ → List Command
script_commands bytes = commands_in true (lines SCRIPT_BYTES_MAX bytes)

-- what comes of a step, if one is made
abbrev pub if_stepped : Option Stepped → Option Machine → Option Machine
if_stepped None m = None
if_stepped (Some s) m = m

-- the machine after some commands, before which there may be no cluster yet
abbrev pub machine_from : List World → Option Machine → List Command → Option Machine
machine_from worlds m [] = m
machine_from worlds m (c ∷ cs) = if_stepped (command_step worlds m c) (machine_from worlds (machine_in (command_step worlds m c)) cs)

-- a script ends in the machine after its commands
abbrev pub ScriptsEndByCommands : Type 0
ScriptsEndByCommands = (worlds : List World) (script : List ℕ) → (script_outcome worlds script).machine ≡ machine_from worlds None (script_commands script)

-- ---- longer scripts

-- what stands for one machine stands for each later one
abbrev pub LaterMachinesStand : Type 0
LaterMachinesStand = (old new : Machine) → IsInOrder old → IsLater old new → (objects : Objects) → StandsUntil (Some old) objects → StandsUntil (Some new) objects

-- Where one script has a command, and another has the commands of the first and then others, objects that stand for the first stand for
-- the other.
abbrev pub LongerScriptsStand : Type 0
LongerScriptsStand = (worlds : List World) (script longer : List ℕ) (m : Machine) (more : List Command) → (script_outcome worlds script).machine ≡ Some m → script_commands longer ≡ script_commands script ++ more
    → (objects : Objects) → StandsUntil (Some m) objects → StandsUntil (script_outcome worlds longer).machine objects

-- what is written after a newline of a script adds commands, and changes none
abbrev pub AppendedScriptsGoOn : Type 0
AppendedScriptsGoOn = (front more : List ℕ) → (rest : List Command) × (script_commands (front ++ 10 ∷ more) ≡ script_commands (front ++ 10 ∷ []) ++ rest)
