-- How a run ends, and what each ending says of the script and of what was written.
use Rattle.std.specs.Prelude.{◌≡◌, ◌≢◌, ◌⊎◌, codes, ℕ, ◌<◌, ◌≤◌, ◌-◌, ◌^◌, Bool, true, false, List, [], ◌∷◌, ◌++◌, take, Option, Some, None, Result, Ok, Err}
use Rattle.std.specs.List.{Contains}
use Rattle.std.specs.Str.{bytes_eq}
use Rattle.outside_world.specs.Told.{told_before}
use Rattle.outside_world.specs.Causes.{Rose}
use Rattle.outside_world.specs.Disk.{View}
use Rattle.outside_world.specs.declared.disk.DiskFault.{DiskFault as Outage}
use Rattle.outside_world.specs.declared.disk.DiskFault.TheVariants as disk
use Rattle.outside_world.specs.Moments.{ChangesOnly, LeavesOnly}
use Rattle.outside_world.specs.Objects.{Objects}
use Rattle.layer_model.specs.Layers.{LayerObjects}
use Rattle.layer_model.specs.Names.{IsOwnName}
use Rattle.collection_dir.specs.Footprints.{AtMarked}
use Rattle.collection_dir.specs.Standing.{KeepManifests}
use Rattle.command_lang.specs.declared.command.Command.{Command}
use Rattle.command_lang.specs.Lines.{Reads, reading}
use Rattle.machine_model.specs.Machine.{World, Machine}
use Rattle.machine_model.specs.Disks.{IsDoneIn, IsIdle, IsReady, StandsUntil, made_layers}
use Rattle.machine_model.specs.Script.{Outcome, script_outcome, whole_lines}
use Rattle.machine_model.specs.Extensions.{script_commands}
use Rattle.cluster_core.specs.Stepping.{is_of_disk}
use Rattle.backup_run.specs.declared.stops.Ending.{Ending}
use Rattle.backup_run.specs.declared.stops.Ending.TheVariants.{AllDone, SomeRefused, IllFormed, ReadFault, Unwritten, DiskFailed, NoMemory}
use Rattle.backup_run.specs.declared.stops.Stop.{Stop}
use Rattle.backup_run.specs.declared.stops.Stop.TheVariants.{Malformed, WriteFault, DiskFault, Memory}

-- a text begins with another
abbrev pub Begins : List ℕ → List ℕ → Type 0
Begins front whole = (rest : List ℕ) × (whole ≡ front ++ rest)

-- some front of the text was written
abbrev pub WritesPart : Option (List ℕ) → Option (List ℕ) → List ℕ → Type 0
WritesPart old new text = (n : ℕ) × (new ≡ told_before old (take n text))

-- this text is the whole of what a malformed script is answered
abbrev pub IsLast : List ℕ → Outcome → Type 0
IsLast text o = (o.text ≡ text) × (o.malformed ≡ true)

-- a line that is read, where a command came before it, as a command that may call the disk
pub record IsLineOfDisk (line : List ℕ) : Type 0 where
  pub command : Command
  pub reads : reading false line ≡ Reads command
  pub of_disk : is_of_disk command ≡ true

-- a line is at its end before these bytes: there are none, or a newline comes first
abbrev pub EndsLine : List ℕ → Type 0
EndsLine [] = Unit {0}
EndsLine (b ∷ bs) = b ≡ 10

-- This text is all that is answered to the first lines of the bytes that were read, where `more` are those to come. The line after them
-- was read too, up to its end, and is a command that may call the disk.
pub record AnswersFront (whole : List ℕ → Outcome) (read more text : List ℕ) : Type 0 where
  pub front : List ℕ
  pub line : List ℕ
  pub rest : List ℕ
  pub split : read ≡ (front ++ line) ++ rest
  pub lines_are : whole_lines (front ++ line) ≡ front
  pub ends : EndsLine (rest ++ more)
  pub meets : IsLineOfDisk line
  pub text_is : text ≡ (whole front).text

-- what a stop says of the bytes that were read, the text so far, and the bytes that were to come. Where the disk failed, the text is all
-- that is answered to the commands before the one that met the fault
abbrev pub EndsBy : Stop → (List ℕ → Outcome) → List ℕ → List ℕ → List ℕ → Type 0
EndsBy Malformed whole read text more = IsLast text (whole (read ++ more))
EndsBy WriteFault whole read text more = Begins text (whole (read ++ more)).text
EndsBy DiskFault whole read text more = AnswersFront whole read more text × Begins text (whole (read ++ more)).text
EndsBy Memory whole read text more = Begins text (whole (read ++ more)).text

-- why a line gave no reply
abbrev pub stop_of : Outage → Stop
stop_of disk.Failed = DiskFault
stop_of disk.Memory = Memory

abbrev pub ending_of : Stop → Ending
ending_of Malformed = IllFormed
ending_of WriteFault = Unwritten
ending_of DiskFault = DiskFailed
ending_of Memory = NoMemory

-- a run that read all: some reply was a refusal, or none was
abbrev pub done_ending : Bool → Ending
done_ending false = AllDone
done_ending true = SomeRefused

-- the number of an ending
abbrev pub code_of : Ending → ℕ
code_of AllDone = 0
code_of SomeRefused = 1
code_of IllFormed = 3
code_of ReadFault = 4
code_of Unwritten = 5
code_of DiskFailed = 6
code_of NoMemory = 7

-- ---- what an ending says

-- the outcome is this text with no malformed line, and some reply is a refusal or none is
pub record IsWhole (refused : Bool) (text : List ℕ) (o : Outcome) : Type 0 where
  pub text_is : o.text ≡ text
  pub refused_is : o.refused ≡ refused
  pub well_formed : o.malformed ≡ false

-- What an ending says of the bytes that were read, of those that the source still tells, and of what was written, where `whole` is the
-- outcome of all bytes. All done: nothing is left, and all replies were written. Ill-formed: all up to the malformed line was, with its
-- own. A read fault: the replies to the lines that were read whole. A fault of the disk: those to the commands before the one that met
-- it. Else a front.
abbrev pub Answers : Ending → (List ℕ → Outcome) → List ℕ → List ℕ → List ℕ → Type 0
Answers AllDone whole read more written = (more ≡ []) × IsWhole false written (whole read)
Answers SomeRefused whole read more written = (more ≡ []) × IsWhole true written (whole read)
Answers IllFormed whole read more written = IsLast written (whole (read ++ more))
Answers ReadFault whole read more written = (written ≡ (whole (whole_lines read)).text) × Begins written (whole (read ++ more)).text
Answers Unwritten whole read more written = Begins written (whole (read ++ more)).text
Answers DiskFailed whole read more written = AnswersFront whole read more written × Begins written (whole (read ++ more)).text
Answers NoMemory whole read more written = Begins written (whole (read ++ more)).text

-- the same, where the input is at its end, and these bytes of a line wait for it
abbrev pub AnswersAtEnd : Ending → List ℕ → List ℕ → Outcome → Type 0
AnswersAtEnd AllDone pending text o = IsWhole false text o
AnswersAtEnd SomeRefused pending text o = IsWhole true text o
AnswersAtEnd IllFormed pending text o = IsLast text o
AnswersAtEnd ReadFault pending text o = ⊥
AnswersAtEnd Unwritten pending text o = Begins text o.text
AnswersAtEnd DiskFailed pending text o = (text ≡ []) × IsLineOfDisk pending
AnswersAtEnd NoMemory pending text o = Begins text o.text

-- the run came to the end of its script, or of what is well formed of it
abbrev pub IsComplete : Ending → Type 0
IsComplete AllDone = Unit {0}
IsComplete SomeRefused = Unit {0}
IsComplete IllFormed = Unit {0}
IsComplete ReadFault = ⊥
IsComplete Unwritten = ⊥
IsComplete DiskFailed = ⊥
IsComplete NoMemory = ⊥

-- ---- the disk

-- a name of an object of the cluster that a script names
abbrev pub IsOwnIn : Option Machine → List ℕ → Type 0
IsOwnIn None n = ⊥
IsOwnIn (Some m) n = IsOwnName m.name n

-- such a name, and, of all layers that the script makes, of no chunk that was marked in these objects, and of no mark of one
abbrev pub MayPutIn : Option Machine → Objects → List ℕ → Type 0
MayPutIn None began n = ⊥
MayPutIn (Some end) began n = IsOwnName end.name n × ((w : LayerObjects) → Contains (made_layers end) w → ¬ AtMarked w began n)

-- a layer that the script makes and that is open has its manifest in version 2, unless it was open before, and its manifest is as it was
abbrev pub KeepManifestsIn : Option Machine → Objects → Objects → Type 0
KeepManifestsIn None old new = Unit {0}
KeepManifestsIn (Some m) old new = KeepManifests (made_layers m) old new

-- What a call does to the disk, on the way to an end, in a run that began with these objects: whatever a crash leaves at any moment stands
-- for that end, and only objects of its cluster are put and removed. No chunk that was marked as the run began is put, nor its mark. A layer
-- that is open afterwards and wasn't before has its manifest in version 2. Where all layers are done, it does nothing.
pub record Leads (end : Option Machine) (began : Objects) (old new : View) : Type 0 where
  pub leaves : LeavesOnly old new (StandsUntil end)
  pub changes : ChangesOnly (MayPutIn end began) (IsOwnIn end) old new
  pub manifests : KeepManifestsIn end old.objects new.objects
  pub idle : IsDoneIn end old.objects → IsIdle old new

-- the text is the last of this outcome, or the whole of it, and the disk holds just the layers of its machine
abbrev pub IsLastAt : List ℕ → Outcome → View → Type 0
IsLastAt text o v = IsLast text o × IsReady o.machine o.machine v

abbrev pub IsWholeAt : Bool → List ℕ → Outcome → View → Type 0
IsWholeAt refused text o v = IsWhole refused text o × IsReady o.machine o.machine v

-- What a run does, where the source tells the script, the sink what it holds, and the disk stands for the script: the bytes that were
-- read and those that are left, what the sink got in this call, and what the ending says of them. Whatever a crash leaves at any moment
-- stands for the script too, and for each that has its commands and then others; only objects of its cluster are put and removed, no
-- chunk is put that was marked as the run began, layers that are new have version 2, and a complete run leaves a disk that holds just its
-- layers.
pub record RunsScript (worlds : List World) (left_new held_new : Option (List ℕ)) (old new : View) (script held : List ℕ) (code : ℕ) : Type 0 where
  pub ending : Ending
  pub read : List ℕ
  pub rest : List ℕ
  pub written : List ℕ
  pub status : code ≡ code_of ending
  pub split : script ≡ read ++ rest
  pub left : left_new ≡ Some rest
  pub got : held_new ≡ Some (held ++ written)
  pub answers : Answers ending (script_outcome worlds) read rest written
  pub leads : Leads (script_outcome worlds script).machine old.objects old new
  pub ready : IsComplete ending → IsReady (script_outcome worlds script).machine (script_outcome worlds script).machine new
  pub longer : (longer : List ℕ) (m : Machine) (more : List Command) → (script_outcome worlds script).machine ≡ Some m → script_commands longer ≡ script_commands script ++ more
      → LeavesOnly old new (StandsUntil (script_outcome worlds longer).machine)

-- ---- causes

-- the count of the sink's faults rose where the stop is a write fault, and stands otherwise
abbrev pub SinkCause : {X : Type 0} → ℕ → ℕ → Result X Stop → Type 0
SinkCause before now (Ok x) = now ≡ before
SinkCause before now (Err Malformed) = now ≡ before
SinkCause before now (Err WriteFault) = Rose before now × (before ≤ now)
SinkCause before now (Err DiskFault) = now ≡ before
SinkCause before now (Err Memory) = now ≡ before

-- the count of the disk's faults rose where the stop is its fault, and stands otherwise
abbrev pub DiskCause : {X : Type 0} → ℕ → ℕ → Result X Stop → Type 0
DiskCause before now (Ok x) = now ≡ before
DiskCause before now (Err Malformed) = now ≡ before
DiskCause before now (Err WriteFault) = now ≡ before
DiskCause before now (Err DiskFault) = Rose before now
DiskCause before now (Err Memory) = now ≡ before

-- the count of the source's faults, of the sink's or of the disk's rose by the ending, and the others stand
abbrev pub ReadCause : ℕ → ℕ → Ending → Type 0
ReadCause before now ReadFault = Rose before now
ReadCause before now ending = now ≡ before

abbrev pub WriteCause : ℕ → ℕ → Ending → Type 0
WriteCause before now Unwritten = Rose before now
WriteCause before now ending = now ≡ before

abbrev pub StoreCause : ℕ → ℕ → Ending → Type 0
StoreCause before now DiskFailed = Rose before now
StoreCause before now ending = now ≡ before

-- a status tells by its number whether a count of faults rose; else it stands
pub record CodeCause (number before now code : ℕ) : Type 0 where
  pub fault : code ≡ number → Rose before now
  pub kept : code ≢ number → now ≡ before

-- one word, `run`
abbrev pub are_known : List (List ℕ) → Bool
are_known [] = false
are_known (word ∷ []) = bytes_eq word (codes "run")
are_known (word ∷ other ∷ words) = false

-- ---- completeness

-- all of the outcome was written, under the number that says what it is
abbrev pub AllWritten : List ℕ → Option (List ℕ) → ℕ → Outcome → Type 0
AllWritten held held_new code o =
    (held_new ≡ Some (held ++ o.text))
    × (((code ≡ 0) × (o.refused ≡ false) × (o.malformed ≡ false)) ⊎ ((code ≡ 1) × (o.refused ≡ true) × (o.malformed ≡ false)) ⊎ ((code ≡ 3) × (o.malformed ≡ true)))

-- a count of faults didn't rise, and isn't at its end
abbrev pub StaysLow : ℕ → ℕ → Type 0
StaysLow before now = (now ≡ before) × (before < 2 ^ 64 - 1)

-- where no count of faults rose, the run answers all, or it wanted memory
abbrev pub Completes : List ℕ → Option (List ℕ) → ℕ → Outcome → Type 0
Completes held held_new code o = AllWritten held held_new code o ⊎ (code ≡ 7)
