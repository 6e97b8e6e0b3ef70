-- A run in the middle of its script.
use Rattle.std.specs.Prelude.{◌≡◌, ◌<◌, ℕ, Bool, true, false, ◌||◌, List, [], ◌∷◌, ◌++◌, Option, Some, None}
use Rattle.outside_world.specs.Told.{told_before, before_told}
use Rattle.outside_world.specs.Disk.{View}
use Rattle.outside_world.specs.Moments.{ChangesOnly}
use Rattle.outside_world.specs.Objects.{Objects}
use Rattle.machine_model.specs.declared.limits.TheConstants.{SCRIPT_BYTES_MAX}
use Rattle.machine_model.specs.Machine.{World, Machine, Stepped}
use Rattle.machine_model.specs.Disks.{IsReady}
use Rattle.machine_model.specs.Past.{IsLaterIn}
use Rattle.cluster_core.specs.ClusterView.{ClusterState}
use Rattle.cluster_core.specs.Standing.{AreAhead, StandsFor}
use Rattle.cluster_core.specs.Stepping.{IsReplyOf}
use Rattle.reply_texts.specs.declared.replies.Reply.{Reply}
use Rattle.machine_model.specs.Script.{Line, put_front, lines, whole_lines, Outcome, outcome}
use Rattle.backup_run.specs.declared.stops.Stop.{Stop}
use Rattle.backup_run.specs.declared.stops.Ending.{Ending}
use Rattle.backup_run.specs.Endings.{IsLast, EndsBy, Answers, AnswersAtEnd, IsComplete, Leads, ending_of}
use Rattle.layer_model.specs.Names.{NamesObject}

-- where a run stands: its machine, the bytes of the line so far, the number of that line, how many bytes the
-- script may still have, and whether a reply was a refusal
pub record At : Type 0 where
  pub machine : Option Machine
  pub pending : List ℕ
  pub line : ℕ
  pub room : ℕ
  pub refused : Bool

-- what is in memory of it: its cluster, if a command came already
pub record Here : Type 0 where
  pub cluster : Option ClusterState
  pub pending : List ℕ
  pub line : ℕ
  pub room : ℕ
  pub refused : Bool

-- where it stands with a machine
abbrev pub at_of : Here → Option Machine → At
at_of h m = record { machine = m; pending = h.pending; line = h.line; room = h.room; refused = h.refused }

-- a cluster stands for a machine, none for none
abbrev pub StandsAs : Option ClusterState → Option Machine → Type 0
StandsAs None None = Unit {0}
StandsAs None (Some m) = ⊥
StandsAs (Some c) None = ⊥
StandsAs (Some c) (Some m) = StandsFor c m

-- the cluster has executed fewer commands than the number of a line, none of them ended it, and it stands for some machine
abbrev pub HasStepped : Option ClusterState → ℕ → Type 0
HasStepped None n = Unit {0}
HasStepped (Some c) n = (c.steps < n) × (c.ended ≡ false) × ((m : Machine) × StandsFor c m)

-- the reply of a command, and none where there is no cluster, beside the cluster after it
abbrev pub IsAnswered : Option ClusterState → Option Reply → Option Stepped → Type 0
IsAnswered c None None = StandsAs c None
IsAnswered c None (Some s) = ⊥
IsAnswered c (Some reply) None = ⊥
IsAnswered c (Some reply) (Some s) = StandsAs c (Some s.machine) × IsReplyOf s.response reply

-- a run that has read nothing
unfoldable pub at_first : Here
at_first = record { cluster = None; pending = []; line = 1; room = SCRIPT_BYTES_MAX; refused = false }

-- bytes in front of the first line
abbrev pub put_all : List ℕ → List Line → List Line
put_all [] ls = ls
put_all (b ∷ bs) ls = put_front b (put_all bs ls)

abbrev pub with_refused : Bool → Outcome → Outcome
with_refused r o = record o { refused = r || o.refused }

-- the outcome where these lines come now
unfoldable pub outcome_of_lines : List World → At → List Line → Outcome
outcome_of_lines worlds a ls = with_refused a.refused (outcome worlds a.line a.machine ls)

-- the outcome where these bytes are still to come
unfoldable pub outcome_of_rest : List World → At → List ℕ → Outcome
outcome_of_rest worlds a bytes = outcome_of_lines worlds a (put_all a.pending (lines a.room bytes))

-- a text, and then an outcome
abbrev pub written_before : List ℕ → Outcome → Outcome
written_before text o = record o { text = text ++ o.text }

-- In a run that began with these objects, those of layers of jobs that are still to come are as they were; before the first command all are.
abbrev pub AreAheadIn : Option Machine → Option Machine → Objects → Objects → Type 0
AreAheadIn None end began objects = objects ≡ began
AreAheadIn (Some m) None began objects = Unit {0}
AreAheadIn (Some m) (Some end) began objects = AreAhead m end began objects

-- the disk is ready in such a run
pub record IsReadyFrom (began : Objects) (m end : Option Machine) (v : View) : Type 0 where
  pub now : IsReady m end v
  pub ahead : AreAheadIn m end began v.objects

-- A run goes on from here with some machine, of which `after` says what is to come: what came `before` is a text, and then that. The disk holds its
-- layers, on the way to an end.
pub record Goes {X : Type 0} (began : Objects) (new : Here) (v : View) (end : Option Machine) (text : List ℕ) (before : X → Outcome) (after : At → X → Outcome) : Type 0 where
  pub machine : Option Machine
  pub stands : StandsAs new.cluster machine
  pub ready : IsReadyFrom began machine end v
  pub goes_on : (more : X) → before more ≡ written_before text (after (at_of new machine) more)

-- what a line says: its text, and whether that is a refusal or the last of a malformed script, which ends in this machine
abbrev pub SaysLine : {X : Type 0} → Option Machine → Bool → Bool → List ℕ → (X → Outcome) → (X → Outcome) → Type 0
SaysLine {X} m true refused text before after = (more : X) → IsLast text (before more) × ((before more).machine ≡ m)
SaysLine {X} m false refused text before after = (more : X) → before more ≡ written_before text (with_refused refused (after more))

-- ---- the run and the disk

-- Before a command or a line: the cluster stands for a machine, whose layers the disk holds, and the machine after it leads to an end.
pub record MayGo (began : Objects) (c : Option ClusterState) (m after end : Option Machine) (v : View) : Type 0 where
  pub stands : StandsAs c m
  pub ready : IsReadyFrom began m end v
  pub later : IsLaterIn after end

-- after it
pub record IsAt (began : Objects) (c : Option ClusterState) (m end : Option Machine) (v : View) : Type 0 where
  pub stands : StandsAs c m
  pub ready : IsReadyFrom began m end v

-- The cluster stands for this machine, and the disk is ready for a script of which these bytes, or these lines, are still to come.
pub record IsHere (worlds : List World) (began : Objects) (h : Here) (v : View) (m : Option Machine) (more : List ℕ) : Type 0 where
  pub stands : StandsAs h.cluster m
  pub ready : IsReadyFrom began m (outcome_of_rest worlds (at_of h m) more).machine v

pub record IsHereAtLines (worlds : List World) (began : Objects) (h : Here) (v : View) (m : Option Machine) (ls : List Line) : Type 0 where
  pub stands : StandsAs h.cluster m
  pub ready : IsReadyFrom began m (outcome_of_lines worlds (at_of h m) ls).machine v

-- The run stands where these bytes were read and this text was written: whatever comes next, the outcome of all
-- bytes is that text and then the outcome of what comes; and the text answers just the lines that are whole.
pub record StandsAt (whole rest : List ℕ → Outcome) (read text : List ℕ) : Type 0 where
  pub goes_on : (more : List ℕ) → whole (read ++ more) ≡ written_before text (rest more)
  pub answers : text ≡ (whole (whole_lines read)).text

-- with some machine for which its cluster stands, and the disk ready for the script, of which these bytes are still to come; the line
-- so far comes after the whole lines
pub record SessionAt (worlds : List World) (began : Objects) (h : Here) (v : View) (whole : List ℕ → Outcome) (read text more : List ℕ) : Type 0 where
  pub machine : Option Machine
  pub stands : StandsAs h.cluster machine
  pub at : StandsAt whole (outcome_of_rest worlds (at_of h machine)) read text
  pub split : read ≡ whole_lines read ++ h.pending
  pub ready : IsReadyFrom began machine (whole (read ++ more)).machine v

-- a piece of the script was read and answered
pub record Fed (held_old held_new : Option (List ℕ)) (v_old v_new : View) (old new : Here) (piece : List ℕ) : Type 0 where
  pub text : List ℕ
  pub wrote : held_new ≡ told_before held_old text
  pub stands : (worlds : List World) (began : Objects) (whole : List ℕ → Outcome) (read front more : List ℕ) → SessionAt worlds began old v_old whole read front (piece ++ more) → SessionAt worlds began new v_new whole (read ++ piece) (front ++ text) more
  pub leads : (worlds : List World) (began : Objects) (whole : List ℕ → Outcome) (read front more : List ℕ) → SessionAt worlds began old v_old whole read front (piece ++ more) → Leads (whole (read ++ (piece ++ more))).machine began v_old v_new
  pub changes : ChangesOnly NamesObject NamesObject v_old v_new

-- a piece was read, and the run ended in it
pub record EndedIn (held_old held_new : Option (List ℕ)) (v_old v_new : View) (old : Here) (piece : List ℕ) (stop : Stop) : Type 0 where
  pub text : List ℕ
  pub wrote : held_new ≡ told_before held_old text
  pub ends : (worlds : List World) (began : Objects) (whole : List ℕ → Outcome) (read front more : List ℕ) → SessionAt worlds began old v_old whole read front (piece ++ more) → EndsBy stop whole (read ++ piece) (front ++ text) more
  pub leads : (worlds : List World) (began : Objects) (whole : List ℕ → Outcome) (read front more : List ℕ) → SessionAt worlds began old v_old whole read front (piece ++ more) → Leads (whole (read ++ (piece ++ more))).machine began v_old v_new
  pub ready : IsComplete (ending_of stop) → (worlds : List World) (began : Objects) (whole : List ℕ → Outcome) (read front more : List ℕ) → SessionAt worlds began old v_old whole read front (piece ++ more) → IsReady (whole (read ++ (piece ++ more))).machine (whole (read ++ (piece ++ more))).machine v_new
  pub changes : ChangesOnly NamesObject NamesObject v_old v_new

-- these bytes were read since the run stood at `old`
pub record Running (left_old left_now held_old held_now : Option (List ℕ)) (v_old v_now : View) (old now : Here) : Type 0 where
  pub read : List ℕ
  pub source : left_old ≡ before_told read left_now
  pub fed : Fed held_old held_now v_old v_now old now read

-- the input is at its end
pub record AtInputEnd (held_old held_new : Option (List ℕ)) (v_old v_new : View) (old : Here) (ending : Ending) : Type 0 where
  pub text : List ℕ
  pub wrote : held_new ≡ told_before held_old text
  pub answers : (worlds : List World) (began : Objects) (m : Option Machine) → IsHere worlds began old v_old m [] → AnswersAtEnd ending old.pending text (outcome_of_rest worlds (at_of old m) [])
  pub leads : (worlds : List World) (began : Objects) (m : Option Machine) → IsHere worlds began old v_old m [] → Leads (outcome_of_rest worlds (at_of old m) []).machine began v_old v_new
  pub ready : IsComplete ending → (worlds : List World) (began : Objects) (m : Option Machine) → IsHere worlds began old v_old m [] → IsReady (outcome_of_rest worlds (at_of old m) []).machine (outcome_of_rest worlds (at_of old m) []).machine v_new
  pub changes : ChangesOnly NamesObject NamesObject v_old v_new

-- what a run read and wrote since it stood at `old`, and what it leaves of the disk
pub record Ran (left_old left_new held_old held_new : Option (List ℕ)) (v_old v_new : View) (old : Here) (ending : Ending) : Type 0 where
  pub read : List ℕ
  pub written : List ℕ
  pub source : left_old ≡ before_told read left_new
  pub sink : held_new ≡ told_before held_old written
  pub answers : (worlds : List World) (began : Objects) (whole : List ℕ → Outcome) (more : List ℕ) → left_new ≡ Some more → SessionAt worlds began old v_old whole [] [] (read ++ more) → Answers ending whole read more written
  pub leads : (worlds : List World) (began : Objects) (whole : List ℕ → Outcome) (more : List ℕ) → left_new ≡ Some more → SessionAt worlds began old v_old whole [] [] (read ++ more) → Leads (whole (read ++ more)).machine began v_old v_new
  pub ready : IsComplete ending → (worlds : List World) (began : Objects) (whole : List ℕ → Outcome) (more : List ℕ) → left_new ≡ Some more → SessionAt worlds began old v_old whole [] [] (read ++ more) → IsReady (whole (read ++ more)).machine (whole (read ++ more)).machine v_new
  pub changes : ChangesOnly NamesObject NamesObject v_old v_new
