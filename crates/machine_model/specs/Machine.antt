-- The state of a cluster, worlds beside it, and the frame of a command: tests in their order, then a change.
use Rattle.std.specs.Prelude.{ℕ, Bool, List, [], ◌∷◌, Option, Some, None, if◌then◌else◌}
use Rattle.mvcc_keys.specs.Times.{Time, next}
use Rattle.reply_texts.specs.declared.refusals.Refusal.{Refusal}
use Rattle.reply_texts.specs.declared.refusals.Refusal.TheVariants.{ClockFull, NoSuchTable, NotPublic}
use Rattle.reply_texts.specs.declared.answers.Answer.{Answer}
use Rattle.reply_texts.specs.declared.replies.Response.{Response}
use Rattle.reply_texts.specs.declared.replies.Response.TheVariants.{Refused, Answered}
use Rattle.table_descriptors.specs.Descriptors.{Schema}
use Rattle.history_model.specs.Histories.{History, Found, named, schemas_of}
use Rattle.history_model.specs.Layers.{LayerRecord}
use Rattle.schema_catalog.specs.Catalogs.{Schemas, is_offline}

-- how many facts may ever be accepted, and how many table ids given
pub record Limits : Type 0 where
  pub events : ℕ
  pub tables : ℕ

-- another cluster whose layers the store holds: its name, its history, its open layers
pub record World : Type 0 where
  pub name : List ℕ
  pub history : History
  pub layers : List LayerRecord

-- a job: the backup that made a layer, or a restore. Its number is its place among the jobs, from 1 on.
pub data Job : Type 0 where
  Backup : LayerRecord → Job
  Restore : Job

-- The state of the cluster. Its own layers are those of its backups, without those that were forgotten. Each job is done.
pub record Machine : Type 0 where
  pub name : List ℕ
  pub limits : Limits
  pub clock : Time
  pub history : History
  pub layers : List LayerRecord
  pub jobs : List Job

-- its databases and its tables without their facts
abbrev pub catalog_of : Machine → Schemas
catalog_of m = record { databases = m.history.databases; tables = schemas_of m.history.tables; limit = m.limits.tables }

-- a cluster of this name that has done nothing
abbrev pub empty_machine : List ℕ → Time → Limits → Machine
empty_machine name clock limits = record { name = name; limits = limits; clock = clock; history = record { databases = []; tables = [] }; layers = []; jobs = [] }

-- the state after a command, and what it is answered
pub record Stepped : Type 0 where
  pub machine : Machine
  pub response : Response

abbrev pub stepped : Machine → Response → Stepped
stepped m response = record { machine = m; response = response }

-- a refused command leaves all as it was
abbrev pub refused : Machine → Refusal → Stepped
refused m refusal = stepped m (Refused refusal)

abbrev pub answered : Machine → Answer → Stepped
answered m answer = stepped m (Answered answer)

-- ---- tests

abbrev pub refusal_if : Bool → Refusal → Option Refusal
refusal_if test refusal = if test then Some refusal else None

-- the first refusal that a list of tests gives
abbrev pub first_refusal : List (Option Refusal) → Option Refusal
first_refusal [] = None
first_refusal (None ∷ tests) = first_refusal tests
first_refusal (Some refusal ∷ tests) = Some refusal

abbrev pub unless_refused : Machine → Option Refusal → Stepped → Stepped
unless_refused m None change = change
unless_refused m (Some refusal) change = refused m refusal

-- the first test that holds refuses the command; where none does, the change is made
abbrev pub judged : Machine → List (Option Refusal) → Stepped → Stepped
judged m tests change = unless_refused m (first_refusal tests) change

-- ---- drawn times

abbrev pub with_time : Machine → Option Time → (Time → Stepped) → Stepped
with_time m None change = refused m ClockFull
with_time m (Some t) change = change t

-- a command that dates something draws the clock's next time
abbrev pub drawing : Machine → (Time → Stepped) → Stepped
drawing m change = with_time m (next m.clock) change

-- ---- tables by name

-- what is done with what was found; where it is nothing, the command is refused
abbrev pub with_found : Machine → Refusal → {X : Type 0} → Option X → (X → Stepped) → Stepped
with_found m refusal None change = refused m refusal
with_found m refusal (Some x) change = change x

-- what is done with the table to which the name belongs at t
abbrev pub for_table : Machine → List ℕ × List ℕ → Time → (Found → Stepped) → Stepped
for_table m name t change = with_found m (NoSuchTable name) (named m.history.tables name t) change

-- the table of the name is Offline
abbrev pub offline_refusal : List ℕ × List ℕ → Schema → Option Refusal
offline_refusal name d = refusal_if (is_offline d.state) (NotPublic name)
