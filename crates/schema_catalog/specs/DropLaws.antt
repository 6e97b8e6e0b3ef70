-- What it is to drop tables.
use Rattle.std.specs.Prelude.{◌≡◌, ℕ, ◌+◌, true, false, List, [], ◌∷◌, ◌++◌, length, Some}
use Rattle.mvcc_keys.specs.Times.{Time}
use Rattle.table_descriptors.specs.declared.columns.State.TheVariants.{Dropped}
use Rattle.table_descriptors.specs.Descriptors.{Schema, has_id}
use Rattle.history_model.specs.Histories.{in_force}
use Rattle.schema_catalog.specs.Catalogs.{Schemas, AreChangeable, dropped, drop_each, history_of}

-- the table has one descriptor more: the next version of the one that is in force, of the state Dropped and of this date
pub record IsDropped (s n : Schemas) (t : Time) (id : ℕ) : Type 0 where
  pub last : Schema
  pub more : Schema
  pub found : in_force (history_of s id) t ≡ Some last
  pub history : history_of n id ≡ history_of s id ++ more ∷ []
  pub next : more ≡ dropped last t
  pub state : more.state ≡ Dropped
  pub date : more.modified ≡ t
  pub version : more.version ≡ last.version + 1

-- each of these tables is dropped, and all others, their number and the databases are as they were
pub record AreDropped (s n : Schemas) (t : Time) (ids : List ℕ) : Type 0 where
  pub each : (id : ℕ) → has_id id ids ≡ true → IsDropped s n t id
  pub others : (id : ℕ) → has_id id ids ≡ false → history_of n id ≡ history_of s id
  pub count : length n.tables ≡ length s.tables
  pub databases : n.databases ≡ s.databases
  pub limit : n.limit ≡ s.limit

abbrev pub DropsAreOfThese : Type 0
DropsAreOfThese = (s : Schemas) (t : Time) (ids : List ℕ) → AreChangeable s t ids → AreDropped s (drop_each s t ids) t ids
