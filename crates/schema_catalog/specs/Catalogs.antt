-- A catalog: databases, and tables by their dated descriptors; what its calls answer and what they leave.
use Rattle.std.specs.Prelude.{◌≡◌, ◌<◌, ◌≤◌, ℕ, ◌+◌, ◌-◌, Bool, true, false, not, ◌&&◌, nat_lt, nat_le, List, [], ◌∷◌, ◌++◌, map, length, take, Option, Some, None, is_some, is_none, option_map, option_and_then, unwrap_or, position, slice_get, slice_set, filter_map, if◌then◌else◌}
use Rattle.std.specs.List.{AllByRecursion, list_any, find}
use Rattle.std.specs.Str.{bytes_eq}
use Rattle.mvcc_keys.specs.Times.{Time}
use Rattle.row_codec.specs.declared.rows.Kind.{Kind}
use Rattle.table_descriptors.specs.declared.columns.State.{State}
use Rattle.table_descriptors.specs.declared.columns.State.TheVariants.{Public, Offline, Dropped}
use Rattle.table_descriptors.specs.declared.changes.Change.{Change}
use Rattle.table_descriptors.specs.declared.changes.Change.TheVariants.{Rename, Become}
use Rattle.table_descriptors.specs.Descriptors.{Schema, repeats, repeats_id, broken_rule, new_schema, bad_change, changed_schema, has_id}
use Rattle.history_model.specs.Histories.{in_force, is_dropped, place_named}
use Rattle.schema_catalog.specs.declared.faults.CatalogFault.{CatalogFault}
use Rattle.schema_catalog.specs.declared.faults.CatalogFault.TheVariants.{NoSuchDatabase, DatabaseExists, NoSuchTable, NameTaken, NotPublic, BadSchema, Referenced, TooManyTables, Memory}

-- database names, the descriptors of each table by date, in the order of their ids from 100 on, and how many ids there may ever be
pub record Schemas : Type 0 where
  pub databases : List (List ℕ)
  pub tables : List (List Schema)
  pub limit : ℕ

abbrev pub no_schemas : ℕ → Schemas
no_schemas limit = record { databases = []; tables = []; limit = limit }

-- the id of the table at a place
abbrev pub id_at : ℕ → ℕ
id_at place = 100 + place

-- the descriptors of a table
abbrev pub history_of : Schemas → ℕ → List Schema
history_of s id = if nat_lt id 100 then [] else unwrap_or (slice_get s.tables (id - 100)) []

-- the id of the table to which a name belongs at t
abbrev pub id_named : Schemas → List ℕ × List ℕ → Time → Option ℕ
id_named s name t = option_map id_at (place_named s.tables name t)

abbrev pub has_database : Schemas → List ℕ → Bool
has_database s name = list_any (λ x. bytes_eq x name) s.databases

-- ---- faults

-- the first fault that a list of tests gives
abbrev pub first_fault : List (Option CatalogFault) → Option CatalogFault
first_fault [] = None
first_fault (None ∷ tests) = first_fault tests
first_fault (Some fault ∷ tests) = Some fault

abbrev pub fault_if : Bool → CatalogFault → Option CatalogFault
fault_if test fault = if test then Some fault else None

-- a call answers this fault or none, unless memory was wanting
abbrev pub FaultIs : CatalogFault → Option CatalogFault → Type 0
FaultIs Memory fault = Unit {0}
FaultIs e fault = fault ≡ Some e

-- ---- databases

abbrev pub database_fault : Schemas → List ℕ → Option CatalogFault
database_fault s name = fault_if (has_database s name) (DatabaseExists name)

abbrev pub with_database : Schemas → List ℕ → Schemas
with_database s name = record s { databases = s.databases ++ name ∷ [] }

-- ---- new tables

abbrev pub is_same_name : List ℕ × List ℕ → List ℕ × List ℕ → Bool
is_same_name a b = bytes_eq a.0 b.0 && bytes_eq a.1 b.1

abbrev pub schema_fault : Option ℕ → Option CatalogFault
schema_fault rule = option_map BadSchema rule

-- the table of the name is Offline at t
abbrev pub is_offline : State → Bool
is_offline Public = false
is_offline Offline = true
is_offline Dropped = false

abbrev pub is_offline_at : Schemas → Time → List ℕ × List ℕ → Bool
is_offline_at s t name = unwrap_or (option_map (λ (d : Schema). is_offline d.state) (option_and_then (λ ds. in_force ds t) (option_and_then (slice_get s.tables) (place_named s.tables name t)))) false

-- the first name that belongs to no table at t, and the first whose table is Offline
abbrev pub is_missing : Schemas → Time → List ℕ × List ℕ → Bool
is_missing s t name = is_none (place_named s.tables name t)

abbrev pub missing_fault : Schemas → Time → List (List ℕ × List ℕ) → Option CatalogFault
missing_fault s t names = option_map NoSuchTable (find (is_missing s t) names)

abbrev pub offline_fault : Schemas → Time → List (List ℕ × List ℕ) → Option CatalogFault
offline_fault s t names = option_map NotPublic (find (is_offline_at s t) names)

-- the tests of a new table, in their order, by the names as of t
unfoldable pub table_fault : Schemas → Time → List ℕ × List ℕ → List (List ℕ × Kind) → List (List ℕ × Bool) → List (List ℕ × List ℕ) → Option CatalogFault
table_fault s t name columns key references = first_fault (
    fault_if (not (has_database s name.0)) (NoSuchDatabase name.0)
    ∷ fault_if (is_some (place_named s.tables name t)) (NameTaken name)
    ∷ schema_fault (broken_rule columns key (repeats is_same_name references))
    ∷ missing_fault s t references
    ∷ offline_fault s t references
    ∷ fault_if (nat_le s.limit (length s.tables)) TooManyTables
    ∷ [])

-- the ids of the referenced tables
abbrev pub reference_ids : Schemas → Time → List (List ℕ × List ℕ) → List ℕ
reference_ids s t references = filter_map (λ name. id_named s name t) references

-- ids ascend from 100 and are never used again
abbrev pub next_id : Schemas → ℕ
next_id s = id_at (length s.tables)

-- the descriptor of the new table
abbrev pub first_schema : Schemas → Time → List ℕ × List ℕ → List (List ℕ × Kind) → List (List ℕ × Bool) → List (List ℕ × List ℕ) → Schema
first_schema s t name columns key references = new_schema (next_id s) name.0 name.1 columns key (reference_ids s t references) t

abbrev pub with_table : Schemas → Schema → Schemas
with_table s d = record s { tables = s.tables ++ (d ∷ []) ∷ [] }

-- ---- changes

-- a new name of the table belongs to one already
abbrev pub taken_name : Schemas → Time → Schema → Change → Option CatalogFault
taken_name s t d (Rename to) = fault_if (is_some (place_named s.tables (d.database, to) t)) (NameTaken (d.database, to))
taken_name s t d change = None

-- the tests of a change, in their order
unfoldable pub change_fault : Schemas → Time → Schema → Change → Option CatalogFault
change_fault s t d change = first_fault (schema_fault (bad_change d change) ∷ taken_name s t d change ∷ [])

-- a table with one descriptor more
abbrev pub with_descriptor : Schemas → ℕ → Schema → Schemas
with_descriptor s place d = record s { tables = slice_set s.tables place (unwrap_or (slice_get s.tables place) [] ++ d ∷ []) }

-- a table without its last descriptor
abbrev pub without_last : Schemas → ℕ → Schemas
without_last s place = record s { tables = slice_set s.tables place (take (length (unwrap_or (slice_get s.tables place) []) - 1) (unwrap_or (slice_get s.tables place) [])) }

-- ---- dropping

-- a descriptor that isn't dropped, of none of these tables, references one of them
abbrev pub is_referring : List ℕ → Schema → Bool
is_referring ids d = if is_dropped d.state then false else (if has_id d.id ids then false else list_any (λ id. has_id id ids) d.references)

abbrev pub refers : List ℕ → Time → List Schema → Bool
refers ids t descriptors = unwrap_or (option_map (is_referring ids) (in_force descriptors t)) false

-- the first table that references one of those to be dropped
unfoldable pub drop_fault : Schemas → Time → List ℕ → Option CatalogFault
drop_fault s t ids = option_map (λ i. Referenced (id_at i)) (position (refers ids t) s.tables)

-- the descriptor with which a table is dropped
abbrev pub dropped : Schema → Time → Schema
dropped d t = changed_schema d (Become Dropped) t

-- tables dropped at t, one after another
abbrev pub drop_one : Time → Schemas → ℕ → Schemas
drop_one t s id = unwrap_or (option_map (λ d. with_descriptor s (id - 100) (dropped d t)) (in_force (history_of s id) t)) s

abbrev pub drop_each : Schemas → Time → List ℕ → Schemas
drop_each s t [] = s
drop_each s t (id ∷ ids) = drop_each (drop_one t s id) t ids

-- ---- what calls ask

-- the table has a descriptor in force at t, of which a next version can be
pub record IsChangeable (s : Schemas) (t : Time) (id : ℕ) : Type 0 where
  pub schema : Schema
  pub found : in_force (history_of s id) t ≡ Some schema
  pub version : schema.version < 4294967295

-- the same of different tables
pub record AreChangeable (s : Schemas) (t : Time) (ids : List ℕ) : Type 0 where
  pub each : AllByRecursion (IsChangeable s t) ids
  pub differ : repeats_id ids ≡ false

-- ---- tables of a restore

-- tables with one descriptor each, after those that are there
abbrev pub with_tables : Schemas → List Schema → Schemas
with_tables s ds = record s { tables = s.tables ++ map (λ d. d ∷ []) ds }

-- the id of a table that is there
abbrev pub IsTableId : Schemas → ℕ → Type 0
IsTableId s id = (100 ≤ id) × (id - 100 < length s.tables)
