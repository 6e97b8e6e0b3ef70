-- The commands on databases and tables, one definition each. A command that draws a time looks names up as of that time, which is
-- after the dates of all descriptors.
use Rattle.std.specs.Prelude.{ℕ, Bool, not, List, [], ◌∷◌, ◌++◌, slice_set}
use Rattle.mvcc_keys.specs.Times.{time, zero_time, time_lt}
use Rattle.row_codec.specs.declared.rows.Kind.{Kind}
use Rattle.table_descriptors.specs.declared.changes.Change.{Change}
use Rattle.table_descriptors.specs.Descriptors.{Schema, changed_schema}
use Rattle.reply_texts.specs.declared.refusals.Refusal.TheVariants.{TickBack}
use Rattle.reply_texts.specs.declared.answers.Answer.TheVariants.{Plain, ClockSet, TableMade, TableChanged}
use Rattle.history_model.specs.Histories.{Table, Found}
use Rattle.schema_catalog.specs.Catalogs.{database_fault, table_fault, next_id, first_schema, change_fault, drop_fault, dropped}
use Rattle.machine_model.specs.Machine.{Machine, Stepped, catalog_of, answered, refusal_if, judged, drawing, for_table, offline_refusal}
use Rattle.machine_model.specs.Refusals.{catalog_refusal}

-- TICK sets the clock to the first time of a wall that is after it
unfoldable pub tick : Machine → ℕ → Stepped
tick m wall =
    judged m (refusal_if (not (time_lt m.clock (time wall 0))) (TickBack m.clock) ∷ [])
    (answered (record m { clock = time wall 0 }) (ClockSet (time wall 0)))

-- CREATE DATABASE
unfoldable pub create_database : Machine → List ℕ → Stepped
create_database m name =
    judged m (catalog_refusal (database_fault (catalog_of m) name) ∷ [])
    (answered (record m { history = record m.history { databases = m.history.databases ++ name ∷ [] } }) Plain)

-- ---- CREATE TABLE

abbrev pub new_table : Schema → Table
new_table d = record { id = d.id; facts = []; descriptors = d ∷ []; threshold = zero_time }

abbrev pub with_new_table : Machine → Schema → Machine
with_new_table m d = record m { clock = d.modified; history = record m.history { tables = m.history.tables ++ new_table d ∷ [] } }

-- CREATE TABLE
unfoldable pub create_table : Machine → List ℕ × List ℕ → List (List ℕ × Kind) → List (List ℕ × Bool) → List (List ℕ × List ℕ) → Stepped
create_table m name columns key references =
    drawing m (λ t.
    judged m (catalog_refusal (table_fault (catalog_of m) t name columns key references) ∷ [])
    (answered (with_new_table m (first_schema (catalog_of m) t name columns key references)) (TableMade (next_id (catalog_of m)) t)))

-- ---- ALTER TABLE and DROP TABLE

-- a further descriptor of the table at a place, which takes its date from the clock
abbrev pub described : Table → Schema → Table
described table d = record table { descriptors = table.descriptors ++ d ∷ [] }

abbrev pub with_descriptor : Machine → Found → Schema → Machine
with_descriptor m f d = record m { clock = d.modified; history = record m.history { tables = slice_set m.history.tables f.place (described f.table d) } }

abbrev pub redescribed : Machine → Found → Schema → Stepped
redescribed m f d = answered (with_descriptor m f d) (TableChanged f.table.id d.version d.modified)

-- ALTER TABLE
unfoldable pub alter : Machine → List ℕ × List ℕ → Change → Stepped
alter m name change =
    drawing m (λ t. for_table m name t (λ f.
    judged m (offline_refusal name f.schema ∷ catalog_refusal (change_fault (catalog_of m) t f.schema change) ∷ [])
    (redescribed m f (changed_schema f.schema change t))))

-- DROP TABLE, also of a table that is Offline
unfoldable pub drop_table : Machine → List ℕ × List ℕ → Stepped
drop_table m name =
    drawing m (λ t. for_table m name t (λ f.
    judged m (catalog_refusal (drop_fault (catalog_of m) t (f.table.id ∷ [])) ∷ [])
    (redescribed m f (dropped f.schema t))))
