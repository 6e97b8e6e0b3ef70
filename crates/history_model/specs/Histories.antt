-- Histories: databases, and tables of dated facts and dated descriptors.
use Rattle.std.specs.Prelude.{ℕ, Bool, true, false, not, ◌&&◌, List, map, reverse, Option, option_map, option_and_then, unwrap_or, position, slice_get, sum_by, length}
use Rattle.std.specs.List.{find}
use Rattle.std.specs.Str.{bytes_eq}
use Rattle.std.specs.declared.cmp.Ordering.{Ordering}
use Rattle.mvcc_keys.specs.Times.{Time, time_le}
use Rattle.row_codec.specs.RowOrder.{row_cmp}
use Rattle.table_descriptors.specs.declared.columns.State.{State}
use Rattle.table_descriptors.specs.declared.columns.State.TheVariants.{Public, Offline, Dropped}
use Rattle.table_descriptors.specs.Descriptors.{Schema, key_kinds}
use Rattle.history_model.specs.Rows.{Key, RowFact}

-- a table: facts in order of acceptance, descriptors by date, and the time before which nothing is kept
pub record Table : Type 0 where
  pub id : ℕ
  pub facts : List RowFact
  pub descriptors : List Schema
  pub threshold : Time

-- database names, and tables by id
pub record History : Type 0 where
  pub databases : List (List ℕ)
  pub tables : List Table

-- ---- the descriptor in force

-- the latest descriptor dated at or before t
abbrev pub in_force : List Schema → Time → Option Schema
in_force descriptors t = find (λ (d : Schema). time_le d.modified t) (reverse descriptors)

abbrev pub is_dropped : State → Bool
is_dropped Public = false
is_dropped Offline = false
is_dropped Dropped = true

-- the descriptor has this name and isn't Dropped
abbrev pub has_name : List ℕ × List ℕ → Schema → Bool
has_name name d = (bytes_eq d.database name.0 && bytes_eq d.name name.1) && not (is_dropped d.state)

-- the name of a database and a table belongs at t to the table with these descriptors
abbrev pub is_named : List ℕ × List ℕ → Time → List Schema → Bool
is_named name t descriptors = unwrap_or (option_map (has_name name) (in_force descriptors t)) false

-- the place of the table to which the name belongs at t
abbrev pub place_named : List (List Schema) → List ℕ × List ℕ → Time → Option ℕ
place_named tables name t = position (is_named name t) tables

-- the descriptors of each table
abbrev pub schemas_of : List Table → List (List Schema)
schemas_of tables = map (λ (t : Table). t.descriptors) tables

-- a table, its place, and its descriptor in force
pub record Found : Type 0 where
  pub place : ℕ
  pub table : Table
  pub schema : Schema

abbrev pub found_at : ℕ → Time → Table → Option Found
found_at place t table = option_map (λ d. record { place = place; table = table; schema = d }) (in_force table.descriptors t)

-- the table to which the name belongs at t, with its descriptor in force at t
abbrev pub named : List Table → List ℕ × List ℕ → Time → Option Found
named tables name t = option_and_then (λ i. option_and_then (found_at i t) (slice_get tables i)) (place_named (schemas_of tables) name t)

-- the order of the keys of a table with this descriptor
abbrev pub key_order : Schema → Key → Key → Ordering
key_order d = row_cmp (key_kinds d)

-- how many facts were ever accepted
abbrev pub accepted : List Table → ℕ
accepted tables = sum_by (λ (t : Table). length t.facts) tables
