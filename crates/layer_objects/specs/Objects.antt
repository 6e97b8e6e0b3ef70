-- The objects of a layer, by its record and the tables of its cluster.
use Rattle.std.specs.Prelude.{ℕ, ◌-◌, nat_lt, List, [], ◌∷◌, map, slice_get, option_map, unwrap_or, if◌then◌else◌}
use Rattle.mvcc_keys.specs.Times.{Time, zero_time}
use Rattle.row_codec.specs.declared.rows.Kind.{Kind}
use Rattle.table_descriptors.specs.Descriptors.{Schema, key_kinds}
use Rattle.history_model.specs.Rows.{RowFact}
use Rattle.history_model.specs.Histories.{Table, schemas_of}
use Rattle.history_model.specs.Layers.{LayerRecord}
use Rattle.schema_catalog.specs.Catalogs.{Schemas}
use Rattle.table_rows.specs.RowTables.{RowTables, bytes_of}
use Rattle.introduced_spans.specs.declared.plans.LayerPlan.{LayerPlan}
use Rattle.introduced_spans.specs.declared.plans.Span.{Span}
use Rattle.introduced_spans.specs.Spans.{plan_over}
use Rattle.layer_manifest.specs.declared.manifest.Manifest.{Manifest}
use Rattle.layer_model.specs.declared.names.LayerName.{LayerName}
use Rattle.layer_model.specs.Layers as stored
use Rattle.mvcc_keys.specs.declared.entries.Entry.{Entry}
use Rattle.layer_objects.specs.Contents.{bare_manifest, in_a_row, in_version, layer_of, pieces_of, with_each, with_tables}

-- ---- tables by their ids, from 100 on

abbrev pub by_id : {X : Type 0} → X → (Table → X) → List Table → ℕ → X
by_id none f tables id = if nat_lt id 100 then none else unwrap_or (option_map f (slice_get tables (id - 100))) none

-- the kinds of the key columns, which never change
abbrev pub kinds_of : List Schema → List Kind
kinds_of [] = []
kinds_of (d ∷ ds) = key_kinds d

abbrev pub table_kinds : Table → List Kind
table_kinds table = kinds_of table.descriptors

abbrev pub table_facts : Table → List RowFact
table_facts table = table.facts

abbrev pub table_threshold : Table → Time
table_threshold table = table.threshold

-- the facts of each table
abbrev pub rows_of : List Table → RowTables
rows_of tables = record { kinds = by_id [] table_kinds tables; facts = by_id [] table_facts tables; threshold = by_id zero_time table_threshold tables }

-- the tables' descriptors
abbrev pub described : List Table → Schemas
described tables = record { databases = []; tables = schemas_of tables; limit = 0 }

-- ---- a layer's objects

-- the name of its objects
abbrev pub name_of_record : LayerRecord → LayerName
name_of_record r = record { collection = r.collection; cluster = r.cluster; full = r.full; start = r.start; end = r.end; job = r.job }

-- what it covers
abbrev pub covers : LayerRecord → Span
covers r = record { start = r.start; end = r.end; floor = r.floor; history = r.history }

-- its tables, and how each is exported
unfoldable pub plan_of : List Table → LayerRecord → LayerPlan
plan_of tables r = plan_over (schemas_of tables) r.scope (covers r)

-- the entries of each of its tables, in pieces
abbrev pub pieces_in : List Table → LayerRecord → List (List (List Entry))
pieces_in tables r = map (pieces_of (bytes_of (rows_of tables))) (plan_of tables r).tables

-- the manifest without its chunks
abbrev pub bare : List Table → LayerRecord → Manifest
bare tables r = bare_manifest (name_of_record r) r.history r.scope (plan_of tables r) (described tables)

-- the manifest in version 2, which tells the bounds of each chunk
abbrev pub bounded_manifest : List Table → LayerRecord → Manifest
bounded_manifest tables r = with_tables (bare tables r) (with_each (bare tables r).tables (pieces_in tables r))

-- the manifest, in the version that the record says
abbrev pub manifest_of : List Table → LayerRecord → Manifest
manifest_of tables r = in_version r.version (bounded_manifest tables r)

-- the layer that its objects are: the entries of its tables in chunks, and the manifest that tells of them
unfoldable pub objects_of : List Table → LayerRecord → stored.LayerObjects
objects_of tables r = layer_of (name_of_record r) (manifest_of tables r) (in_a_row (pieces_in tables r))

-- the record with its manifest in the first version
abbrev pub in_first : LayerRecord → LayerRecord
in_first r = record r { version = 1 }
