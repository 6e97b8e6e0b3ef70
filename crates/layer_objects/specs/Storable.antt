-- Tables that layers can hold, and that the layer of every record over them may be written.
use Rattle.std.specs.Prelude.{◌≡◌, ◌^◌, ℕ, ◌+◌, ◌<◌, ◌≤◌, ◌⊎◌, true, false, List, [], length, slice_get, Some, Result, Ok, Err}
use Rattle.std.specs.List.{AllByRecursion}
use Rattle.std.specs.Ordering.{is_lt}
use Rattle.mvcc_keys.specs.Times.{IsTime, zero_time, time_le, time_lt}
use Rattle.row_codec.specs.RowOrder.{row_cmp}
use Rattle.mvcc_keys.specs.declared.entries.Entry.{Entry}
use Rattle.row_codec.specs.declared.rows.Kind.{Kind}
use Rattle.row_codec.specs.RowValues.{row_value}
use Rattle.table_descriptors.specs.Descriptors.{IsProperSchema, Schema, key_kinds}
use Rattle.fact_model.specs.Facts.{Del, DelRange, Put}
use Rattle.list_laws.specs.Members.{Has}
use Rattle.history_model.specs.Histories.{Table, accepted}
use Rattle.history_model.specs.Layers.{LayerRecord}
use Rattle.history_model.specs.Rows.{RowFact}
use Rattle.history_model.specs.RowTests.{columns_len}
use Rattle.table_rows.specs.RowTables.{IsRowFact, bytes_of}
use Rattle.introduced_spans.specs.declared.plans.TablePlan.{TablePlan}
use Rattle.introduced_spans.specs.PlanLaws.{ascend_after}
use Rattle.chunk_file.specs.Entries.{IsStored, is_entry}
use Rattle.layer_manifest.specs.declared.manifest.Manifest.{Manifest}
use Rattle.layer_manifest.specs.declared.manifest.TablePart.{TablePart}
use Rattle.layer_manifest.specs.Manifests.{IsProperManifest, IsProperScope, chunk_count, kinds_of}
use Rattle.layer_manifest.specs.ManifestFiles.{manifest_code, read_manifest}
use Rattle.layer_model.specs.Names.{IsLayerName}
use Rattle.layer_model.specs.Layers as stored
use Rattle.collection_dir.specs.Safety.{with_manifest}
use Rattle.collection_dir.specs.Versions.{first_version}
use Rattle.layer_objects.specs.Contents.{entries_in}
use Rattle.layer_objects.specs.Objects.{bare, by_id, in_first, manifest_of, name_of_record, objects_of, plan_of, rows_of, table_kinds}

-- ---- tables

-- what a fact takes: at most 4,096 bytes for the key columns and 32,768 for the value, and a date that is a time; and a range isn't empty
abbrev pub IsSized : List Kind → RowFact → Type 0
IsSized kinds (Put key cells at) = (columns_len kinds key ≤ 4096) × (length (row_value cells) ≤ 32768) × IsTime at
IsSized kinds (Del key at) = (columns_len kinds key ≤ 4096) × IsTime at
IsSized kinds (DelRange lo hi at) = (columns_len kinds lo ≤ 4096) × (columns_len kinds hi ≤ 4096) × IsTime at × (is_lt (row_cmp kinds lo hi) ≡ true)

-- the table of an id, whose facts and descriptors layers can hold
pub record IsStorable (id : ℕ) (table : Table) : Type 0 where
  pub id_is : table.id ≡ id
  pub facts : (f : RowFact) → Has f table.facts → IsRowFact (table_kinds table) f × IsSized (table_kinds table) f
  pub schemas : (d : Schema) → Has d table.descriptors → (d.id ≡ id) × (table_kinds table ≡ key_kinds d)
  pub ascend : ascend_after zero_time table.descriptors ≡ true

abbrev pub AreStorable : List Table → Type 0
AreStorable tables = (i : ℕ) (table : Table) → slice_get tables i ≡ Some table → IsStorable (100 + i) table

-- ---- layers

-- The record of a layer: its objects can be named, its job is one from 1 on, its start is before its end, the end of its full backup isn't
-- after that, its floor lies between them and is the start where there is no history, its scope is a proper one, and its manifest is of
-- version 1 or 2.
pub record IsRecord (r : LayerRecord) : Type 0 where
  pub name : IsLayerName (name_of_record r)
  pub from_one : 0 < r.job
  pub ends : time_lt r.start r.end ≡ true
  pub full : time_le r.full r.end ≡ true
  pub floor : IsTime r.floor
  pub from : time_le r.start r.floor ≡ true
  pub upto : time_le r.floor r.end ≡ true
  pub bare : r.history ≡ false → r.floor ≡ r.start
  pub scope : IsProperScope r.scope
  pub version : (r.version ≡ 1) ⊎ (r.version ≡ 2)

-- descriptors that a manifest can list of a table: proper ones with the same key columns, whose number has 64 bits
pub record AreListable (ds : List Schema) : Type 0 where
  pub proper : AllByRecursion IsProperSchema ds
  pub keyed : (d e : Schema) → Has d ds → Has e ds → d.key_columns ≡ e.key_columns
  pub counted : length ds < 2 ^ 64

-- a manifest that was read in version 1, or bytes that are none
abbrev pub older_or : List ℕ → Result Manifest ℕ → List ℕ
older_or bytes (Ok m) = manifest_code (first_version m)
older_or bytes (Err at) = bytes

-- the bytes that a layer's manifest has in version 1
abbrev pub older_manifest : stored.LayerObjects → List ℕ
older_manifest w = older_or w.manifest (read_manifest w.manifest)

-- A layer can be stored: it has few enough chunks, its manifest is a proper one, which in version 1 is that of the record with version 1;
-- each entry of a planned table is one of the table, and can be spelled; and the manifest lists descriptors with the table's kinds of keys.
pub record MayBeWritten (tables : List Table) (r : LayerRecord) : Type 0 where
  pub few : stored.IsLayer (objects_of tables r)
  pub proper : IsProperManifest (manifest_of tables r)
  pub older : older_manifest (objects_of tables r) ≡ (objects_of tables (in_first r)).manifest
  pub entries : (plan : TablePlan) → Has plan (plan_of tables r).tables → AllByRecursion (λ (e : Entry). (is_entry plan.id (by_id [] table_kinds tables plan.id) e ≡ true) × IsStored e) (entries_in (bytes_of (rows_of tables)) plan)
  pub pieces : AllByRecursion (λ (t : TablePart). kinds_of t.descriptors ≡ by_id [] table_kinds tables t.id) (manifest_of tables r).tables

-- ---- laws

-- Over storable tables, not too many and with not too many facts, the layer of each record may be written, full or an increment, with
-- history or without, with tables that it introduces or without, where its descriptors can be listed; whatever was collected.
abbrev pub LayersMayBeWritten : Type 0
LayersMayBeWritten = (tables : List Table) (r : LayerRecord) → AreStorable tables → 100 + length tables ≤ 2 ^ 32 → accepted tables ≤ 1000000 → IsRecord r
    → AllByRecursion (λ (t : TablePart). AreListable t.descriptors) (bare tables r).tables → MayBeWritten tables r

-- a proper manifest that is spelled as the layer's is the layer's, and has as many chunks as the layer
abbrev pub ManifestsTell : Type 0
ManifestsTell = (tables : List Table) (r : LayerRecord) (m : Manifest) → MayBeWritten tables r → IsProperManifest m → manifest_code m ≡ (objects_of tables r).manifest
    → (m ≡ manifest_of tables r) × (chunk_count m.tables ≡ length (objects_of tables r).chunks)

-- with the bytes of version 1 as its manifest, it is the layer of the record with version 1
abbrev pub FirstVersionsAgree : Type 0
FirstVersionsAgree = (tables : List Table) (r : LayerRecord) → MayBeWritten tables r → with_manifest (objects_of tables r) (older_manifest (objects_of tables r)) ≡ objects_of tables (in_first r)
