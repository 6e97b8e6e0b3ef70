-- RESTORE DATABASE: its tests, and what it makes. Its rows are those of a past scan of the cluster's own tables.
use Rattle.std.specs.Prelude.{ℕ, ◌-◌, Bool, false, ◌&&◌, nat_eq, List, [], ◌∷◌, ◌++◌, length, map, filter_map, sum_by, slice_get, Option, Some, None, option_and_then, unwrap_or, if◌then◌else◌}
use Rattle.std.specs.Str.{bytes_eq}
use Rattle.mvcc_keys.specs.Times.{Time, next, zero_time, latest, or_zero}
use Rattle.table_descriptors.specs.declared.changes.Change.TheVariants.{Become}
use Rattle.table_descriptors.specs.declared.columns.State.TheVariants.{Public}
use Rattle.table_descriptors.specs.Descriptors.{Schema, changed_schema}
use Rattle.fact_model.specs.Facts.{Put}
use Rattle.fact_model.specs.Scans.{scan}
use Rattle.history_model.specs.Rows.{RowFact, RowItem}
use Rattle.history_model.specs.Histories.{Table, in_force, key_order, schemas_of}
use Rattle.history_model.specs.Layers.{LayerRecord}
use Rattle.introduced_spans.specs.Publicity.{is_public}
use Rattle.introduced_spans.specs.Spans.{descriptors_of, scope_ids}
use Rattle.layer_objects.specs.Objects.{by_id, table_facts}
use Rattle.chain_resolver.specs.declared.layer.Layer as chain
use Rattle.chain_resolver.specs.declared.faults.CoverFault.{CoverFault}
use Rattle.chain_resolver.specs.declared.faults.CoverFault.TheVariants as cover
use Rattle.chain_resolver.specs.Cover.{ends_of}
use Rattle.chain_resolver.specs.Best.{Chain, Cover, Uncovered, cover}
use Rattle.id_remap.specs.declared.targets.Target.{Target}
use Rattle.id_remap.specs.declared.targets.Target.TheVariants as target
use Rattle.id_remap.specs.declared.faults.RemapFault.{RemapFault}
use Rattle.id_remap.specs.declared.faults.RemapFault.TheVariants as remap
use Rattle.id_remap.specs.Remapping.{new_id, new_ids, remap_fault, remapped_schema, target_name}
use Rattle.script_grammar.specs.declared.backups.Src.{Src}
use Rattle.reply_texts.specs.declared.refusals.Refusal.{Refusal}
use Rattle.reply_texts.specs.declared.refusals.Refusal.TheVariants.{NotCovered, HistoryCollected, NeedsHistory, Gap, NoSuchBackup, NothingToRestore, MissingReference, NoSuchDatabase, DatabaseExists, NameTaken, TooManyTables}
use Rattle.reply_texts.specs.declared.answers.Answer.{Answer}
use Rattle.reply_texts.specs.declared.answers.Answer.TheVariants.{RestoreDone}
use Rattle.reply_texts.specs.declared.answers.RestoredTable.{RestoredTable}
use Rattle.machine_model.specs.Machine.{Machine, Restore, Stepped, answered, catalog_of, drawing, judged, refusal_if, refused, with_found, with_time}
use Rattle.machine_model.specs.TableRows.{room_refusal}
use Rattle.machine_model.specs.Backups.{layers_in, next_job, with_source}

-- ---- the chain

-- what a chain is found by
abbrev pub link_of : LayerRecord → chain.Layer
link_of r = record { start = r.start; end = r.end; floor = r.floor; history = r.history }

abbrev pub links_of : List LayerRecord → List chain.Layer
links_of rs = map link_of rs

-- the time that is given, or the greatest end of some layers
abbrev pub time_of : List LayerRecord → Option Time → Time
time_of rs at = unwrap_or at (or_zero (latest (ends_of (links_of rs))))

-- no cover tells of want of memory
abbrev pub refusal_of_cover : CoverFault → Refusal
refusal_of_cover (cover.NotCovered first last) = NotCovered first last
refusal_of_cover (cover.HistoryCollected floor) = HistoryCollected floor
refusal_of_cover (cover.NeedsHistory below above) = NeedsHistory below above
refusal_of_cover (cover.Gap reached wants) = Gap reached wants
refusal_of_cover cover.Memory = NoSuchBackup

-- the layers at these places
abbrev pub layers_at : List LayerRecord → List ℕ → List LayerRecord
layers_at rs places = filter_map (slice_get rs) places

abbrev pub with_cover : Machine → List LayerRecord → Cover → (List LayerRecord → Stepped) → Stepped
with_cover m rs (Chain places) change = change (layers_at rs places)
with_cover m rs (Uncovered fault) change = refused m (refusal_of_cover fault)

abbrev pub last_of : {X : Type 0} → List X → Option X
last_of xs = slice_get xs (length xs - 1)

-- ---- the chosen tables

-- the descriptor of a table that is public and in the database
abbrev pub if_chosen : List ℕ → Schema → Option Schema
if_chosen database d = if is_public d && bytes_eq d.database database then Some d else None

-- what the descriptors of a table choose of it at t
abbrev pub chosen_by : List ℕ → Time → List Schema → Option Schema
chosen_by database t ds = option_and_then (if_chosen database) (in_force ds t)

-- the tables of the database that a layer shows public at t, by their descriptors, ids ascending
unfoldable pub chosen_tables : List Table → List ℕ → Time → LayerRecord → List Schema
chosen_tables tables database t r = filter_map (λ id. chosen_by database t (descriptors_of (schemas_of tables) id)) (scope_ids (schemas_of tables) r.scope)

-- the rows of a chosen table
abbrev pub rows_to_restore : List Table → Time → Schema → List RowItem
rows_to_restore tables t d = scan (key_order d) t (by_id [] table_facts tables d.id)

-- how many there are of all
abbrev pub count_to_restore : List Table → Time → List Schema → ℕ
count_to_restore tables t chosen = sum_by (λ d. length (rows_to_restore tables t d)) chosen

-- ---- refusals

abbrev pub refusal_of_remap : RemapFault → Option Refusal
refusal_of_remap (remap.MissingReference table referenced) = Some (MissingReference table referenced)
refusal_of_remap (remap.NoSuchDatabase database) = Some (NoSuchDatabase database)
refusal_of_remap (remap.DatabaseExists database) = Some (DatabaseExists database)
refusal_of_remap (remap.NameTaken table) = Some (NameTaken table)
refusal_of_remap remap.TooManyTables = Some TooManyTables
refusal_of_remap remap.Memory = None

abbrev pub is_empty : {X : Type 0} → List X → Bool
is_empty xs = nat_eq (length xs) 0

abbrev pub nothing_refusal : List Schema → Option Refusal
nothing_refusal chosen = refusal_if (is_empty chosen) NothingToRestore

-- ---- what is made

-- a stored row as it was, put at a time
abbrev pub put_anew : Time → RowItem → RowFact
put_anew at item = Put item.key item.value at

-- A chosen table under its new id: Offline from the first time, from which its rows are dated, and public from the second.
abbrev pub restored_table : List Table → List (ℕ × ℕ) → Target → Time → Time → Time → Schema → Table
restored_table tables ids to t at published d =
    let s = remapped_schema ids to at d in
    record { id = s.id; facts = map (put_anew at) (rows_to_restore tables t d); descriptors = s ∷ changed_schema s (Become Public) published ∷ []; threshold = zero_time }

abbrev pub with_restored : Machine → List ℕ → List Table → Time → Machine
with_restored m database tables clock = record m { clock = clock; history = record { databases = m.history.databases ++ database ∷ []; tables = m.history.tables ++ tables }; jobs = m.jobs ++ Restore ∷ [] }

abbrev pub restored_as : List (ℕ × ℕ) → Target → Schema → RestoredTable
restored_as ids to d = record { old = d.id; new = new_id ids d.id; table = target_name to d }

abbrev pub span_of : LayerRecord → Time × Time
span_of r = (r.start, r.end)

abbrev pub restore_done : Machine → Target → Time → Time → List LayerRecord → List Schema → Answer
restore_done m to t at rs chosen = RestoreDone (next_job m) t at (count_to_restore m.history.tables t chosen) (map span_of rs) (map (restored_as (new_ids (catalog_of m) chosen) to) chosen)

-- a restore of chosen tables from a chain, in a new database
abbrev pub restore_chosen : Machine → List ℕ → Time → Time → Time → List LayerRecord → List Schema → Stepped
restore_chosen m database t at published rs chosen =
    let to = target.Database database in
    judged m (nothing_refusal chosen ∷ option_and_then refusal_of_remap (remap_fault (catalog_of m) chosen to false at) ∷ room_refusal m (count_to_restore m.history.tables t chosen) ∷ [])
    (answered (with_restored m database (map (restored_table m.history.tables (new_ids (catalog_of m) chosen) to t at published) chosen) published) (restore_done m to t at rs chosen))

-- a chain has a last layer
abbrev pub restore_chain : Machine → List ℕ → List ℕ → Time → Time → Time → List LayerRecord → Stepped
restore_chain m database new t at published rs = with_found m NothingToRestore (last_of rs) (λ r. restore_chosen m new t at published rs (chosen_tables m.history.tables database t r))

-- RESTORE DATABASE: it draws the time of its tables and rows, and the time at which they are public
unfoldable pub restore_database : Machine → List ℕ → Src → List ℕ → Option Time → Option (List ℕ) → Stepped
restore_database m database source collection at new =
    drawing m (λ made. with_time m (next made) (λ published. with_source m source collection (λ s.
    let rs = layers_in m collection s in
    with_cover m rs (cover (links_of rs) (time_of rs at)) (restore_chain m database (unwrap_or new database) (time_of rs at) made published))))
