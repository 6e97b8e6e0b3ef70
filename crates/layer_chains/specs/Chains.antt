-- Chains of layers: which records form one to a time, and what their entries show of a table.
use Rattle.std.specs.Prelude.{◌≡◌, ◌<◌, ◌^◌, ◌+◌, ◌==◌, ◌⊎◌, ℕ, Bool, true, false, List, [], ◌∷◌, map, slice_get, Option, Some, None, option_map, unwrap_or}
use Rattle.std.specs.List.{AllByRecursion, find, flat_map}
use Rattle.mvcc_keys.specs.Times.{Time, zero_time, time_le, time_lt}
use Rattle.mvcc_keys.specs.declared.entries.Entry.{Entry}
use Rattle.row_codec.specs.declared.rows.Kind.{Kind}
use Rattle.row_codec.specs.RowKeys.{IsKey, row_key}
use Rattle.row_codec.specs.RowOrder.{row_cmp}
use Rattle.row_codec.specs.RowValues.{row_value}
use Rattle.table_descriptors.specs.declared.scopes.Scope.{Scope}
use Rattle.table_descriptors.specs.Descriptors.{Schema, key_kinds}
use Rattle.list_laws.specs.Members.{Has}
use Rattle.fact_model.specs.Facts.{IsApart, date, touches}
use Rattle.fact_model.specs.Listings.{RangesDiffer}
use Rattle.fact_model.specs.Scans.{scan}
use Rattle.history_model.specs.Histories.{Table, in_force, key_order, schemas_of}
use Rattle.history_model.specs.Layers.{LayerRecord}
use Rattle.history_model.specs.Rows.{Key, RowFact, RowItem}
use Rattle.version_store.specs.Tables.{bytes_cmp}
use Rattle.version_store.specs.Lists.{facts_of}
use Rattle.table_rows.specs.RowTables.{bytes_of}
use Rattle.introduced_spans.specs.declared.plans.TablePlan.{TablePlan}
use Rattle.introduced_spans.specs.Publicity.{is_public}
use Rattle.introduced_spans.specs.Spans.{descriptors_of, scope_ids}
use Rattle.chunk_file.specs.Entries.{are_ordered}
use Rattle.layer_objects.specs.Contents.{entries_in}
use Rattle.layer_objects.specs.Objects.{by_id, plan_of, rows_of, table_facts, table_kinds}
use Rattle.layer_objects.specs.Storable.{IsRecord, IsStorable}
use Rattle.layer_merge.specs.FromLast.{from_last}
use Rattle.layer_merge.specs.Ranges.{AreDated}
use Rattle.layer_merge.specs.Rows.{put_of}

-- ---- chains

-- A layer serves a time: it ends there, or it has history, and the time is after its start, not before its floor, and before its end.
abbrev pub Serves : Time → LayerRecord → Type 0
Serves t r = (t ≡ r.end) ⊎ ((r.history ≡ true) × (time_lt r.start t ≡ true) × (time_le r.floor t ≡ true) × (time_lt t r.end ≡ true))

-- records that adjoin from a time on, the last of which serves t
abbrev pub AreChainFrom : Time → Time → List LayerRecord → Type 0
AreChainFrom s t [] = ⊥
AreChainFrom s t (r ∷ []) = (r.start ≡ s) × Serves t r
AreChainFrom s t (r ∷ q ∷ rs) = (r.start ≡ s) × AreChainFrom r.end t (q ∷ rs)

-- a chain to t: it goes on from before all dates
abbrev pub IsChainTo : Time → List LayerRecord → Type 0
IsChainTo t rs = AreChainFrom zero_time t rs

-- records of layers of one scope
pub record AreOfScope (scope : Scope) (rs : List LayerRecord) : Type 0 where
  pub each : AllByRecursion IsRecord rs
  pub scopes : AllByRecursion (λ (r : LayerRecord). r.scope ≡ scope) rs

-- ---- tables

-- facts that touch one key of a table are the same fact or have different dates
abbrev pub AreApart : List Kind → List RowFact → Type 0
AreApart kinds fs = (k : Key) (f g : RowFact) → IsKey kinds k → Has f fs → Has g fs → touches (row_cmp kinds) k f ≡ true → touches (row_cmp kinds) k g ≡ true → date f ≡ date g → f ≡ g

-- The table of an id whose layers can be merged: layers can hold its facts, which are dated after the clock's first time, those that touch
-- one key have different dates, and so have its range deletions.
pub record IsMergeable (id : ℕ) (table : Table) : Type 0 where
  pub small : id < 2 ^ 32
  pub storable : IsStorable id table
  pub begun : (f : RowFact) → Has f table.facts → time_lt zero_time (date f) ≡ true
  pub apart : AreApart (table_kinds table) table.facts
  pub dated : RangesDiffer table.facts

-- tables of which layers can be merged
abbrev pub AreMergeable : List Table → Type 0
AreMergeable tables = (i : ℕ) (table : Table) → slice_get tables i ≡ Some table → IsMergeable (100 + i) table

-- a descriptor is the one in force at t of a table of the scope, which is public
pub record IsShown (tables : List Table) (scope : Scope) (t : Time) (d : Schema) : Type 0 where
  pub member : Has d.id (scope_ids (schemas_of tables) scope)
  pub force : in_force (descriptors_of (schemas_of tables) d.id) t ≡ Some d
  pub public : is_public d ≡ true

-- the rows of a table as of t
abbrev pub rows_at : List Table → Time → Schema → List RowItem
rows_at tables t d = scan (key_order d) t (by_id [] table_facts tables d.id)

-- a stored put of a table, for an item of its scan
abbrev pub stored_put : ℕ → List Kind → RowItem → Entry
stored_put id kinds item = Entry.Put (row_key id kinds item.key) item.at (row_value item.value)

-- ---- layers of a table

-- the plan of a table in a layer, if it is a member
abbrev pub plan_for : List Table → ℕ → LayerRecord → Option TablePlan
plan_for tables id r = find (λ (p : TablePlan). p.id == id) (plan_of tables r).tables

-- the entries of a table in a layer, none where the table is no member
abbrev pub layer_entries : List Table → ℕ → LayerRecord → List Entry
layer_entries tables id r = unwrap_or (option_map (entries_in (bytes_of (rows_of tables))) (plan_for tables id r)) []

-- the layer introduces the table
abbrev pub introduces : List Table → ℕ → LayerRecord → Bool
introduces tables id r = unwrap_or (option_map (λ (p : TablePlan). p.introduced) (plan_for tables id r)) false

-- the entries of the layers that count: from the last one on that introduces the table
abbrev pub chain_entries : List Table → ℕ → List LayerRecord → List Entry
chain_entries tables id rs = flat_map (layer_entries tables id) (from_last (introduces tables id) rs)

-- Entries of a chain show a table: the visible puts as of t are its rows at t; each layer's are in order throughout; and facts that touch
-- one key have different dates, as have range deletions.
pub record ShowsTable (tables : List Table) (id : ℕ) (kinds : List Kind) (t : Time) (items : List RowItem) (rs : List LayerRecord) : Type 0 where
  pub rows : map put_of (scan bytes_cmp t (facts_of (chain_entries tables id rs))) ≡ map (stored_put id kinds) items
  pub ordered : AllByRecursion (λ (r : LayerRecord). are_ordered None (layer_entries tables id r) ≡ true) rs
  pub apart : IsApart bytes_cmp (facts_of (chain_entries tables id rs))
  pub dated : AreDated (chain_entries tables id rs)

-- ---- laws

-- For records of one scope that form a chain to t, a table of the scope that is public at t is shown: also where it was taken offline and
-- introduced again, collected, or restored in between.
abbrev pub ChainsShowTables : Type 0
ChainsShowTables = (tables : List Table) (scope : Scope) (t : Time) (rs : List LayerRecord) (d : Schema)
    → AreOfScope scope rs → IsChainTo t rs → AreMergeable tables → IsShown tables scope t d
    → ShowsTable tables d.id (key_kinds d) t (rows_at tables t d) rs
