-- A restore's tables with their rows, as they are added to a cluster.
use Rattle.std.specs.Prelude.{◌≡◌, ℕ, ◌+◌, ◌^◌, ◌<◌, ◌≤◌, true, nat_eq, List, [], ◌∷◌, ◌++◌, length, map, sum_by, Some}
use Rattle.std.specs.List.{AllByRecursion}
use Rattle.std.specs.Global.{Vec}
use Rattle.std.specs.Map.{lookup}
use Rattle.mvcc_keys.specs.Times.{Time, time_lt, zero_time}
use Rattle.mvcc_keys.specs.declared.entries.Entry.{Entry}
use Rattle.row_codec.specs.declared.rows.Kind.{Kind}
use Rattle.table_descriptors.specs.declared.changes.Change.TheVariants.{Become}
use Rattle.table_descriptors.specs.declared.columns.State.TheVariants.{Public}
use Rattle.table_descriptors.specs.Descriptors.{Schema, changed_schema, key_kinds}
use Rattle.list_laws.specs.Members.{Has}
use Rattle.history_model.specs.Rows.{RowItem}
use Rattle.history_model.specs.Histories.{Table}
use Rattle.version_store.specs.declared.mvcc_map.MvccMap.{MvccMap}
use Rattle.layer_objects.specs.Storable.{IsSized}
use Rattle.layer_chains.specs.Chains.{stored_put}
use Rattle.restore_rows.specs.Putting.{AreItems}
use Rattle.machine_model.specs.Restores.{put_anew}
use Rattle.cluster_core.specs.ClusterView.{ClusterState}
use Rattle.cluster_core.specs.Standing.{Keeps}

-- ---- tables

-- a new table with its rows: Offline from the first time, from which these are dated, and public from the second
abbrev pub made_table : Time → Time → Schema → List RowItem → Table
made_table made published s items = record { id = s.id; facts = map (put_anew made) items; descriptors = s ∷ changed_schema s (Become Public) published ∷ []; threshold = zero_time }

abbrev pub made_tables : Time → Time → List Schema → List (List RowItem) → List Table
made_tables made published [] items = []
made_tables made published (s ∷ ss) [] = []
made_tables made published (s ∷ ss) (i ∷ is) = made_table made published s i ∷ made_tables made published ss is

-- ---- rows

abbrev pub entries_of : List (Vec Entry) → List (List Entry)
entries_of rows = map (λ (v : Vec Entry). v.items) rows

-- how many there are of all
abbrev pub count_rows : List (List Entry) → ℕ
count_rows rows = sum_by (λ (es : List Entry). length es) rows

-- stored rows of the table of an id, those of these items, which layers can hold when they are put anew
pub record AreStoredRows (made : Time) (id : ℕ) (kinds : List Kind) (entries : List Entry) (items : List RowItem) : Type 0 where
  pub small : id < 2 ^ 32
  pub stored : entries ≡ map (stored_put id kinds) items
  pub each : AreItems kinds items
  pub sized : (i : RowItem) → Has i items → IsSized kinds (put_anew made i)

-- the same of each of some tables
abbrev pub AreRowsOfEach : Time → List Schema → List (List Entry) → List (List RowItem) → Type 0
AreRowsOfEach made [] [] [] = Unit {0}
AreRowsOfEach made [] [] (i ∷ is) = ⊥
AreRowsOfEach made [] (r ∷ rs) is = ⊥
AreRowsOfEach made (d ∷ ds) [] is = ⊥
AreRowsOfEach made (d ∷ ds) (r ∷ rs) [] = ⊥
AreRowsOfEach made (d ∷ ds) (r ∷ rs) (i ∷ is) = AreStoredRows made d.id (key_kinds d) r i × AreRowsOfEach made ds rs is

-- stored rows of an older table that becomes this one, under the new id
pub record AreRowsFor (ids : List (ℕ × ℕ)) (made : Time) (id : ℕ) (s : Schema) (entries : List Entry) (items : List RowItem) : Type 0 where
  pub old : ℕ
  pub mapped : lookup (nat_eq old) ids ≡ Some id
  pub id_is : s.id ≡ id
  pub rows : AreStoredRows made old (key_kinds s) entries items

-- the same of each of some tables, whose ids go on from this one
abbrev pub AreRowsFrom : List (ℕ × ℕ) → Time → ℕ → List Schema → List (List Entry) → List (List RowItem) → Type 0
AreRowsFrom ids made id [] [] [] = Unit {0}
AreRowsFrom ids made id [] [] (i ∷ is) = ⊥
AreRowsFrom ids made id [] (r ∷ rs) is = ⊥
AreRowsFrom ids made id (s ∷ ss) [] is = ⊥
AreRowsFrom ids made id (s ∷ ss) (r ∷ rs) [] = ⊥
AreRowsFrom ids made id (s ∷ ss) (r ∷ rs) (i ∷ is) = AreRowsFor ids made id s r i × AreRowsFrom ids made (id + 1) ss rs is

-- ---- adding

-- a descriptor as a restore begins with it
abbrev pub IsFirst : Time → Schema → Type 0
IsFirst made s = (s.version ≡ 1) × (s.modified ≡ made)

-- there is room for these tables and their rows
pub record HasRoomFor (c : ClusterState) (made : Time) (ss : List Schema) (rs : List (List Entry)) : Type 0 where
  pub tables : length c.schemas.tables + length ss ≤ c.schemas.limit
  pub events : c.events + count_rows rs ≤ c.most_events
  pub first : AllByRecursion (IsFirst made) ss
  pub alike : length ss ≡ length rs

-- a cluster has its tables up to those that are still to be added, and then it has all
pub record IsAdding (c : ClusterState) (ids : List (ℕ × ℕ)) (made published : Time) (ss : List Schema) (rs : List (List Entry)) (all : List Table) : Type 0 where
  pub tables : List Table
  pub items : List (List RowItem)
  pub keeps : Keeps c tables
  pub clock : c.clock ≡ published
  pub begins : time_lt zero_time made ≡ true
  pub rows : AreRowsFrom ids made (100 + length tables) ss rs items
  pub all_are : tables ++ made_tables made published ss items ≡ all

-- more facts, by other tables and another store
abbrev pub with_added : ClusterState → ℕ → List (List Schema) → MvccMap → ClusterState
with_added c n tables store = record c { schemas = record c.schemas { tables = tables }; store = store; events = c.events + n }
