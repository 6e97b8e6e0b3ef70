-- A proper history: what is true of the databases and tables of every cluster, at every time.
use Rattle.std.specs.Prelude.{◌≡◌, ◌≢◌, ◌≤◌, ℕ, ◌+◌, true, false, List, [], length, slice_get, Some}
use Rattle.std.specs.List.{AllByRecursion}
use Rattle.std.specs.Ordering.{is_lt}
use Rattle.std.specs.declared.cmp.Ordering.{Ordering}
use Rattle.mvcc_keys.specs.Times.{Time, zero_time, time_lt}
use Rattle.table_descriptors.specs.Names.{is_name}
use Rattle.table_descriptors.specs.Descriptors.{IsProperSchema, Schema, key_kinds}
use Rattle.fact_model.specs.Facts.{Put, Del, DelRange, date, touches}
use Rattle.fact_model.specs.Listed.{is_point}
use Rattle.list_laws.specs.Members.{Has}
use Rattle.history_model.specs.Rows.{Key, RowFact}
use Rattle.history_model.specs.Histories.{History, Table, accepted, is_named, key_order}
use Rattle.introduced_spans.specs.PlanLaws.{ascend_after}
use Rattle.table_rows.specs.RowTables.{IsRowFact}
use Rattle.layer_objects.specs.Storable.{IsSized}

-- no two places of a list have elements that are so related
abbrev pub NoTwo : {X : Type 0} → (X → X → Type 0) → List X → Type 0
NoTwo {X} R xs = (i j : ℕ) (x y : X) → slice_get xs i ≡ Some x → slice_get xs j ≡ Some y → R x y → i ≡ j

-- ---- one table

-- the same database, and key columns of the same ids, kinds and directions
pub record IsSameTable (d e : Schema) : Type 0 where
  pub database : e.database ≡ d.database
  pub key_columns : e.key_columns ≡ d.key_columns
  pub kinds : key_kinds e ≡ key_kinds d

-- both facts have one date, and touch one key
abbrev pub TouchOneKey : (Key → Key → Ordering) → RowFact → RowFact → Type 0
TouchOneKey cmp f g = (date f ≡ date g) × (k : Key) × (touches cmp k f ≡ true) × (touches cmp k g ≡ true)

-- both are range deletions of one date
abbrev pub AreRangesOfOneDate : RowFact → RowFact → Type 0
AreRangesOfOneDate f g = (date f ≡ date g) × (is_point f ≡ false) × (is_point g ≡ false)

-- in a range deletion lo is before hi
abbrev pub RunsUp : (Key → Key → Ordering) → RowFact → Type 0
RunsUp cmp (Put key cells at) = Unit {0}
RunsUp cmp (Del key at) = Unit {0}
RunsUp cmp (DelRange lo hi at) = is_lt (cmp lo hi) ≡ true

-- The table of an id, which has a descriptor.
pub record IsProperTable (id : ℕ) (table : Table) : Type 0 where
  pub id_is : table.id ≡ id
  pub some : table.descriptors ≢ []
  -- all dates are after the clock's first time, and the dates of the descriptors ascend strictly
  pub ascend : ascend_after zero_time table.descriptors ≡ true
  pub after : (f : RowFact) → Has f table.facts → time_lt zero_time (date f) ≡ true
  -- every descriptor is a proper one of the table
  pub schemas : (d : Schema) → Has d table.descriptors → IsProperSchema d × (d.id ≡ id)
  -- the database and the key columns never change
  pub same : (d e : Schema) → Has d table.descriptors → Has e table.descriptors → IsSameTable d e
  -- keys have the kinds of the key columns, and cells ascend by column and hold no NULL
  pub facts : (d : Schema) → Has d table.descriptors → (f : RowFact) → Has f table.facts → IsRowFact (key_kinds d) f
  -- no range is empty
  pub ranges : (d : Schema) → Has d table.descriptors → (f : RowFact) → Has f table.facts → RunsUp (key_order d) f
  -- no two facts that touch one key have the same date
  pub apart : (d : Schema) → Has d table.descriptors → NoTwo (TouchOneKey (key_order d)) table.facts
  -- no two range deletions have the same date
  pub differ : NoTwo AreRangesOfOneDate table.facts
  -- keys and values are within their limits of bytes, and dates are times
  pub sized : (d : Schema) → Has d table.descriptors → (f : RowFact) → Has f table.facts → IsSized (key_kinds d) f

-- ---- a history

-- one name belongs to both tables at t
abbrev pub ShareName : Time → Table → Table → Type 0
ShareName t a b = (name : List ℕ × List ℕ) × (is_named name t a.descriptors ≡ true) × (is_named name t b.descriptors ≡ true)

-- The tables stand by their ids, from 100 on. Names of databases are names; there are at most 4,096 tables and 1,000,000 facts.
pub record IsProperHistory (h : History) : Type 0 where
  pub tables : (i : ℕ) (table : Table) → slice_get h.tables i ≡ Some table → IsProperTable (100 + i) table
  -- at no time do two tables that aren't dropped have the same database and name
  pub names : (t : Time) → NoTwo (ShareName t) h.tables
  pub databases : AllByRecursion (λ name. is_name name ≡ true) h.databases
  pub few : length h.tables ≤ 4096
  pub events : accepted h.tables ≤ 1000000
