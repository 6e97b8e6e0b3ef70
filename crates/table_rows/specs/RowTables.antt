-- The facts of each table as rows, and the bytes in which a store has them.
use Rattle.std.specs.List.{AllByRecursion}
use Rattle.std.specs.Prelude.{◌≡◌, ◌≢◌, ℕ, true, false, ◌==◌, cond, List, ◌++◌, map, take}
use Rattle.mvcc_keys.specs.Times.{Time, time_lt}
use Rattle.row_codec.specs.declared.rows.Kind.{Kind}
use Rattle.row_codec.specs.RowOrder.{row_cmp}
use Rattle.row_codec.specs.RowKeys.{row_key, IsKey}
use Rattle.row_codec.specs.RowValues.{row_value, are_cells, IsCell}
use Rattle.fact_model.specs.Facts.{Put, Del, DelRange, date, touches}
use Rattle.list_laws.specs.Members.{Has}
use Rattle.fact_model.specs.Listed.{is_point}
use Rattle.fact_model.specs.Mapped.{map_fact}
use Rattle.table_descriptors.specs.Descriptors.{Schema, key_kinds}
use Rattle.history_model.specs.Rows.{Key, Cells, RowFact}
use Rattle.version_store.specs.Tables.{Tables, ByteFact}

-- by table: the kinds of its key columns, all facts that were ever accepted, and the time up to which they may be
-- forgotten
pub record RowTables : Type 0 where
  pub kinds : ℕ → List Kind
  pub facts : ℕ → List RowFact
  pub threshold : ℕ → Time

-- a fact of a table in bytes
abbrev pub coded : ℕ → List Kind → RowFact → ByteFact
coded id kinds f = map_fact (row_key id kinds) row_value f

-- the tables in bytes
abbrev pub bytes_of : RowTables → Tables
bytes_of T = record { facts = λ id. map (coded id (T.kinds id)) (T.facts id); threshold = T.threshold }

-- ---- what a store has

-- cells that ascend by column and hold no NULL
abbrev pub IsCells : Cells → Type 0
IsCells cells = (are_cells 0 cells ≡ true) × AllByRecursion IsCell cells

-- a fact of a table with key columns of these kinds: its keys have them
abbrev pub IsRowFact : List Kind → RowFact → Type 0
IsRowFact kinds (Put key cells at) = IsKey kinds key × IsCells cells
IsRowFact kinds (Del key at) = IsKey kinds key
IsRowFact kinds (DelRange lo hi at) = IsKey kinds lo × IsKey kinds hi

abbrev pub AreRowFacts : List Kind → List RowFact → Type 0
AreRowFacts kinds fs = (f : RowFact) → Has f fs → IsRowFact kinds f

-- a store, which stands for tables in bytes, has these tables
pub record HasRows (stands : Tables → Type 0) (T : RowTables) : Type 0 where
  pub bytes : stands (bytes_of T)
  pub rows : (id : ℕ) → AreRowFacts (T.kinds id) (T.facts id)

-- more facts in a table
abbrev pub with_facts : ℕ → List RowFact → RowTables → RowTables
with_facts id fs T = record { kinds = T.kinds; facts = λ i. cond (i == id) (T.facts i ++ fs) (T.facts i); threshold = T.threshold }

-- a table's threshold, raised where the time is greater
abbrev pub with_threshold : ℕ → Time → RowTables → RowTables
with_threshold id g T = record { kinds = T.kinds; facts = T.facts; threshold = λ i. cond (i == id) (cond (time_lt (T.threshold i) g) g (T.threshold i)) (T.threshold i) }

-- ---- what may be added

-- the table of a descriptor has key columns of these kinds and directions
abbrev pub IsTableOf : RowTables → Schema → Type 0
IsTableOf T d = T.kinds d.id ≡ key_kinds d

-- a fact may be added to a table: it is after the threshold, no fact that touches one of its keys has its date,
-- and no two range deletions have one date
pub record MayAdd (T : RowTables) (id : ℕ) (f : RowFact) : Type 0 where
  pub late : time_lt (T.threshold id) (date f) ≡ true
  pub fresh : (k : Key) (g : RowFact) → IsKey (T.kinds id) k → Has g (T.facts id) → touches (row_cmp (T.kinds id)) k g ≡ true → touches (row_cmp (T.kinds id)) k f ≡ true → date g ≢ date f
  pub other_range : (g : RowFact) → Has g (T.facts id) → is_point g ≡ false → is_point f ≡ false → date g ≢ date f

-- the same of each of some facts
abbrev pub MayAddAll : RowTables → ℕ → List RowFact → Type 0
MayAddAll T id fs = (f : RowFact) → Has f fs → MayAdd T id f

-- a front of these facts was added
pub record HasFront (stands : Tables → Type 0) (T : RowTables) (id : ℕ) (fs : List RowFact) : Type 0 where
  pub n : ℕ
  pub rows : HasRows stands (with_facts id (take n fs) T)

-- the deletion of a key
abbrev pub deletion : Time → Key → RowFact
deletion t key = Del key t
