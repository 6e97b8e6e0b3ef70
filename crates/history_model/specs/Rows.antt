-- Rows as commands give them and as scans show them.
use Rattle.std.specs.Prelude.{ℕ, ◌+◌, Bool, true, false, not, ◌||◌, ◌==◌, List, [], ◌∷◌, ◌++◌, map, length, Option, Some, None, option_map, if◌then◌else◌}
use Rattle.std.specs.List.{find}
use Rattle.mvcc_keys.specs.Times.{Time}
use Rattle.row_codec.specs.declared.rows.Kind.{Kind}
use Rattle.row_codec.specs.declared.rows.Kind.TheVariants.{Int as KindInt, Text as KindText, Bytes as KindBytes, Bool as KindBool}
use Rattle.row_codec.specs.declared.rows.Datum.{Datum}
use Rattle.row_codec.specs.declared.rows.Datum.TheVariants.{Int, Text, Bytes, Bool as Truth, Null}
use Rattle.row_codec.specs.declared.rows.Cell.{Cell}
use Rattle.table_descriptors.specs.declared.columns.Column.{Column}
use Rattle.table_descriptors.specs.Descriptors.{Schema, has_id}
use Rattle.fact_model.specs.Facts.{Fact, Put}
use Rattle.fact_model.specs.Scans.{Item}

-- the values of the key columns, in key order
abbrev pub Key : Type 0
Key = List Datum

-- the stored values of the other columns, by column id
abbrev pub Cells : Type 0
Cells = List Cell

abbrev pub RowFact : Type 0
RowFact = Fact Key Cells

abbrev pub RowItem : Type 0
RowItem = Item Key Cells

-- ---- rows that are given

abbrev pub is_null : Datum → Bool
is_null Null = true
is_null (Int n) = false
is_null (Text t) = false
is_null (Bytes b) = false
is_null (Truth b) = false

-- the value has the type of the column
abbrev pub is_of : Kind → Datum → Bool
is_of KindInt (Int n) = true
is_of KindText (Text t) = true
is_of KindBytes (Bytes b) = true
is_of KindBool (Truth b) = true
is_of kind x = false

-- the value may stand in the column: NULL only outside the key
abbrev pub fits : List ℕ → Column → Datum → Bool
fits key c x = if is_null x then not (has_id c.id key) else is_of c.kind x

-- the place, from n on, of the first value that doesn't fit its column
abbrev pub misfit_from : List ℕ → ℕ → List Column → List Datum → Option ℕ
misfit_from key n [] row = None
misfit_from key n (c ∷ cs) [] = None
misfit_from key n (c ∷ cs) (x ∷ xs) = if fits key c x then misfit_from key (n + 1) cs xs else Some n

-- 0 where the row has another number of values than columns, else the place of the first misfit
abbrev pub wrong_column : Schema → List Datum → Option ℕ
wrong_column d row = if length row == length d.columns then misfit_from d.key_columns 1 d.columns row else Some 0

-- the value of the column of an id, in a row of these columns
abbrev pub value_in : List Column → List Datum → ℕ → Option Datum
value_in [] row id = None
value_in (c ∷ cs) [] id = None
value_in (c ∷ cs) (x ∷ xs) id = if c.id == id then Some x else value_in cs xs id

abbrev pub or_null : Option Datum → Datum
or_null None = Null
or_null (Some x) = x

-- the values of the key columns, in key order
abbrev pub key_of : Schema → List Datum → Key
key_of d row = map (λ id. or_null (value_in d.columns row id)) d.key_columns

-- the cell of a value, unless it stands in the key or is NULL
abbrev pub cell_in : List ℕ → Column → Datum → Cells
cell_in key c x = if has_id c.id key || is_null x then [] else record { column = c.id; datum = x } ∷ []

-- the values that are stored beside the key, by column
abbrev pub cells_in : List ℕ → List Column → List Datum → Cells
cells_in key [] row = []
cells_in key (c ∷ cs) [] = []
cells_in key (c ∷ cs) (x ∷ xs) = cell_in key c x ++ cells_in key cs xs

-- the fact of a row that is put at a time
abbrev pub put_of : Schema → Time → List Datum → RowFact
put_of d t row = Put (key_of d row) (cells_in d.key_columns d.columns row) t

-- ---- rows that are shown

-- the value in the key at the place of an id among the key columns
abbrev pub key_value : List ℕ → List Datum → ℕ → Option Datum
key_value [] key id = None
key_value (k ∷ ks) [] id = None
key_value (k ∷ ks) (x ∷ xs) id = if k == id then Some x else key_value ks xs id

abbrev pub cell_value : List Cell → ℕ → Option Datum
cell_value cells id = option_map (λ (c : Cell). c.datum) (find (λ (c : Cell). c.column == id) cells)

-- the value in the key or, outside the key, that of the cell, if there is one
abbrev pub stored_value : Option Datum → Option Datum → Option Datum
stored_value None cell = cell
stored_value (Some x) cell = Some x

-- what a column shows: NULL where nothing is stored
abbrev pub shown_value : Schema → RowItem → Column → Datum
shown_value d item c = or_null (stored_value (key_value d.key_columns item.key c.id) (cell_value item.value c.id))

-- the item in the columns of a descriptor
abbrev pub shown_row : Schema → RowItem → List Datum
shown_row d item = map (shown_value d item) d.columns

abbrev pub shown_rows : Schema → List RowItem → List (List Datum)
shown_rows d items = map (shown_row d) items
