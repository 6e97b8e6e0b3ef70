-- The faults of rows and keys that commands give, and what a call answers.
use Rattle.std.specs.Global.{Vec}
use Rattle.std.specs.Prelude.{◌≡◌, ℕ, true, false, List, [], ◌∷◌, Option, Some, None, option_map, Result, Ok, Err, if◌then◌else◌}
use Rattle.mvcc_keys.specs.Times.{Time, time_lt}
use Rattle.mvcc_keys.specs.declared.entries.Entry.{Entry}
use Rattle.mvcc_keys.specs.declared.entries.Entry.TheVariants.{Put, Del, Range}
use Rattle.row_codec.specs.declared.rows.Kind.{Kind}
use Rattle.row_codec.specs.declared.rows.Datum.{Datum}
use Rattle.row_codec.specs.declared.rows.Cell.{Cell}
use Rattle.row_codec.specs.KeyReading.{read_row_key}
use Rattle.row_codec.specs.RowValues.{read_row_value}
use Rattle.row_codec.specs.RowOrder.{row_cmp}
use Rattle.table_descriptors.specs.Descriptors.{Schema, key_kinds}
use Rattle.fact_model.specs.Scans.{scan}
use Rattle.history_model.specs.Rows.{Key, shown_row, shown_rows}
use Rattle.history_model.specs.RowTests.{wrong_row, wrong_key, large_row, large_key, repeated_row, repeated_key, is_empty_range}
use Rattle.table_rows.specs.RowTables.{RowTables}
use Rattle.table_rows.specs.declared.faults.RowsFault.{RowsFault}
use Rattle.table_rows.specs.declared.faults.RowsFault.TheVariants.{WrongRow, TooLarge, DuplicateKey, EmptyRange, Memory}
use Rattle.table_rows.specs.declared.faults.SelectFault.{SelectFault}
use Rattle.table_rows.specs.declared.faults.SelectFault.TheVariants.{Collected, Memory as Wanted}

-- the first fault that a list of tests gives
abbrev pub first_fault : List (Option RowsFault) → Option RowsFault
first_fault [] = None
first_fault (None ∷ tests) = first_fault tests
first_fault (Some fault ∷ tests) = Some fault

abbrev pub wrong_fault : Option (ℕ × ℕ) → Option RowsFault
wrong_fault found = option_map (λ p. WrongRow p.0 p.1) found

abbrev pub large_fault : Option ℕ → Option RowsFault
large_fault found = option_map TooLarge found

abbrev pub repeated_fault : Option ℕ → Option RowsFault
repeated_fault found = option_map DuplicateKey found

-- rows: their types, their sizes, keys that come twice
unfoldable pub rows_fault : Schema → List (List Datum) → Option RowsFault
rows_fault d rows = first_fault (wrong_fault (wrong_row d rows) ∷ large_fault (large_row d rows) ∷ repeated_fault (repeated_row d rows) ∷ [])

-- keys: the same
unfoldable pub keys_fault : Schema → List Key → Option RowsFault
keys_fault d keys = first_fault (wrong_fault (wrong_key d keys) ∷ large_fault (large_key d keys) ∷ repeated_fault (repeated_key d keys) ∷ [])

-- the ends of a range: their types and sizes, and their order
unfoldable pub range_fault : Schema → Key → Key → Option RowsFault
range_fault d lo hi =
    first_fault (wrong_fault (wrong_key d (lo ∷ hi ∷ [])) ∷ large_fault (large_key d (lo ∷ hi ∷ [])) ∷ (if is_empty_range d lo hi then Some EmptyRange else None) ∷ [])

-- a check finds this fault or none, unless memory was wanting
abbrev pub Finds : Result (Unit {0}) RowsFault → Option RowsFault → Type 0
Finds (Ok u) fault = fault ≡ None
Finds (Err Memory) fault = Unit {0}
Finds (Err e) fault = fault ≡ Some e

-- the rows of a table as of t, in the columns of a descriptor
abbrev pub rows_at : RowTables → Schema → Time → List (List Datum)
rows_at T d t = shown_rows d (scan (row_cmp (key_kinds d)) t (T.facts d.id))

-- what is shown: the rows, or the threshold exactly where t is before it
abbrev pub Shows : RowTables → Schema → Time → Result (List (List Datum)) SelectFault → Type 0
Shows T d t (Ok rows) = (time_lt t (T.threshold d.id) ≡ false) × (rows ≡ rows_at T d t)
Shows T d t (Err (Collected threshold)) = (time_lt t (T.threshold d.id) ≡ true) × (threshold ≡ T.threshold d.id)
Shows T d t (Err Wanted) = Unit {0}

abbrev pub items_of : {E : Type 0} → Result (Vec (List Datum)) E → Result (List (List Datum)) E
items_of (Ok rows) = Ok rows.items
items_of (Err e) = Err e

-- ---- rows in bytes

-- what a put whose key and value read shows
abbrev pub shown_of : Schema → Time → Result (ℕ × List Datum) ℕ → Result (List Cell) ℕ → Option (List Datum)
shown_of d at (Ok key) (Ok cells) = Some (shown_row d (record { key = key.1; value = cells; at = at }))
shown_of d at (Ok key) (Err o) = None
shown_of d at (Err o) cells = None

-- the row of a put whose key, of these kinds, and value read
unfoldable pub row_in : Schema → List Kind → Entry → Option (List Datum)
row_in d kinds (Put key at value) = shown_of d at (read_row_key kinds key) (read_row_value value)
row_in d kinds (Del key at) = None
row_in d kinds (Range lo hi at) = None
