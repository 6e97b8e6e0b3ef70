-- The tests of rows and keys that commands give.
use Rattle.std.specs.Prelude.{ℕ, ◌+◌, Bool, not, ◌||◌, ◌==◌, nat_lt, List, [], ◌∷◌, ◌++◌, length, map, Option, Some, None, if◌then◌else◌}
use Rattle.std.specs.List.{list_any}
use Rattle.std.specs.Ordering.{is_eq, is_lt}
use Rattle.std.specs.declared.cmp.Ordering.{Ordering}
use Rattle.row_codec.specs.declared.rows.Kind.{Kind}
use Rattle.row_codec.specs.declared.rows.Datum.{Datum}
use Rattle.row_codec.specs.RowOrder.{is_down}
use Rattle.row_codec.specs.RowKeys.{is_of_kind, datum_code}
use Rattle.row_codec.specs.RowValues.{row_value}
use Rattle.table_descriptors.specs.Descriptors.{Schema, key_kinds}
use Rattle.history_model.specs.Rows.{Key, wrong_column, key_of, cells_in}
use Rattle.history_model.specs.Histories.{key_order}

-- the row, from number n on, and the column of the first row that a test finds wrong
abbrev pub wrong_at : ℕ → Option ℕ → Option (ℕ × ℕ) → Option (ℕ × ℕ)
wrong_at n None later = later
wrong_at n (Some column) later = Some (n, column)

abbrev pub first_wrong : {X : Type 0} → (X → Option ℕ) → ℕ → List X → Option (ℕ × ℕ)
first_wrong test n [] = None
first_wrong test n (x ∷ xs) = wrong_at n (test x) (first_wrong test (n + 1) xs)

-- the number, from n on, of the first that passes a test
abbrev pub first_number : {X : Type 0} → (X → Bool) → ℕ → List X → Option ℕ
first_number test n [] = None
first_number test n (x ∷ xs) = if test x then Some n else first_number test (n + 1) xs

-- ---- types

-- the first row, and its column, with a value that doesn't fit; column 0: a wrong count of values
abbrev pub wrong_row : Schema → List (List Datum) → Option (ℕ × ℕ)
wrong_row d rows = first_wrong (wrong_column d) 1 rows

-- the place, from n on, of the first value of a key that has another type than its column, or is NULL
abbrev pub key_misfit_from : ℕ → List Kind → List Datum → Option ℕ
key_misfit_from n [] key = None
key_misfit_from n (kind ∷ kinds) [] = None
key_misfit_from n (kind ∷ kinds) (x ∷ xs) = if is_of_kind kind x then key_misfit_from (n + 1) kinds xs else Some n

-- 0 where the key has another number of values than there are key columns, else the place of the first misfit
abbrev pub wrong_key_column : List Kind → List Datum → Option ℕ
wrong_key_column kinds key = if length key == length kinds then key_misfit_from 1 kinds key else Some 0

abbrev pub wrong_key : Schema → List (List Datum) → Option (ℕ × ℕ)
wrong_key d keys = first_wrong (wrong_key_column (key_kinds d)) 1 keys

-- ---- sizes

-- the bytes that the columns of a key take when spelled
abbrev pub columns_len : List Kind → List Datum → ℕ
columns_len (kind ∷ kinds) (x ∷ xs) = length (datum_code (is_down kind) x) + columns_len kinds xs
columns_len kinds xs = 0

abbrev pub is_large_key : List Kind → List Datum → Bool
is_large_key kinds key = nat_lt 4096 (columns_len kinds key)

-- the key columns take more than 4,096 bytes, or the row's value more than 32,768
abbrev pub is_large_row : Schema → List Datum → Bool
is_large_row d row = is_large_key (key_kinds d) (key_of d row) || nat_lt 32768 (length (row_value (cells_in d.key_columns d.columns row)))

abbrev pub large_row : Schema → List (List Datum) → Option ℕ
large_row d rows = first_number (is_large_row d) 1 rows

abbrev pub large_key : Schema → List (List Datum) → Option ℕ
large_key d keys = first_number (is_large_key (key_kinds d)) 1 keys

-- ---- keys that come twice

-- the number of the first key, after those that were seen, that came earlier
abbrev pub repeated_after : (Key → Key → Ordering) → List Key → List Key → Option ℕ
repeated_after cmp seen [] = None
repeated_after cmp seen (k ∷ ks) = if list_any (λ x. is_eq (cmp x k)) seen then Some (length seen + 1) else repeated_after cmp (seen ++ k ∷ []) ks

abbrev pub repeated_key : Schema → List Key → Option ℕ
repeated_key d keys = repeated_after (key_order d) [] keys

abbrev pub repeated_row : Schema → List (List Datum) → Option ℕ
repeated_row d rows = repeated_key d (map (key_of d) rows)

-- ---- ranges

-- lo isn't before hi in the order of rows
abbrev pub is_empty_range : Schema → Key → Key → Bool
is_empty_range d lo hi = not (is_lt (key_order d lo hi))
