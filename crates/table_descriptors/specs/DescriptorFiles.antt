-- Descriptors in files: how they are spelled, and how they are read.
use Rattle.std.specs.Prelude.{◌≡◌, ℕ, ◌<◌, ◌^◌, ◌+◌, Bool, true, false, not, ◌&&◌, ◌||◌, ◌==◌, nat_lt, nat_le, nat_eq, Option, Some, None, Result, Ok, List, [], ◌∷◌, ◌++◌, map, length, filter, if◌then◌else◌}
use Rattle.std.specs.List.{list_any}
use Rattle.std.specs.BTreeSet.{BTreeSet, contains}
use Rattle.std.specs.Ordering.{nat_cmp}
use Rattle.key_encoding.specs.Spelling.{uvarint}
use Rattle.mvcc_keys.specs.Times.{Time}
use Rattle.mvcc_keys.specs.Codes.{time_bytes}
use Rattle.list_laws.specs.Bytes.{AreBytes}
use Rattle.row_codec.specs.declared.rows.Kind.{Kind}
use Rattle.row_codec.specs.declared.rows.Kind.TheVariants.{Int, Text, Bytes, Bool as Truth}
use Rattle.row_codec.specs.RowValues.{sized}
use Rattle.table_descriptors.specs.declared.columns.Column.{Column}
use Rattle.table_descriptors.specs.declared.columns.State.{State}
use Rattle.table_descriptors.specs.declared.columns.State.TheVariants.{Public, Offline, Dropped}
use Rattle.table_descriptors.specs.Descriptors.{Schema, IsProperSchema, last_key, column_id, has_id, is_column, has_column}
use Rattle.table_descriptors.specs.Fields.{◌then◌, made_of, such, list_code, read_list, read_id, read_count, read_name, read_time, read_byte, flag_of, flag_code, whole}

-- ---- marks

-- 01, or 02 where each key column comes with a flag for its direction
abbrev pub form_of : ℕ → Option Bool
form_of x = if nat_eq x 1 then Some false else if nat_eq x 2 then Some true else None

abbrev pub form_code : Bool → ℕ
form_code descends = if descends then 2 else 1

abbrev pub state_of : ℕ → Option State
state_of x = if nat_eq x 1 then Some Public else if nat_eq x 2 then Some Offline else if nat_eq x 3 then Some Dropped else None

abbrev pub state_code : State → ℕ
state_code Public = 1
state_code Offline = 2
state_code Dropped = 3

abbrev pub kind_at : ℕ → Option Kind
kind_at x = if nat_eq x 1 then Some Int else if nat_eq x 2 then Some Text else if nat_eq x 3 then Some Bytes else if nat_eq x 4 then Some Truth else None

-- only kinds without a direction are spelled
abbrev pub kind_code : Kind → ℕ
kind_code Int = 1
kind_code Text = 2
kind_code Bytes = 3
kind_code Truth = 4
kind_code kind = 0

-- ---- spelling

abbrev pub column_code : Column → List ℕ
column_code c = uvarint c.id ++ (sized c.name ++ kind_code c.kind ∷ [])

-- a key column and whether it descends, which is told where some key column descends
abbrev pub direction_code : Bool → Bool → List ℕ
direction_code descends down = if descends then flag_code down ∷ [] else []

abbrev pub key_code : Bool → ℕ × Bool → List ℕ
key_code descends k = uvarint k.0 ++ direction_code descends k.1

-- some key column descends
abbrev pub descends : Schema → Bool
descends d = nat_lt 0 (length d.down)

-- the key columns, each with whether it descends
abbrev pub directed : List ℕ → List ℕ → List (ℕ × Bool)
directed down ids = map (λ id. (id, has_id id down)) ids

-- database, name, state
abbrev pub names_code : Schema → List ℕ
names_code d = sized d.database ++ (sized d.name ++ state_code d.state ∷ [])

-- form, id, version, and those
abbrev pub front_code : Schema → List ℕ
front_code d = form_code (descends d) ∷ (uvarint d.id ++ (uvarint d.version ++ names_code d))

-- columns, key columns, references, next column id, date
abbrev pub back_code : Schema → List ℕ
back_code d =
    list_code column_code d.columns ++ (list_code (key_code (descends d)) (directed d.down d.key_columns) ++ (list_code uvarint d.references ++ (uvarint d.next_column ++ time_bytes d.modified)))

unfoldable pub schema_code : Schema → List ℕ
schema_code d = front_code d ++ back_code d

-- ---- reading

abbrev pub column_of : ℕ × (List ℕ × Kind) → Column
column_of p = record { id = p.0; name = p.1.0; kind = p.1.1 }

-- a column after others: a greater id, a new name, and a kind
unfoldable pub read_column : List Column → List ℕ → Result (Column × List ℕ) ℕ
read_column before b =
    made_of column_of ((such (λ id. nat_lt (last_key column_id before) id) read_id then (λ id. such (λ name. not (has_column name before)) read_name then (λ name. read_byte kind_at))) b)

abbrev pub is_column_count : ℕ → Bool
is_column_count n = nat_lt 0 n && nat_le n 64

abbrev pub read_columns : List ℕ → Result (List Column × List ℕ) ℕ
read_columns = read_list is_column_count (λ n. read_column)

abbrev pub key_id : ℕ × Bool → ℕ
key_id k = k.0

abbrev pub is_down : ℕ × Bool → Bool
is_down k = k.1

abbrev pub has_key : ℕ → List (ℕ × Bool) → Bool
has_key id keys = list_any (λ k. key_id k == id) keys

-- a key column has to descend if it is the last of so many, and none before it does
abbrev pub has_to_descend : ℕ → List (ℕ × Bool) → Bool
has_to_descend count before = (length before + 1 == count) && not (list_any is_down before)

abbrev pub read_direction : Bool → Bool → List ℕ → Result (Bool × List ℕ) ℕ
read_direction descends has_to b = if descends then such (λ down. down || not has_to) (read_byte flag_of) b else Ok (false, b)

-- a key column after others: the id of another column, and in the second form its direction
unfoldable pub read_key : Bool → List Column → ℕ → List (ℕ × Bool) → List ℕ → Result ((ℕ × Bool) × List ℕ) ℕ
read_key descends columns count before b =
    (such (λ id. is_column id columns && not (has_key id before)) read_id then (λ id. read_direction descends (has_to_descend count before))) b

abbrev pub read_keys : Bool → List Column → List ℕ → Result (List (ℕ × Bool) × List ℕ) ℕ
read_keys descends columns = read_list (λ n. nat_lt 0 n) (read_key descends columns)

-- a reference after others
unfoldable pub read_reference : List ℕ → List ℕ → Result (ℕ × List ℕ) ℕ
read_reference before b = such (λ id. not (has_id id before)) read_id b

-- a set has just these ids
abbrev pub IsSetOf : BTreeSet ℕ → List ℕ → Type 0
IsSetOf s ids = (q : ℕ) → contains nat_cmp s q ≡ has_id q ids

abbrev pub read_references : List ℕ → Result (List ℕ × List ℕ) ℕ
read_references = read_list (λ n. true) (λ n. read_reference)

-- the next column id is above the columns' ids
abbrev pub read_next : List Column → List ℕ → Result (ℕ × List ℕ) ℕ
read_next columns = such (λ id. nat_lt (last_key column_id columns) id) read_id

-- the fields of a descriptor: form, id, version, database, name, state, columns, key columns, references, next column id, date
abbrev pub SchemaFields : Type 0
SchemaFields = Bool × (ℕ × (ℕ × (List ℕ × (List ℕ × (State × (List Column × (List (ℕ × Bool) × (List ℕ × (ℕ × Time)))))))))

abbrev pub read_fields : List ℕ → Result (SchemaFields × List ℕ) ℕ
read_fields =
    read_byte form_of then (λ descends. read_id then (λ id. read_count then (λ version. read_name then (λ database. read_name then (λ name. read_byte state_of then (λ state.
    read_columns then (λ columns. read_keys descends columns then (λ keys. read_references then (λ references. read_next columns then (λ next. read_time))))))))))

abbrev pub down_of : List (ℕ × Bool) → List ℕ
down_of keys = map key_id (filter is_down keys)

abbrev pub schema_of : SchemaFields → Schema
schema_of p = record {
  id = p.1.0;
  version = p.1.1.0;
  database = p.1.1.1.0;
  name = p.1.1.1.1.0;
  state = p.1.1.1.1.1.0;
  columns = p.1.1.1.1.1.1.0;
  key_columns = map key_id p.1.1.1.1.1.1.1.0;
  references = p.1.1.1.1.1.1.1.1.0;
  next_column = p.1.1.1.1.1.1.1.1.1.0;
  modified = p.1.1.1.1.1.1.1.1.1.1;
  down = down_of p.1.1.1.1.1.1.1.0;
}

-- a descriptor in front, and what follows it
unfoldable pub read_schema : List ℕ → Result (Schema × List ℕ) ℕ
read_schema b = made_of schema_of (read_fields b)

-- a descriptor alone, or the place where the first field begins that doesn't read, or the first byte left over
unfoldable pub read_descriptor : List ℕ → Result Schema ℕ
read_descriptor b = whole (length b) (read_schema b)

-- descriptors are read as they are written, and different ones have different bytes
pub record DescriptorsAreExact : Type 0 where
  pub found : (d : Schema) → IsProperSchema d → read_descriptor (schema_code d) ≡ Ok d
  pub only : (b : List ℕ) (d : Schema) → AreBytes b → read_descriptor b ≡ Ok d → IsProperSchema d × (b ≡ schema_code d)
  -- the bytes have a length of 64 bits
  pub sized : (d : Schema) → IsProperSchema d → length (schema_code d) < 2 ^ 64
  pub apart : (d e : Schema) → IsProperSchema d → IsProperSchema e → schema_code d ≡ schema_code e → d ≡ e
