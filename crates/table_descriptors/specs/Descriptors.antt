-- Descriptors of tables, how a new one is made, and how one is changed.
use Rattle.std.specs.Prelude.{◌≡◌, ℕ, ◌+◌, ◌-◌, ◌^◌, ◌<◌, ◌≤◌, Bool, true, false, not, ◌&&◌, ◌||◌, ◌==◌, nat_lt, nat_le, Option, Some, None, option_map, unwrap_or, position, if◌then◌else◌, List, [], ◌∷◌, ◌++◌, map, length, filter}
use Rattle.std.specs.List.{list_any, list_all, find, slice_get}
use Rattle.std.specs.Str.{bytes_eq}
use Rattle.mvcc_keys.specs.Times.{Time, IsTime}
use Rattle.table_descriptors.specs.Names.{is_name}
use Rattle.table_descriptors.specs.Fields.{is_id}
use Rattle.table_descriptors.specs.declared.changes.Change.{Change}
use Rattle.table_descriptors.specs.declared.changes.Change.TheVariants.{Add, Remove, RenameColumn, Rename, Become}
use Rattle.row_codec.specs.declared.rows.Kind.{Kind}
use Rattle.row_codec.specs.declared.rows.Kind.TheVariants.{Int, Text, Bytes, Bool as Truth, IntDown, TextDown, BytesDown, BoolDown}
use Rattle.table_descriptors.specs.declared.columns.Column.{Column}
use Rattle.table_descriptors.specs.declared.faults.SchemaFault.{SchemaFault}
use Rattle.table_descriptors.specs.declared.faults.SchemaFault.TheVariants.{BadSchema, Memory}
use Rattle.table_descriptors.specs.declared.columns.State.{State}
use Rattle.table_descriptors.specs.declared.columns.State.TheVariants.{Public}

-- a table as it is from a date on: key columns and descending ones by id, in key order
pub record Schema : Type 0 where
  pub id : ℕ
  pub version : ℕ
  pub database : List ℕ
  pub name : List ℕ
  pub state : State
  pub columns : List Column
  pub key_columns : List ℕ
  pub references : List ℕ
  pub next_column : ℕ
  pub modified : Time
  pub down : List ℕ

-- ---- a new table

-- one element is the same as a later one
abbrev pub repeats : {X : Type 0} → (X → X → Bool) → List X → Bool
repeats same [] = false
repeats same (x ∷ xs) = list_any (λ y. same y x) xs || repeats same xs

abbrev pub repeats_column : List (List ℕ × Kind) → Bool
repeats_column columns = repeats (λ c d. bytes_eq c.0 d.0) columns

abbrev pub repeats_key_column : List (List ℕ × Bool) → Bool
repeats_key_column key = repeats (λ c d. bytes_eq c.0 d.0) key

abbrev pub repeats_id : List ℕ → Bool
repeats_id ids = repeats (λ x y. x == y) ids

-- each key column is a column
abbrev pub are_columns : List (List ℕ × Kind) → List (List ℕ × Bool) → Bool
are_columns columns key = list_all (λ k. list_any (λ c. bytes_eq c.0 k.0) columns) key

-- the least number of a rule that a new table breaks: 1 a repeated column name; 2 a key column that
-- isn't a column; 3 a repeated key column; 4 more than 64 columns; 8 a repeated reference
abbrev pub broken_rule : List (List ℕ × Kind) → List (List ℕ × Bool) → Bool → Option ℕ
broken_rule columns key repeats_reference =
    if repeats_column columns then Some 1
    else (if not (are_columns columns key) then Some 2
    else (if repeats_key_column key then Some 3
    else (if nat_lt 64 (length columns) then Some 4
    else (if repeats_reference then Some 8 else None))))

-- the same, where the references are ids
abbrev pub bad_schema : List (List ℕ × Kind) → List (List ℕ × Bool) → List ℕ → Option ℕ
bad_schema columns key references = broken_rule columns key (repeats_id references)

-- what a fault says of the rule that is broken
abbrev pub FaultOf : SchemaFault → Option ℕ → Type 0
FaultOf (BadSchema which) rule = rule ≡ Some which
FaultOf Memory rule = Unit {0}

-- a kind without its direction, which only key columns have
abbrev pub upright : Kind → Kind
upright Int = Int
upright Text = Text
upright Bytes = Bytes
upright Truth = Truth
upright IntDown = Int
upright TextDown = Text
upright BytesDown = Bytes
upright BoolDown = Truth

-- columns with ids from a number on
abbrev pub numbered : ℕ → List (List ℕ × Kind) → List Column
numbered n [] = []
numbered n (c ∷ cs) = record { id = n; name = c.0; kind = upright c.1 } ∷ numbered (n + 1) cs

abbrev pub place_of : List (List ℕ × Kind) → List ℕ → Option ℕ
place_of columns name = position (λ c. bytes_eq c.0 name) columns

-- the id of the column at a place, where columns have ids from 1 on
abbrev pub id_at : Option ℕ → ℕ
id_at None = 0
id_at (Some place) = place + 1

-- the id of the first column of that name
abbrev pub id_of : List (List ℕ × Kind) → List ℕ → ℕ
id_of columns name = id_at (place_of columns name)

abbrev pub key_ids : List (List ℕ × Kind) → List (List ℕ × Bool) → List ℕ
key_ids columns key = map (λ k. id_of columns k.0) key

-- the ids of the key columns that descend, in key order
abbrev pub down_ids : List (List ℕ × Kind) → List (List ℕ × Bool) → List ℕ
down_ids columns key = map (λ k. id_of columns k.0) (filter (λ k. k.1) key)

-- the first descriptor of a new table
unfoldable pub new_schema : ℕ → List ℕ → List ℕ → List (List ℕ × Kind) → List (List ℕ × Bool) → List ℕ → Time → Schema
new_schema id database name columns key references at = record {
  id = id;
  version = 1;
  database = database;
  name = name;
  state = Public;
  columns = numbered 1 columns;
  key_columns = key_ids columns key;
  references = references;
  next_column = length columns + 1;
  modified = at;
  down = down_ids columns key;
}

-- ---- every descriptor

-- the key of the last of some values, 0 where there is none
abbrev pub last_key : {X : Type 0} → (X → ℕ) → List X → ℕ
last_key key xs = unwrap_or (option_map key (slice_get xs (length xs - 1))) 0

-- keys ascend strictly, from above a number
abbrev pub ascends : {X : Type 0} → (X → ℕ) → ℕ → List X → Bool
ascends key last [] = true
ascends key last (x ∷ xs) = nat_lt last (key x) && ascends key (key x) xs

abbrev pub column_id : Column → ℕ
column_id c = c.id

-- the later of two columns has the earlier's name
abbrev pub same_name : Column → Column → Bool
same_name c d = bytes_eq c.name d.name

abbrev pub has_id : ℕ → List ℕ → Bool
has_id id ids = list_any (λ x. x == id) ids

abbrev pub is_column : ℕ → List Column → Bool
is_column id columns = list_any (λ (c : Column). c.id == id) columns

-- a kind without a direction
abbrev pub is_upright : Kind → Bool
is_upright Int = true
is_upright Text = true
is_upright Bytes = true
is_upright Truth = true
is_upright kind = false

-- what is true of the columns of every descriptor: from 1 to 64 of them, ids strictly ascending from 1, names that are names and
-- differ, kinds without a direction
pub record AreProperColumns (columns : List Column) : Type 0 where
  pub some : 0 < length columns
  pub few : length columns ≤ 64
  pub ascend : ascends column_id 0 columns ≡ true
  pub named : list_all (λ (c : Column). is_name c.name) columns ≡ true
  pub differ : repeats same_name columns ≡ false
  pub kinds : list_all (λ (c : Column). is_upright c.kind) columns ≡ true

-- what is true of every descriptor: the version is from 1; the column ids are below the next one; there is a key column, key columns
-- are columns and differ, and so do references; the descending ones are some of the key columns, in key order. Ids, the version and
-- the next column id have 32 bits
pub record IsProperSchema (d : Schema) : Type 0 where
  pub id : d.id < 2 ^ 32
  pub from_one : 0 < d.version
  pub version : d.version < 2 ^ 32
  pub database : is_name d.database ≡ true
  pub name : is_name d.name ≡ true
  pub columns : AreProperColumns d.columns
  pub key : 0 < length d.key_columns
  pub key_columns : list_all (λ id. is_column id d.columns) d.key_columns ≡ true
  pub differ : repeats_id d.key_columns ≡ false
  pub references : list_all is_id d.references ≡ true
  pub once : repeats_id d.references ≡ false
  pub next : last_key column_id d.columns < d.next_column
  pub next_column : d.next_column < 2 ^ 32
  pub modified : IsTime d.modified
  pub down : filter (λ id. has_id id d.down) d.key_columns ≡ d.down

-- ---- changes

abbrev pub has_column : List ℕ → List Column → Bool
has_column name columns = list_any (λ (c : Column). bytes_eq c.name name) columns

-- some column of that name is a key column
abbrev pub is_key_name : Schema → List ℕ → Bool
is_key_name d name = list_any (λ (c : Column). bytes_eq c.name name && has_id c.id d.key_columns) d.columns

-- a column is added to 64
abbrev pub adds_too_many : Schema → Change → Bool
adds_too_many d (Add name kind) = nat_le 64 (length d.columns)
adds_too_many d change = false

-- a key column is dropped
abbrev pub drops_key : Schema → Change → Bool
drops_key d (Remove name) = is_key_name d name
drops_key d change = false

-- the new column name is taken
abbrev pub takes_name : Schema → Change → Bool
takes_name d (Add name kind) = has_column name d.columns
takes_name d (RenameColumn from to) = has_column to d.columns
takes_name d change = false

-- the named column isn't there
abbrev pub names_none : Schema → Change → Bool
names_none d (Remove name) = not (has_column name d.columns)
names_none d (RenameColumn from to) = not (has_column from d.columns)
names_none d change = false

-- a column is added and the next column id is the last one
abbrev pub lacks_ids : Schema → Change → Bool
lacks_ids d (Add name kind) = nat_le 4294967295 d.next_column
lacks_ids d change = false

-- the least number of a rule that a change breaks
abbrev pub bad_change : Schema → Change → Option ℕ
bad_change d change =
    if adds_too_many d change then Some 4
    else (if drops_key d change then Some 5
    else (if takes_name d change then Some 6
    else (if names_none d change then Some 7
    else (if lacks_ids d change then Some 9 else None))))

-- a column under another name, if it has the first one
abbrev pub renamed : List ℕ → List ℕ → Column → Column
renamed from to c = if bytes_eq c.name from then record { id = c.id; name = to; kind = c.kind } else c

-- an added column takes the next column id
abbrev pub columns_after : Schema → Change → List Column
columns_after d (Add name kind) = d.columns ++ record { id = d.next_column; name = name; kind = upright kind } ∷ []
columns_after d (Remove name) = filter (λ (c : Column). not (bytes_eq c.name name)) d.columns
columns_after d (RenameColumn from to) = map (renamed from to) d.columns
columns_after d change = d.columns

abbrev pub next_after : Schema → Change → ℕ
next_after d (Add name kind) = d.next_column + 1
next_after d change = d.next_column

abbrev pub name_after : Schema → Change → List ℕ
name_after d (Rename to) = to
name_after d change = d.name

abbrev pub state_after : Schema → Change → State
state_after d (Become state) = state
state_after d change = d.state

-- the descriptor that follows, of the next version
unfoldable pub changed_schema : Schema → Change → Time → Schema
changed_schema d change at = record {
  id = d.id;
  version = d.version + 1;
  database = d.database;
  name = name_after d change;
  state = state_after d change;
  columns = columns_after d change;
  key_columns = d.key_columns;
  references = d.references;
  next_column = next_after d change;
  modified = at;
  down = d.down;
}

-- ---- key kinds

-- the kind of a descending key column
abbrev pub turned : Kind → Kind
turned Int = IntDown
turned Text = TextDown
turned Bytes = BytesDown
turned Truth = BoolDown
turned IntDown = IntDown
turned TextDown = TextDown
turned BytesDown = BytesDown
turned BoolDown = BoolDown

-- the kind of the column of an id, INT where there is none
abbrev pub kind_of : List Column → ℕ → Kind
kind_of columns id = unwrap_or (option_map (λ (c : Column). c.kind) (find (λ (c : Column). c.id == id) columns)) Int

-- the kind of a key column, with its direction
abbrev pub key_kind : Schema → ℕ → Kind
key_kind d id = if has_id id d.down then turned (kind_of d.columns id) else kind_of d.columns id

-- the kinds of the key columns, in key order
abbrev pub key_kinds : Schema → List Kind
key_kinds d = map (key_kind d) d.key_columns
