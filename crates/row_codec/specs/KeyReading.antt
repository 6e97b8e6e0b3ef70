-- How row keys are read, with the place where the first field that doesn't read begins.
use Rattle.std.specs.Prelude.{◌≡◌, ℕ, ◌-◌, ◌^◌, ℤ, pos, negsuc, Bool, true, false, nat_lt, nat_eq, Option, Some, None, Result, Ok, Err, List, [], ◌∷◌, ◌++◌, length, if◌then◌else◌}
use Rattle.std.specs.Str.{is_utf8}
use Rattle.std.specs.Option.{option_map}
use Rattle.key_encoding.specs.Reading.{read_uvarint, read_varint, read_varint_down, read_bytes, read_bytes_down}
use Rattle.key_encoding.specs.declared.fault.KeyFault.{KeyFault}
use Rattle.row_codec.specs.declared.faults.RowFault.{RowFault}
use Rattle.row_codec.specs.declared.faults.RowFault.TheVariants.{At, Memory}
use Rattle.row_codec.specs.declared.rows.Kind.{Kind}
use Rattle.row_codec.specs.declared.rows.Kind.TheVariants.{Int as KindInt, Text as KindText, Bytes as KindBytes, Bool as KindBool, IntDown, TextDown, BytesDown, BoolDown}
use Rattle.row_codec.specs.declared.rows.Datum.{Datum}
use Rattle.row_codec.specs.declared.rows.Datum.TheVariants.{Int, Text, Bytes, Bool as Truth}

-- ---- answers

-- what a function returned, seen by view, is the reading, unless memory ran out
abbrev pub FaultGives : {Y : Type 0} → RowFault → Result Y ℕ → Type 0
FaultGives Memory read = Unit {0}
FaultGives (At o) read = read ≡ Err o

abbrev pub Gives : {X Y : Type 0} → (X → Y) → Result X RowFault → Result Y ℕ → Type 0
Gives view (Ok x) read = read ≡ Ok (view x)
Gives view (Err e) read = FaultGives e read

infixl 10 ◌>>=◌
abbrev pub ◌>>=◌ : {A B : Type 0} → Result A ℕ → (A → Result B ℕ) → Result B ℕ
(Ok x) >>= f = f x
(Err o) >>= f = Err o

-- a field, or the place where it begins
abbrev pub or_at : {A : Type 0} → ℕ → Option A → Result A ℕ
or_at at (Some x) = Ok x
or_at at None = Err at

-- ---- fields

-- a field's value of what was read, and what follows
abbrev pub valued : {X Y : Type 0} → (X → Option Y) → Result (X × List ℕ) KeyFault → Option (Y × List ℕ)
valued f (Ok p) = option_map (λ y. (y, p.1)) (f p.0)
valued f (Err e) = None

-- a number of 32 bits
abbrev pub an_id : ℕ → Option ℕ
an_id n = if nat_lt n (2 ^ 32) then Some n else None

-- a byte
abbrev pub read_byte : ℕ → List ℕ → Option (List ℕ)
read_byte x [] = None
read_byte x (y ∷ rest) = if nat_eq y x then Some rest else None

abbrev pub read_number : Bool → List ℕ → Result (ℤ × List ℕ) KeyFault
read_number down b = if down then read_varint_down b else read_varint b

abbrev pub read_string : Bool → List ℕ → Result (List ℕ × List ℕ) KeyFault
read_string down b = if down then read_bytes_down b else read_bytes b

abbrev pub a_number : ℤ → Option Datum
a_number z = Some (Int z)

abbrev pub a_text : List ℕ → Option Datum
a_text t = if is_utf8 t then Some (Text t) else None

abbrev pub some_bytes : List ℕ → Option Datum
some_bytes b = Some (Bytes b)

-- 0 is false, and 1 is true
abbrev pub a_truth : ℤ → Option Datum
a_truth (pos n) = if nat_eq n 0 then Some (Truth false) else if nat_eq n 1 then Some (Truth true) else None
a_truth (negsuc k) = None

-- a value of a kind, and what follows
unfoldable pub read_datum : Kind → List ℕ → Option (Datum × List ℕ)
read_datum KindInt b = valued a_number (read_number false b)
read_datum IntDown b = valued a_number (read_number true b)
read_datum KindText b = valued a_text (read_string false b)
read_datum TextDown b = valued a_text (read_string true b)
read_datum KindBytes b = valued some_bytes (read_string false b)
read_datum BytesDown b = valued some_bytes (read_string true b)
read_datum KindBool b = valued a_truth (read_number false b)
read_datum BoolDown b = valued a_truth (read_number true b)

-- ---- keys, in an input of len bytes

abbrev pub with_first : Datum → Result (List Datum × List ℕ) ℕ → Result (List Datum × List ℕ) ℕ
with_first x (Ok p) = Ok (x ∷ p.0, p.1)
with_first x (Err o) = Err o

-- more values in front
abbrev pub with_all : List Datum → Result (List Datum × List ℕ) ℕ → Result (List Datum × List ℕ) ℕ
with_all xs (Ok p) = Ok (xs ++ p.0, p.1)
with_all xs (Err o) = Err o

-- values of these kinds, and what follows
abbrev pub read_values : List Kind → ℕ → List ℕ → Result (List Datum × List ℕ) ℕ
read_values [] len b = Ok ([], b)
read_values (kind ∷ kinds) len b = or_at (len - length b) (read_datum kind b) >>= (λ p. with_first p.0 (read_values kinds len p.1))

-- the table, 89 for the index, the values, 88 for the column family, and what follows
unfoldable pub read_key_front : List Kind → ℕ → List ℕ → Result ((ℕ × List Datum) × List ℕ) ℕ
read_key_front kinds len b = do
  table ← or_at (len - length b) (valued an_id (read_uvarint b))
  index ← or_at (len - length table.1) (read_byte 137 table.1)
  values ← read_values kinds len index
  family ← or_at (len - length values.1) (read_byte 136 values.1)
  Ok ((table.0, values.0), family)

-- nothing follows
abbrev pub all_read : {X : Type 0} → ℕ → X × List ℕ → Result X ℕ
all_read len p = if nat_eq (length p.1) 0 then Ok p.0 else Err (len - length p.1)

-- the table and the values of a whole key
unfoldable pub read_row_key : List Kind → List ℕ → Result (ℕ × List Datum) ℕ
read_row_key kinds b = read_key_front kinds (length b) b >>= (λ p. all_read (length b) p)

-- a key of this table and these kinds
abbrev pub is_key_of : ℕ → Result (ℕ × List Datum) ℕ → Bool
is_key_of table (Ok p) = nat_eq p.0 table
is_key_of table (Err o) = false
