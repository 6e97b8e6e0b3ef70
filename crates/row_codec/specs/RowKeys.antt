-- Row keys: how they are spelled, and that their bytes are in the order of rows.
use Rattle.std.specs.Prelude.{◌≡◌, ℕ, ◌^◌, ◌<◌, ℤ, pos, Bool, true, false, ◌&&◌, nat_eq, Ok, List, [], ◌∷◌, ◌++◌, if◌then◌else◌}
use Rattle.std.specs.List.{AllByRecursion}
use Rattle.std.specs.Str.{is_utf8}
use Rattle.key_encoding.specs.Coding.{IsSignedWord, IsOrderedCode}
use Rattle.list_laws.specs.Bytes.{AreBytes}
use Rattle.key_encoding.specs.Spelling.{uvarint, varint, varint_down, bytes_code, bytes_down_code}
use Rattle.row_codec.specs.KeyReading.{read_row_key}
use Rattle.row_codec.specs.RowOrder.{rank, is_down, row_cmp}
use Rattle.row_codec.specs.declared.rows.Kind.{Kind}
use Rattle.row_codec.specs.declared.rows.Kind.TheVariants.{Int as KindInt, Text as KindText, Bytes as KindBytes, Bool as KindBool, IntDown, TextDown, BytesDown, BoolDown}
use Rattle.row_codec.specs.declared.rows.Datum.{Datum}
use Rattle.row_codec.specs.declared.rows.Datum.TheVariants.{Int, Text, Bytes, Bool as Truth, Null}

-- ---- values of kinds

-- the rank of a kind's values
abbrev pub kind_rank : Kind → ℕ
kind_rank KindInt = 1
kind_rank KindText = 2
kind_rank KindBytes = 3
kind_rank KindBool = 4
kind_rank IntDown = 1
kind_rank TextDown = 2
kind_rank BytesDown = 3
kind_rank BoolDown = 4

abbrev pub is_of_kind : Kind → Datum → Bool
is_of_kind kind x = nat_eq (rank x) (kind_rank kind)

-- one value for each kind, of that kind
abbrev pub are_of_kinds : List Kind → List Datum → Bool
are_of_kinds [] [] = true
are_of_kinds (kind ∷ kinds) (x ∷ xs) = is_of_kind kind x && are_of_kinds kinds xs
are_of_kinds kinds xs = false

-- what a value's Rust type says of it
abbrev pub IsValue : Datum → Type 0
IsValue (Int n) = IsSignedWord n
IsValue (Text t) = AreBytes t × (is_utf8 t ≡ true)
IsValue (Bytes b) = AreBytes b
IsValue (Truth b) = Unit {0}
IsValue Null = Unit {0}

-- a key of these kinds
abbrev pub IsKey : List Kind → List Datum → Type 0
IsKey kinds xs = (are_of_kinds kinds xs ≡ true) × AllByRecursion IsValue xs

-- ---- spelling

abbrev pub number_code : Bool → ℤ → List ℕ
number_code down z = if down then varint_down z else varint z

abbrev pub string_code : Bool → List ℕ → List ℕ
string_code down b = if down then bytes_down_code b else bytes_code b

-- false is 0, and true is 1
abbrev pub truth_number : Bool → ℤ
truth_number b = if b then pos 1 else pos 0

-- a value of a column, ascending or descending
abbrev pub datum_code : Bool → Datum → List ℕ
datum_code down (Int n) = number_code down n
datum_code down (Text t) = string_code down t
datum_code down (Bytes b) = string_code down b
datum_code down (Truth b) = number_code down (truth_number b)
datum_code down Null = []

-- the values, and 88 for the column family
abbrev pub values_code : List Kind → List Datum → List ℕ
values_code (kind ∷ kinds) (x ∷ xs) = datum_code (is_down kind) x ++ values_code kinds xs
values_code kinds xs = 136 ∷ []

-- the table, 89 for the index, and the values
unfoldable pub row_key : ℕ → List Kind → List Datum → List ℕ
row_key table kinds xs = uvarint table ++ 137 ∷ values_code kinds xs

-- ---- laws

-- the bytes of row keys of one table with these kinds are in the order of rows, whatever follows
abbrev pub RowKeysAreOrdered : Type 0
RowKeysAreOrdered = (table : ℕ) (kinds : List Kind) → table < 2 ^ 32 → IsOrderedCode (IsKey kinds) (row_cmp kinds) (row_key table kinds)

-- row keys of these kinds are read as they are; no key begins another, and different ones have different bytes
pub record RowKeysAreExact : Type 0 where
  pub found : (kinds : List Kind) (table : ℕ) (xs : List Datum) → table < 2 ^ 32 → IsKey kinds xs → read_row_key kinds (row_key table kinds xs) ≡ Ok (table, xs)
  pub only : (kinds : List Kind) (b : List ℕ) (table : ℕ) (xs : List Datum) → AreBytes b → read_row_key kinds b ≡ Ok (table, xs)
      → (table < 2 ^ 32) × IsKey kinds xs × (b ≡ row_key table kinds xs)
  pub apart : (kinds : List Kind) (t u : ℕ) (xs ys : List Datum) (r s : List ℕ) → t < 2 ^ 32 → u < 2 ^ 32 → IsKey kinds xs → IsKey kinds ys
      → row_key t kinds xs ++ r ≡ row_key u kinds ys ++ s → (t ≡ u) × (xs ≡ ys) × (r ≡ s)
