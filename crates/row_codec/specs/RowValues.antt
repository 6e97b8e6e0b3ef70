-- Row values: lists of cells with ascending column ids, how they are spelled and read.
use Rattle.std.specs.Prelude.{◌≡◌, ℕ, zero, suc, ◌-◌, ◌^◌, ◌<◌, Bool, true, false, ◌&&◌, nat_lt, nat_le, nat_eq, Option, Some, None, Result, Ok, Err, List, [], ◌∷◌, ◌++◌, length, take, drop, if◌then◌else◌}
use Rattle.std.specs.List.{AllByRecursion}
use Rattle.list_laws.specs.Bytes.{AreBytes}
use Rattle.key_encoding.specs.Spelling.{uvarint, varint}
use Rattle.key_encoding.specs.Reading.{read_uvarint, read_varint}
use Rattle.key_encoding.specs.declared.fault.KeyFault.{KeyFault}
use Rattle.row_codec.specs.RowOrder.{rank}
use Rattle.row_codec.specs.RowKeys.{IsValue}
use Rattle.row_codec.specs.KeyReading.{valued, an_id, a_number, a_text, some_bytes}
use Rattle.row_codec.specs.declared.rows.Cell.{Cell}
use Rattle.row_codec.specs.declared.rows.Datum.{Datum}
use Rattle.row_codec.specs.declared.rows.Datum.TheVariants.{Int, Text, Bytes, Bool as Truth, Null}

-- cells with column ids that ascend from above the last one, and without NULL
abbrev pub are_cells : ℕ → List Cell → Bool
are_cells last [] = true
are_cells last (c ∷ cs) = nat_lt last c.column && nat_lt 0 (rank c.datum) && are_cells c.column cs

-- bytes whose length has 64 bits
abbrev pub IsSized : Datum → Type 0
IsSized (Text t) = length t < 2 ^ 64
IsSized (Bytes b) = length b < 2 ^ 64
IsSized x = Unit {0}

-- what a cell's Rust type says of it
abbrev pub IsCell : Cell → Type 0
IsCell c = (c.column < 2 ^ 32) × IsValue c.datum × IsSized c.datum

-- ---- spelling

-- the length, and the bytes
abbrev pub sized : List ℕ → List ℕ
sized b = uvarint (length b) ++ b

-- the mark of a type, and the value
unfoldable pub marked_value : Datum → List ℕ
marked_value (Int n) = 1 ∷ varint n
marked_value (Text t) = 2 ∷ sized t
marked_value (Bytes b) = 3 ∷ sized b
marked_value (Truth b) = 4 ∷ (if b then 1 else 0) ∷ []
marked_value Null = []

abbrev pub cell_code : Cell → List ℕ
cell_code c = uvarint c.column ++ marked_value c.datum

abbrev pub row_value : List Cell → List ℕ
row_value [] = []
row_value (c ∷ cs) = cell_code c ++ row_value cs

-- ---- reading

-- as many bytes as a length says
abbrev pub cut : Result (ℕ × List ℕ) KeyFault → Option (List ℕ × List ℕ)
cut (Ok p) = if nat_le p.0 (length p.1) then Some (take p.0 p.1, drop p.0 p.1) else None
cut (Err e) = None

unfoldable pub read_sized : List ℕ → Option (List ℕ × List ℕ)
read_sized b = cut (read_uvarint b)

abbrev pub beside_rest : List ℕ → Option Datum → Option (Datum × List ℕ)
beside_rest rest (Some x) = Some (x, rest)
beside_rest rest None = None

-- a value of what was cut off
abbrev pub made : (List ℕ → Option Datum) → Option (List ℕ × List ℕ) → Option (Datum × List ℕ)
made f (Some p) = beside_rest p.1 (f p.0)
made f None = None

abbrev pub read_flag : List ℕ → Option (Datum × List ℕ)
read_flag [] = None
read_flag (x ∷ rest) = if nat_eq x 0 then Some (Truth false, rest) else if nat_eq x 1 then Some (Truth true, rest) else None

-- a value after the mark of its type
abbrev pub after_mark : ℕ → List ℕ → Option (Datum × List ℕ)
after_mark mark rest =
    if nat_eq mark 1 then valued a_number (read_varint rest)
    else if nat_eq mark 2 then made a_text (read_sized rest)
    else if nat_eq mark 3 then made some_bytes (read_sized rest)
    else if nat_eq mark 4 then read_flag rest
    else None

unfoldable pub read_marked_value : List ℕ → Option (Datum × List ℕ)
read_marked_value [] = None
read_marked_value (mark ∷ rest) = after_mark mark rest

-- a cell of a column after the last one
abbrev pub of_column : ℕ → Option (Datum × List ℕ) → Option (Cell × List ℕ)
of_column column (Some p) = Some (record { column = column; datum = p.0 }, p.1)
of_column column None = None

abbrev pub after_column : ℕ → Option (ℕ × List ℕ) → Option (Cell × List ℕ)
after_column last (Some p) = if nat_lt last p.0 then of_column p.0 (read_marked_value p.1) else None
after_column last None = None

unfoldable pub read_cell : ℕ → List ℕ → Option (Cell × List ℕ)
read_cell last b = after_column last (valued an_id (read_uvarint b))

abbrev pub with_cell : Cell → Result (List Cell) ℕ → Result (List Cell) ℕ
with_cell c (Ok cs) = Ok (c ∷ cs)
with_cell c (Err o) = Err o

-- more cells in front
abbrev pub with_cells : List Cell → Result (List Cell) ℕ → Result (List Cell) ℕ
with_cells cs (Ok ds) = Ok (cs ++ ds)
with_cells cs (Err o) = Err o

-- a cell that reads, and those after it
abbrev pub next_cell : (ℕ → List ℕ → Result (List Cell) ℕ) → ℕ → Option (Cell × List ℕ) → Result (List Cell) ℕ
next_cell others at (Some p) = with_cell p.0 (others p.0.column p.1)
next_cell others at None = Err at

-- cells up to the end of an input of len bytes, at most n of them; an error is the place where the first that doesn't read begins
abbrev pub read_cells : ℕ → ℕ → ℕ → List ℕ → Result (List Cell) ℕ
read_cells n last len [] = Ok []
read_cells zero last len (x ∷ b) = Err (len - length (x ∷ b))
read_cells (suc n) last len (x ∷ b) = next_cell (λ column rest. read_cells n column len rest) (len - length (x ∷ b)) (read_cell last (x ∷ b))

-- each cell takes a byte
abbrev pub read_row_value : List ℕ → Result (List Cell) ℕ
read_row_value b = read_cells (length b) 0 (length b) b

abbrev pub reads : Result (List Cell) ℕ → Bool
reads (Ok cs) = true
reads (Err o) = false

-- row values are read as they are written, and different ones have different bytes
pub record RowValuesAreExact : Type 0 where
  pub found : (cells : List Cell) → are_cells 0 cells ≡ true → AllByRecursion IsCell cells → read_row_value (row_value cells) ≡ Ok cells
  pub only : (b : List ℕ) (cells : List Cell) → AreBytes b → read_row_value b ≡ Ok cells
      → (are_cells 0 cells ≡ true) × AllByRecursion IsCell cells × (b ≡ row_value cells)
  pub apart : (cs ds : List Cell) → are_cells 0 cs ≡ true → are_cells 0 ds ≡ true → AllByRecursion IsCell cs → AllByRecursion IsCell ds → row_value cs ≡ row_value ds → cs ≡ ds
