-- The order of rows.
use Rattle.std.specs.Prelude.{ℕ, Bool, true, false, List, [], ◌∷◌, drop, if◌then◌else◌}
use Rattle.std.specs.Ordering.{nat_cmp, int_cmp, bool_cmp, ordering_then}
use Rattle.std.specs.declared.cmp.Ordering.{Ordering}
use Rattle.std.specs.declared.cmp.Ordering.TheVariants.{Less, Equal, Greater}
use Rattle.std.specs.Cmp.Lexicographic.{slice_cmp}
use Rattle.row_codec.specs.declared.rows.Kind.{Kind}
use Rattle.row_codec.specs.declared.rows.Kind.TheVariants.{Int as KindInt, Text as KindText, Bytes as KindBytes, Bool as KindBool, IntDown, TextDown, BytesDown, BoolDown}
use Rattle.row_codec.specs.declared.rows.Datum.{Datum}
use Rattle.row_codec.specs.declared.rows.Datum.TheVariants.{Int, Text, Bytes, Bool as Truth, Null}

-- values of unlike types in some order, which no key of a table needs
abbrev pub rank : Datum → ℕ
rank Null = 0
rank (Int n) = 1
rank (Text t) = 2
rank (Bytes b) = 3
rank (Truth b) = 4

-- numbers as numbers, texts and bytes bytewise, false before true
abbrev pub datum_cmp : Datum → Datum → Ordering
datum_cmp (Int m) (Int n) = int_cmp m n
datum_cmp (Text s) (Text t) = slice_cmp nat_cmp s t
datum_cmp (Bytes s) (Bytes t) = slice_cmp nat_cmp s t
datum_cmp (Truth a) (Truth b) = bool_cmp a b
datum_cmp x y = nat_cmp (rank x) (rank y)

-- the kind of a descending key column
abbrev pub is_down : Kind → Bool
is_down KindInt = false
is_down KindText = false
is_down KindBytes = false
is_down KindBool = false
is_down IntDown = true
is_down TextDown = true
is_down BytesDown = true
is_down BoolDown = true

-- the first of these columns, the other way round where it descends
abbrev pub first_cmp : List Kind → Datum → Datum → Ordering
first_cmp [] x y = datum_cmp x y
first_cmp (kind ∷ kinds) x y = if is_down kind then datum_cmp y x else datum_cmp x y

-- keys of these kinds, column after column
abbrev pub row_cmp : List Kind → List Datum → List Datum → Ordering
row_cmp kinds [] [] = Equal
row_cmp kinds [] (y ∷ ys) = Less
row_cmp kinds (x ∷ xs) [] = Greater
row_cmp kinds (x ∷ xs) (y ∷ ys) = ordering_then (first_cmp kinds x y) (row_cmp (drop 1 kinds) xs ys)
